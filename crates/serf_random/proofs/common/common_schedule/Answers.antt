use Rattle.serf_random.proofs.Names.{ap, append_assoc, subst, sym, true, ◌++◌, ◌∙◌, ◌≡◌, flat_map, schedule_of, action_text, agent_text, comment_text, IsShort}
use Rattle.serf_random.proofs.CommentBack.{following-comment, comment-short}
use Rattle.serf_random.proofs.DraftLemmas.{all_text}
use Rattle.serf_random.proofs.common.common_schedule.Goals as goal

pub returns-clause-reads_back : goal.returns-clause-reads_back
returns-clause-reads_back g c =
    let first : c.write_comment.new.out.items ≡ comment_text true c.args.ask.now = rw c.new-text.ensures.items at c.in_ok-write_comment.ensures in
    let kept = c.in_ok-kept.ensures.kept in
    let text : c.add_common.new.text.items ≡ comment_text true c.args.ask.now ++ (flat_map agent_text c.in_ok-agents.agents ++ flat_map action_text c.in_ok-kept.kept.items) =
    kept.text_is
    ∙ ap (λ t. t ++ flat_map action_text c.in_ok-kept.kept.items) (all_text _ _ _ c.in_ok-agents.ensures ∙ ap (λ t. t ++ flat_map agent_text c.in_ok-agents.agents) first)
    ∙ append_assoc (comment_text true c.args.ask.now) (flat_map agent_text c.in_ok-agents.agents) (flat_map action_text c.in_ok-kept.kept.items) in
    ap schedule_of text
    ∙ following-comment c.comments_skipped.ensures.skipped c.comments_skipped.ensures.numbers true c.args.ask.now _ _ c.know_numbers.ensures (c.know_read_back.ensures kept.sayable)

pub returns-clause-short : goal.returns-clause-short
returns-clause-short g c =
    let first : c.write_comment.new.out.items ≡ comment_text true c.args.ask.now = rw c.new-text.ensures.items at c.in_ok-write_comment.ensures in
    c.in_ok-kept.ensures.kept.short (c.in_ok-agents.ensures.short (subst IsShort (sym first) (comment-short c.comments_skipped.ensures.numbers true c.args.ask.now c.know_numbers.ensures)))
