use Rattle.serf_random.proofs.Names.{All, ap, false, subst, sym, ◌∙◌, ◌≡◌, IsSayable, schedule_of, comment_text, IsShort}
use Rattle.serf_random.proofs.CommentBack.{following-comment, comment-short}
use Rattle.serf_random.proofs.DraftLemmas.{whole_text}
use Rattle.serf_random.proofs.make.random_schedule.Goals as goal

pub returns-clause-reads_back : goal.returns-clause-reads_back
returns-clause-reads_back g c =
    let first : c.write_comment.new.out.items ≡ comment_text false c.args.ask.now = rw c.new-text.ensures.items at c.in_ok-write_comment.ensures in
    let text = whole_text (comment_text false c.args.ask.now) c.write_comment.new.out.items c.add_agents.new.text.items c.add_actions.new.text.items
    c.in_ok-agents.agents c.args.ask.now.actions c.in_ok-actions.actions.items first c.in_ok-agents.ensures c.in_ok-actions.ensures in
    let sayable : All IsSayable c.in_ok-actions.actions.items = subst (All IsSayable) (sym c.in_ok-actions.ensures.actions) c.in_ok-actions.ensures.sayable in
    ap schedule_of text ∙ following-comment c.comments_skipped.ensures.skipped c.comments_skipped.ensures.numbers false c.args.ask.now _ _ c.know_numbers.ensures (c.know_read_back.ensures sayable)

pub returns-clause-short : goal.returns-clause-short
returns-clause-short g c =
    let first : c.write_comment.new.out.items ≡ comment_text false c.args.ask.now = rw c.new-text.ensures.items at c.in_ok-write_comment.ensures in
    c.in_ok-actions.ensures.short (c.in_ok-agents.ensures.short (subst IsShort (sym first) (comment-short c.comments_skipped.ensures.numbers false c.args.ask.now c.know_numbers.ensures)))
