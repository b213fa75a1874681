use Rattle.serf_wire.proofs.Names.{ap, codes, refl, subst, ◌∙◌, to_z-of_z, w64, SFits, max_clock, Finds, layout_of, list_in, number_in, signed_in, slot_in, status_in, text_in, time_in, truth_in}
use Rattle.serf_wire.specs.declared.layout.Kind.TheVariants as kinds
use Rattle.serf_wire.specs.declared.layout.Layout.TheVariants as layouts
use Rattle.serf_wire.proofs.Finding.{shown}
use Rattle.serf_wire.proofs.packet.message_of_fields.Goals as goal

pub returns-in-UserEvent : goal.returns-in-UserEvent
returns-in-UserEvent c = λ ps given.
    let finds : Finds layouts.UserEvent c.args.found.now ps = subst (λ m. Finds (layout_of m) c.args.found.now ps) c.in-UserEvent.is given in
    let at = shown layouts.UserEvent c.args.found.now ps finds in
    rw (
      c.in-UserEvent.is,
      c.time_or_zero.ensures ∙ ap time_in (at (codes "LTime") 0 kinds.Time _ refl c.at.ensures),
      c.text_or_empty.ensures ∙ ap text_in (at (codes "Name") 1 kinds.Text _ refl c.at-in-UserEvent.ensures),
      c.text_or_empty-in-UserEvent.ensures ∙ ap text_in (at (codes "Payload") 2 kinds.Text _ refl c.at-in-UserEvent-2.ensures),
      c.flag_or_false.ensures ∙ ap truth_in (at (codes "CC") 3 kinds.Flag _ refl c.at-in-UserEvent-3.ensures),
    ) refl

pub returns-in-Query : goal.returns-in-Query
returns-in-Query c = λ ps given.
    let finds : Finds layouts.Query c.args.found.now ps = subst (λ m. Finds (layout_of m) c.args.found.now ps) c.in-Query.is given in
    let fits : SFits w64 c.signed_or_zero.result = assumption in
    let at = shown layouts.Query c.args.found.now ps finds in
    rw (
      c.in-Query.is,
      c.time_or_zero-in-Query.ensures ∙ ap time_in (at (codes "LTime") 0 kinds.Time _ refl c.at-in-Query.ensures),
      c.natural_or_zero.ensures.value ∙ ap (number_in 0xffff_ffff) (at (codes "ID") 1 (kinds.Natural 0xffff_ffff) _ refl c.at-in-Query-2.ensures),
      c.text_or_empty-in-Query.ensures ∙ ap text_in (at (codes "Addr") 2 kinds.Text _ refl c.at-in-Query-3.ensures),
      c.natural_or_zero-in-Query.ensures.value ∙ ap (number_in 0xffff) (at (codes "Port") 3 (kinds.Natural 0xffff) _ refl c.at-in-Query-4.ensures),
      c.text_or_empty-in-Query-2.ensures ∙ ap text_in (at (codes "SourceNode") 4 kinds.Text _ refl c.at-in-Query-5.ensures),
      c.of.ensures ∙ ap (list_in text_in) (at (codes "Filters") 5 kinds.Texts _ refl c.at-in-Query-6.ensures),
      c.natural_or_zero-in-Query-2.ensures.value ∙ ap (number_in 0xffff_ffff) (at (codes "Flags") 6 (kinds.Natural 0xffff_ffff) _ refl c.at-in-Query-7.ensures),
      c.natural_or_zero-in-Query-3.ensures.value ∙ ap (number_in 0xff) (at (codes "RelayFactor") 7 (kinds.Natural 0xff) _ refl c.at-in-Query-8.ensures),
      to_z-of_z fits ∙ c.signed_or_zero.ensures ∙ ap signed_in (at (codes "Timeout") 8 kinds.Signed _ refl c.at-in-Query-9.ensures),
      c.text_or_empty-in-Query-3.ensures ∙ ap text_in (at (codes "Name") 9 kinds.Text _ refl c.at-in-Query-10.ensures),
      c.text_or_empty-in-Query-4.ensures ∙ ap text_in (at (codes "Payload") 10 kinds.Text _ refl c.at-in-Query-11.ensures),
    ) refl

pub returns-in-QueryResponse : goal.returns-in-QueryResponse
returns-in-QueryResponse c = λ ps given.
    let finds : Finds layouts.QueryResponse c.args.found.now ps = subst (λ m. Finds (layout_of m) c.args.found.now ps) c.in-QueryResponse.is given in
    let at = shown layouts.QueryResponse c.args.found.now ps finds in
    rw (
      c.in-QueryResponse.is,
      c.natural_or_zero-in-QueryResponse.ensures.value ∙ ap (number_in max_clock) (at (codes "LTime") 0 (kinds.Natural max_clock) _ refl c.at-in-QueryResponse.ensures),
      c.natural_or_zero-in-QueryResponse-2.ensures.value ∙ ap (number_in 0xffff_ffff) (at (codes "ID") 1 (kinds.Natural 0xffff_ffff) _ refl c.at-in-QueryResponse-2.ensures),
      c.text_or_empty-in-QueryResponse.ensures ∙ ap text_in (at (codes "From") 2 kinds.Text _ refl c.at-in-QueryResponse-3.ensures),
      c.natural_or_zero-in-QueryResponse-3.ensures.value ∙ ap (number_in 0xffff_ffff) (at (codes "Flags") 3 (kinds.Natural 0xffff_ffff) _ refl c.at-in-QueryResponse-4.ensures),
      c.text_or_empty-in-QueryResponse-2.ensures ∙ ap text_in (at (codes "Payload") 4 kinds.Text _ refl c.at-in-QueryResponse-5.ensures),
    ) refl

pub returns-in-PushPull : goal.returns-in-PushPull
returns-in-PushPull c = λ ps given.
    let finds : Finds layouts.PushPull c.args.found.now ps = subst (λ m. Finds (layout_of m) c.args.found.now ps) c.in-PushPull.is given in
    let at = shown layouts.PushPull c.args.found.now ps finds in
    rw (
      c.in-PushPull.is,
      c.natural_or_zero-in-PushPull.ensures.value ∙ ap (number_in max_clock) (at (codes "LTime") 0 (kinds.Natural max_clock) _ refl c.at-in-PushPull.ensures),
      c.of-in-PushPull.ensures ∙ ap status_in (at (codes "StatusLTimes") 1 kinds.Status _ refl c.at-in-PushPull-2.ensures),
      c.of-in-PushPull-2.ensures ∙ ap (list_in text_in) (at (codes "LeftMembers") 2 kinds.Texts _ refl c.at-in-PushPull-3.ensures),
      c.natural_or_zero-in-PushPull-2.ensures.value ∙ ap (number_in max_clock) (at (codes "EventLTime") 3 (kinds.Natural max_clock) _ refl c.at-in-PushPull-4.ensures),
      c.of-in-PushPull-3.ensures ∙ ap (list_in slot_in) (at (codes "Events") 4 (kinds.Maps layouts.Slot) _ refl c.at-in-PushPull-5.ensures),
      c.natural_or_zero-in-PushPull-3.ensures.value ∙ ap (number_in max_clock) (at (codes "QueryLTime") 5 (kinds.Natural max_clock) _ refl c.at-in-PushPull-6.ensures),
    ) refl
