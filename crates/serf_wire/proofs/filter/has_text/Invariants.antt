use Rattle.serf_wire.proofs.Names.{◌≡◌, list_any, bytes_eq, tree_of, texts_left, list_in, text_in}
use Rattle.serf_wire.proofs.filter.has_text.Given as goal

abbrev pub invariant-loop-name : goal.invariant-loop-name
invariant-loop-name l = list_any (λ t. bytes_eq t l.text) (texts_left l.name-iterator) ≡ list_any (λ t. bytes_eq t l.text) (list_in text_in (tree_of l.list))
