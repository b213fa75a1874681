use Rattle.serf_wire.proofs.Names.{sym, ◌∙◌, tree_of}
use Rattle.serf_wire.proofs.Passing.{names_read, names_malformed}
use Rattle.serf_wire.proofs.filter.names.Goals as goal

pub returns-in-None : goal.returns-in-None
returns-in-None c = c.has_text.ensures ∙ sym (names_read c.args.node.now (tree_of c.args.value.now) (sym c.in-Array.ensures) (sym c.texts_error.ensures ∙ c.in-None.is))

pub returns-in-Some : goal.returns-in-Some
returns-in-Some c = sym (names_malformed c.args.node.now (tree_of c.args.value.now) c.in-Some.field-0 (sym c.texts_error.ensures ∙ c.in-Some.is))
