use Rattle.serf_text.proofs.Names.{drop, ◌++◌, ◌≡◌, filled}
use Rattle.serf_text.proofs.template.write_template.Given as goal

-- what was written so far, followed by the rest of the template, whose blanks are filled by the parts that are left
abbrev pub invariant-loop-part : goal.invariant-loop-part
invariant-loop-part g l = l.out.items ++ filled g.P.TemplatePart.text l.rest (drop l.part-index l.parts)
    ≡ l.fn.out.items ++ filled g.P.TemplatePart.text l.fn.template l.fn.parts
