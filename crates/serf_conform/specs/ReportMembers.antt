-- A member of an object, as the code stores it. It is private to the crate.
use Rattle.std.specs.Prelude.{ℕ, List, []}
use Rattle.serf_conform.specs.declared.report.Member.{Member}
use Rattle.serf_conform.specs.declared.report.Member.TheVariants as members
use Rattle.serf_conform.specs.Report.{null_member, number_member, text_member}

abbrev pub member_text : Member → List ℕ
member_text (members.Number name n) = number_member name.now n
member_text (members.Text name text) = text_member name.now text.now
member_text (members.Null name) = null_member name.now
member_text members.Absent = []
