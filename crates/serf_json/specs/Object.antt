-- Objects, one a line.
use Rattle.std.specs.Prelude.{ℕ, ◌++◌, List, [], codes, decimal}
use Rattle.std.specs.List.{flat_map}
use Rattle.serf_json.specs.declared.member.Member.{Member}
use Rattle.serf_json.specs.declared.member.Member.TheVariants as members
use Rattle.serf_json.specs.Json.{bytes_member, flag_text, hex_name, hex_string, json_string, name_start, numbers_text}

-- a comma, and a member's name and value; bytes are two members, and one that is absent is nothing
abbrev pub member_text : Member → List ℕ
member_text (members.Number name n) = name_start name.now ++ decimal n
member_text (members.Numbers name ns) = name_start name.now ++ numbers_text ns.now
member_text (members.Flag name flag) = name_start name.now ++ flag_text flag
member_text (members.Text name text) = name_start name.now ++ json_string text.now
member_text (members.Bytes name bytes) = bytes_member name.now bytes.now
member_text (members.Hex name bytes) = hex_name name.now ++ hex_string bytes.now
member_text (members.Null name) = name_start name.now ++ codes "null"
member_text members.Absent = []

-- these members, one after another
unfoldable pub members_text : List Member → List ℕ
members_text members = flat_map member_text members

-- `{"version":1,"kind":` and the kind
unfoldable pub head_text : List ℕ → List ℕ
head_text kind = codes "{\"version\":1,\"kind\":" ++ json_string kind

-- `}` and a newline
unfoldable pub end_text : List ℕ
end_text = codes "}\n"

-- an object: its version, its kind, the text of its members and its end
abbrev pub object_text : List ℕ → List ℕ → List ℕ
object_text kind members = head_text kind ++ (members ++ end_text)
