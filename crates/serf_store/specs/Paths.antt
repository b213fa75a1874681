-- The paths of a text's file.
use Rattle.std.specs.Prelude.{ℕ, List, [], length, unwrap_or, codes, ◌++◌, ◌==◌, if◌then◌else◌}
use Rattle.std.specs.Path.{path_parent}

-- the path of a folder, or that of the current folder if it is empty
abbrev pub or_current : List ℕ → List ℕ
or_current folder = if length folder == 0 then codes "." else folder

-- the folder that contains the file of a path
abbrev pub folder_of : List ℕ → List ℕ
folder_of path = or_current (unwrap_or (path_parent path) [])

-- the path of the new text, which will take the place of the file at this path
abbrev pub new_file_of : List ℕ → List ℕ
new_file_of path = path ++ codes ".new"
