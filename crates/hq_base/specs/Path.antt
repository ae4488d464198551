-- The place of a node in a JSON file, as a refusal tells it: `$.tables[0].columns[2].type`.
use Rattle.std.specs.Prelude.{ℕ, List, ◌++◌, codes}
use Rattle.std.specs.Fmt.{decimal}

-- the file's value itself
unfoldable pub top_path : List ℕ
top_path = codes "$"

-- the member of this name, of the object at a path
unfoldable pub member_path : (path name : List ℕ) → List ℕ
member_path path name = path ++ codes "." ++ name

-- the element at this place, counted from 0, of the array at a path
unfoldable pub item_path : (path : List ℕ) (index : ℕ) → List ℕ
item_path path index = path ++ codes "[" ++ decimal index ++ codes "]"
