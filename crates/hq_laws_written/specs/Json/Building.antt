-- JSON values that are built of lists: objects of members, and arrays.
use Rattle.std.specs.Prelude.{ℕ, List, map}
use Rattle.hq_base.specs.Json.{JsonTree, str, arr, obj, elements_of, members_of}

-- the object of these members
abbrev pub object : List (List ℕ × JsonTree) → JsonTree
object ms = obj (members_of ms)

-- the array of these elements
abbrev pub list : List JsonTree → JsonTree
list js = arr (elements_of js)

-- the array of these texts
abbrev pub texts : List (List ℕ) → JsonTree
texts names = list (map str names)
