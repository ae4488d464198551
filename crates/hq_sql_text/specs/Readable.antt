-- Which trees have a text that is read.
use Rattle.std.specs.Prelude.{◌≡◌, ℕ, Bool, true, ◌&&◌, List, nat_le}
use Rattle.hq_sql_tree.specs.Tree.{SelectTree}
use Rattle.hq_sql_tree.specs.Spelling.{select_text}
use Rattle.hq_sql_tree.specs.Form.{is_select, select_depth, select_fits}

-- a tree whose text opens at most 2,000 parentheses at once
abbrev pub is_readable : SelectTree → Bool
is_readable s = is_select s && nat_le (select_depth s) 2000 && select_fits s

-- the text spells the tree
abbrev pub Spells : List ℕ → SelectTree → Type 0
Spells text s = (is_readable s ≡ true) × (text ≡ select_text s)
