-- Selects that give one row at most, as seen by their form.
use Rattle.std.specs.Prelude.{ℕ, Bool, true, false, ◌&&◌, ◌||◌, nat_lt, Option, Some, None}
use Rattle.hq_sql_tree.specs.Tree.{SelectTree, rows, fold, JoinTrees, no_join, join}
use Rattle.hq_sql_tree.specs.Form.{is_one}

-- LIMIT 0 or 1
abbrev pub is_one_at_most : Option ℕ → Bool
is_one_at_most None = false
is_one_at_most (Some n) = nat_lt n 2

abbrev mutual
  -- a fold, rows under LIMIT 0 or 1, or rows over One whose joins are such selects
  pub is_single : SelectTree → Bool
  is_single (rows distinct outs from joins condition keys limit offset) = is_one_at_most limit || (is_one from && are_single joins)
  is_single (fold out inner alias) = true

  -- joins whose selects give one row at most
  pub are_single : JoinTrees → Bool
  are_single no_join = true
  are_single (join select alias js) = is_single select && are_single js
