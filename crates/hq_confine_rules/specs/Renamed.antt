-- Conditions that are equal up to the aliases inside EXISTS.
use Rattle.std.specs.Prelude.{ℕ, List, [], ◌∷◌, Bool, true, false, cond, not, ◌&&◌, ◌==◌, length, Option, is_none, bytes_eq}
use Rattle.std.specs.Ordering.{int_cmp, bool_cmp, is_eq}
use Rattle.hq_model.specs.Tests.{same_test}
use Rattle.hq_sql_tree.specs.Columns.{same_form}
use Rattle.hq_sql_tree.specs.Tree as tree
use Rattle.hq_sql_tree.specs.Tree.{ExprTree, OrderTree, OutTree, SelectTree, FromTree, JoinTrees, FilterTree, PredTree, PredTrees}
use Rattle.hq_sql_tree.specs.Form.{is_no_join}

-- aliases of the one condition with those that stand for them in the other, the innermost first
abbrev pub Renaming : Type 0
Renaming = List (List ℕ × List ℕ)

-- an alias stands for another: so says the first pair that has either
abbrev pub stands_for : Renaming → List ℕ → List ℕ → Bool
stands_for [] a b = false
stands_for (r ∷ rs) a b = cond (bytes_eq r.0 a) (bytes_eq r.1 b) (not (bytes_eq r.1 b) && stands_for rs a b)

-- equal expressions; no aggregate equals another, and no object but the empty one
abbrev pub is_alike_expr : Renaming → ExprTree → ExprTree → Bool
is_alike_expr r (tree.column alias name form) (tree.column other_alias other_name other_form) =
    stands_for r alias other_alias && bytes_eq name other_name && same_form form other_form
is_alike_expr r (tree.int n) (tree.int m) = is_eq (int_cmp n m)
is_alike_expr r (tree.text s) (tree.text t) = bytes_eq s t
is_alike_expr r (tree.uuid s) (tree.uuid t) = bytes_eq s t
is_alike_expr r (tree.bool b) (tree.bool c) = is_eq (bool_cmp b c)
is_alike_expr r (tree.object tree.no_pair) (tree.object tree.no_pair) = true
is_alike_expr r _ _ = false

abbrev pub are_alike_exprs : Renaming → List ExprTree → List ExprTree → Bool
are_alike_exprs r [] [] = true
are_alike_exprs r (e ∷ es) (f ∷ fs) = is_alike_expr r e f && are_alike_exprs r es fs
are_alike_exprs r _ _ = false

abbrev pub is_alike_out : Renaming → OutTree → OutTree → Bool
is_alike_out r o p = is_alike_expr r o.value p.value && bytes_eq o.name p.name

abbrev pub are_alike_outs : Renaming → List OutTree → List OutTree → Bool
are_alike_outs r [] [] = true
are_alike_outs r (o ∷ os) (p ∷ ps) = is_alike_out r o p && are_alike_outs r os ps
are_alike_outs r _ _ = false

-- rows without joins, DISTINCT ON, ORDER BY, LIMIT and OFFSET
abbrev pub is_bare : List ExprTree → JoinTrees → List OrderTree → (limit offset : Option ℕ) → Bool
is_bare distinct joins keys limit offset = (length distinct == 0) && is_no_join joins && (length keys == 0) && is_none limit && is_none offset

abbrev pub alias_of : FromTree → List ℕ
alias_of (tree.table schema name alias) = alias
alias_of (tree.sub select alias) = alias
alias_of (tree.one alias) = alias

abbrev pub is_from_table : (schema name : List ℕ) → FromTree → Bool
is_from_table schema name (tree.table other_schema other_name alias) = bytes_eq schema other_schema && bytes_eq name other_name
is_from_table schema name _ = false

abbrev pub same_table : FromTree → FromTree → Bool
same_table (tree.table schema name alias) other = is_from_table schema name other
same_table _ other = false

-- within two selects, the alias of the one stands for that of the other
abbrev pub beside : Renaming → FromTree → FromTree → Renaming
beside r from other = (alias_of from, alias_of other) ∷ r

-- Equal conditions. An EXISTS equals another where both are over one table, without joins, DISTINCT ON, ORDER BY, LIMIT and OFFSET.
abbrev mutual
  pub is_alike : Renaming → PredTree → PredTree → Bool
  is_alike r tree.always tree.always = true
  is_alike r tree.never tree.never = true
  is_alike r (tree.test e t es) (tree.test f u fs) = is_alike_expr r e f && same_test t u && are_alike_exprs r es fs
  is_alike r (tree.negation p) (tree.negation q) = is_alike r p q
  is_alike r (tree.all_of ps) (tree.all_of qs) = are_alike r ps qs
  is_alike r (tree.any_of ps) (tree.any_of qs) = are_alike r ps qs
  is_alike r (tree.exists s) (tree.exists u) = is_alike_select r s u
  is_alike r _ _ = false

  pub are_alike : Renaming → PredTrees → PredTrees → Bool
  are_alike r tree.no_pred tree.no_pred = true
  are_alike r (tree.pred p ps) (tree.pred q qs) = is_alike r p q && are_alike r ps qs
  are_alike r _ _ = false

  pub is_alike_select : Renaming → SelectTree → SelectTree → Bool
  is_alike_select r (tree.rows distinct outs from joins condition keys limit offset) (tree.rows other_distinct other_outs other_from other_joins other_condition other_keys other_limit other_offset) =
      is_bare distinct joins keys limit offset && is_bare other_distinct other_joins other_keys other_limit other_offset && same_table from other_from
      && are_alike_outs (beside r from other_from) outs other_outs && is_alike_filter (beside r from other_from) condition other_condition
  is_alike_select r _ _ = false

  pub is_alike_filter : Renaming → FilterTree → FilterTree → Bool
  is_alike_filter r tree.no_filter tree.no_filter = true
  is_alike_filter r (tree.filter p) (tree.filter q) = is_alike r p q
  is_alike_filter r _ _ = false
