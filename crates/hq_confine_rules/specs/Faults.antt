-- The rules that a statement of other hands is to meet, so that it shows no more than a session's view. Its faults stand in text order,
-- each with its rule and an alias:
--   1  the role has a permission on each scan's table, and its filter binds
--   2  each scan's conjuncts contain those of its table's filter
--   3  each column of a scan is permitted, or stands in a whole link, or as rules 4 and 5 say
--   4  a masked column stands behind the join of its mask, in a whole link, or as rule 5 says
--   5  a key column that is hidden or masked, and each output that passes it on, is an output of its own, or stands in a whole link or
--      in the run of all key columns of one scan, in key order, from one alias at every step, each ascending with NULLs last
--   6  each scan is ordered by the run of its own key, at its own alias; or it has no DISTINCT ON, LIMIT and OFFSET and is the rows of
--      an EXISTS, or the inner rows of a fold without json_agg
-- A filter's conjunct in the WHERE of its scan, and a mask's in its join, are exempt, with all that stands in them.
use Rattle.std.specs.Prelude.{◌≡◌, ℕ, List, [], ◌∷◌, ◌++◌, length, Bool, true, false, cond, not, ◌&&◌, ◌||◌, ◌==◌, nat_lt, Option, Some, None, is_some, is_none, slice_index_or}
use Rattle.hq_model.specs.Grants.{Grants}
use Rattle.hq_model.specs.Schema.{Schema}
use Rattle.hq_sql_tree.specs.Tree as tree
use Rattle.hq_sql_tree.specs.Tree.{ExprTree, OrderTree, SelectTree, FromTree, JoinTrees, FilterTree, PredTree, PredTrees, orders_of}
use Rattle.hq_confine_rules.specs.Conjuncts.{conjuncts}
use Rattle.hq_confine_rules.specs.Members.{filter_conjuncts, is_one_of, stand_among, equation, is_linking, is_mask_join}
use Rattle.hq_confine_rules.specs.Origins.{Origin, scan, outputs, Shapes, output_origins, table_place}
use Rattle.hq_confine_rules.specs.Uses.{Fault, needs, expr_faults, exprs_faults, outs_faults, orders_faults, has_run, shows_order}

-- ---- what is in scope

-- the outputs of a select; a fold makes its own, and so does the join of a mask
abbrev mutual
  pub outputs_of : Schema → Grants → Shapes → SelectTree → List (List ℕ × Origin)
  outputs_of s g scope (tree.rows distinct outs from joins condition keys limit offset) = output_origins s (joined_shapes s g (from_shapes s g scope from) joins) outs
  outputs_of s g scope (tree.fold out inner alias) = []

  pub from_shapes : Schema → Grants → Shapes → FromTree → Shapes
  from_shapes s g scope (tree.table schema name alias) = (alias, scan (table_place s schema name)) ∷ scope
  from_shapes s g scope (tree.sub select alias) = (alias, outputs (outputs_of s g scope select)) ∷ scope
  from_shapes s g scope (tree.one alias) = (alias, outputs []) ∷ scope

  pub joined_shapes : Schema → Grants → Shapes → JoinTrees → Shapes
  joined_shapes s g scope tree.no_join = scope
  joined_shapes s g scope (tree.join select alias js) = joined_shapes s g ((alias, outputs (cond (is_mask_join s g scope select) [] (outputs_of s g scope select))) ∷ scope) js

-- ---- scans

-- the conjuncts of a scan that are exempt: those of its filter, and those in whole links
abbrev pub is_exempt : Schema → Grants → Shapes → (all : List PredTree) → FromTree → PredTree → Bool
is_exempt s g scope all (tree.table schema name alias) p =
    is_one_of (filter_conjuncts s g (table_place s schema name)) alias p || is_linking s scope all (table_place s schema name) alias (equation p)
is_exempt s g scope all (tree.sub select alias) p = false
is_exempt s g scope all (tree.one alias) p = false

-- the rows of a scan are taken by number, in no order that shows
abbrev pub is_unordered : (counts : Bool) → List ExprTree → (limit offset : Option ℕ) → Bool
is_unordered counts distinct limit offset = not counts && (length distinct == 0) && is_none limit && is_none offset

abbrev pub scan_faults : Schema → Grants → Shapes → (t : ℕ) → (alias : List ℕ) → (all : List PredTree) → List OrderTree → (unordered : Bool) → List Fault
scan_faults s g scope t alias all keys unordered =
    needs (is_some (slice_index_or g t None)) 1 alias ++ needs (stand_among all (filter_conjuncts s g t) alias) 2 alias ++ needs (has_run s scope t alias (orders_of keys) || unordered) 6 alias

-- ---- faults

-- counts: the order of the rows counts
abbrev mutual
  pub select_faults : Schema → Grants → Shapes → (counts : Bool) → SelectTree → List Fault
  select_faults s g scope counts (tree.rows distinct outs from joins condition keys limit offset) =
      exprs_faults s g (joined_shapes s g (from_shapes s g scope from) joins) distinct
      ++ (outs_faults s g (joined_shapes s g (from_shapes s g scope from) joins) outs
      ++ (from_faults s g scope (joined_shapes s g (from_shapes s g scope from) joins) (conjuncts condition) keys (is_unordered counts distinct limit offset) from
      ++ (joins_faults s g (from_shapes s g scope from) joins
      ++ (where_faults s g (joined_shapes s g (from_shapes s g scope from) joins) (is_exempt s g (joined_shapes s g (from_shapes s g scope from) joins) (conjuncts condition) from) condition
      ++ orders_faults s g (joined_shapes s g (from_shapes s g scope from) joins) 0 (orders_of keys)))))
  select_faults s g scope counts (tree.fold out inner alias) =
      expr_faults s g ((alias, outputs (outputs_of s g scope inner)) ∷ scope) out.value ++ select_faults s g scope (shows_order out.value) inner

  -- in the scope around the select, and in that of all its aliases
  pub from_faults : Schema → Grants → (around inside : Shapes) → (all : List PredTree) → List OrderTree → (unordered : Bool) → FromTree → List Fault
  from_faults s g around inside all keys unordered (tree.table schema name alias) = scan_faults s g inside (table_place s schema name) alias all keys unordered
  from_faults s g around inside all keys unordered (tree.sub select alias) = select_faults s g around true select
  from_faults s g around inside all keys unordered (tree.one alias) = []

  pub joins_faults : Schema → Grants → Shapes → JoinTrees → List Fault
  joins_faults s g scope tree.no_join = []
  joins_faults s g scope (tree.join select alias js) =
      cond (is_mask_join s g scope select) [] (select_faults s g scope true select)
      ++ joins_faults s g ((alias, outputs (cond (is_mask_join s g scope select) [] (outputs_of s g scope select))) ∷ scope) js

  pub where_faults : Schema → Grants → Shapes → (exempt : PredTree → Bool) → FilterTree → List Fault
  where_faults s g scope exempt tree.no_filter = []
  where_faults s g scope exempt (tree.filter p) = conjunct_faults s g scope exempt p

  -- the conjuncts that are not exempt
  pub conjunct_faults : Schema → Grants → Shapes → (exempt : PredTree → Bool) → PredTree → List Fault
  conjunct_faults s g scope exempt tree.always = []
  conjunct_faults s g scope exempt tree.never = []
  conjunct_faults s g scope exempt (tree.test e t es) = cond (exempt (tree.test e t es)) [] (expr_faults s g scope e ++ exprs_faults s g scope es)
  conjunct_faults s g scope exempt (tree.negation p) = cond (exempt (tree.negation p)) [] (pred_faults s g scope p)
  conjunct_faults s g scope exempt (tree.all_of ps) = conjuncts_faults s g scope exempt ps
  conjunct_faults s g scope exempt (tree.any_of ps) = cond (exempt (tree.any_of ps)) [] (preds_faults s g scope ps)
  conjunct_faults s g scope exempt (tree.exists select) = cond (exempt (tree.exists select)) [] (select_faults s g scope false select)

  pub conjuncts_faults : Schema → Grants → Shapes → (exempt : PredTree → Bool) → PredTrees → List Fault
  conjuncts_faults s g scope exempt tree.no_pred = []
  conjuncts_faults s g scope exempt (tree.pred p ps) = conjunct_faults s g scope exempt p ++ conjuncts_faults s g scope exempt ps

  pub pred_faults : Schema → Grants → Shapes → PredTree → List Fault
  pred_faults s g scope tree.always = []
  pred_faults s g scope tree.never = []
  pred_faults s g scope (tree.test e t es) = expr_faults s g scope e ++ exprs_faults s g scope es
  pred_faults s g scope (tree.negation p) = pred_faults s g scope p
  pred_faults s g scope (tree.all_of ps) = preds_faults s g scope ps
  pred_faults s g scope (tree.any_of ps) = preds_faults s g scope ps
  pred_faults s g scope (tree.exists select) = select_faults s g scope false select

  pub preds_faults : Schema → Grants → Shapes → PredTrees → List Fault
  preds_faults s g scope tree.no_pred = []
  preds_faults s g scope (tree.pred p ps) = pred_faults s g scope p ++ preds_faults s g scope ps

-- ---- statements

abbrev pub faults : Schema → Grants → SelectTree → List Fault
faults s g select = select_faults s g [] true select

-- the statement is confined for a session that is granted so much
abbrev pub IsConfined : Schema → Grants → SelectTree → Type 0
IsConfined s g select = faults s g select ≡ []

-- of two faults, one before the other in the text, that of the lesser rule, else the first
abbrev pub worse : Option Fault → Option Fault → Option Fault
worse None b = b
worse (Some a) None = Some a
worse (Some a) (Some b) = cond (nat_lt b.rule a.rule) (Some b) (Some a)

-- the first fault of the least rule that is violated
abbrev pub worst : List Fault → Option Fault
worst [] = None
worst (f ∷ fs) = worse (Some f) (worst fs)
