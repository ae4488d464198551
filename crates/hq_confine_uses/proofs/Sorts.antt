-- Sort keys that are gone over: those of a run that has begun, a run that begins, and one alone.
use Rattle.std.proofs.Common.{◌≡◌, ◌∙◌, ℕ, zero, suc, ◌+◌, ◌-◌, ◌<◌, ◌==◌, List, ◌++◌, cond, Bool, false, get_or, length, map, drop, sym, ap, arith}
use Rattle.std.proofs.lemmas.Bool.{ne_eqb}
use Rattle.hq_model.specs.Grants.{Grants}
use Rattle.hq_model.specs.Schema.{Schema}
use Rattle.hq_sql_tree.specs.Tree as tree
use Rattle.hq_sql_tree.specs.Tree.{OrderTrees, ExprTree, orders_of}
use Rattle.hq_sql_tree.specs.View.{expr_view, order_view}
use Rattle.hq_sql_tree.specs.declared.expr.Order.{Order}
use Rattle.hq_sql_tree.proofs.Next.{next_order}
use Rattle.hq_confine_rules.specs.Origins.{Shapes, origin}
use Rattle.hq_confine_rules.specs.Uses.{Fault, expr_faults, less_one, orders_faults, run_from}

by_run : (R run : ℕ) (A : List Fault) (f : ℕ → List Fault) → run ≡ R → 0 < run → cond (R == 0) A (f (less_one R)) ≡ f (run - 1)
by_run zero run A f e lt = absurd (omega arith)
by_run (suc k) run A f e lt =
    let no : (suc k == 0) ≡ false = ne_eqb (suc k) 0 (λ h. absurd (omega arith)) in
    let one : k ≡ run - 1 = omega arith in
    ap (λ b. cond b A (f k)) no ∙ ap f one

module _ (s : Schema) (g : Grants) (x : Shapes) where
  abbrev pub keys_faults : ℕ → List Order → List Fault
  keys_faults left os = orders_faults s g x left (orders_of (map order_view os))

  left_by : (left : ℕ) (e : ExprTree) (desc nulls_first : Bool) (os : OrderTrees) → 0 < left → orders_faults s g x left (tree.order e desc nulls_first os) ≡ orders_faults s g x (left - 1) os
  left_by zero e desc nulls_first os some = absurd (omega arith)
  left_by (suc k) e desc nulls_first os some = let one : k ≡ suc k - 1 = omega arith in ap (λ n. orders_faults s g x n os) one

  -- a sort key of a run that has begun
  pub in_run : (os : List Order) (i left : ℕ) (o : Order) → i < length os → o ≡ get_or os i o → 0 < left → keys_faults left (drop i os) ≡ keys_faults (left - 1) (drop (i + 1) os)
  in_run os i left o lt is some =
      ap (orders_faults s g x left) (next_order os i o lt is) ∙ left_by left (expr_view o.value) o.desc o.nulls_first (orders_of (map order_view (drop (i + 1) os))) some

  -- one with which a run begins
  pub run_begins : (os : List Order) (i run : ℕ) (o : Order) → i < length os → o ≡ get_or os i o
      → run ≡ run_from s x (origin s x (expr_view o.value)) (orders_of (map order_view (drop i os))) → 0 < run → keys_faults 0 (drop i os) ≡ keys_faults (run - 1) (drop (i + 1) os)
  run_begins os i run o lt is e some =
      let next = next_order os i o lt is in
      let rest : OrderTrees = orders_of (map order_view (drop (i + 1) os)) in
      let here : ℕ = run_from s x (origin s x (expr_view o.value)) (tree.order (expr_view o.value) o.desc o.nulls_first rest) in
      ap (orders_faults s g x 0) next
      ∙ by_run here run (expr_faults s g x (expr_view o.value) ++ orders_faults s g x 0 rest) (λ n. orders_faults s g x n rest) (e ∙ ap (run_from s x (origin s x (expr_view o.value))) next) some

  -- one with which none does
  pub no_run : (os : List Order) (i run : ℕ) (o : Order) → i < length os → o ≡ get_or os i o → run ≡ run_from s x (origin s x (expr_view o.value)) (orders_of (map order_view (drop i os))) → run ≡ 0
      → keys_faults 0 (drop i os) ≡ expr_faults s g x (expr_view o.value) ++ keys_faults 0 (drop (i + 1) os)
  no_run os i run o lt is e none =
      let next = next_order os i o lt is in
      let rest : OrderTrees = orders_of (map order_view (drop (i + 1) os)) in
      let zero_is = sym (sym none ∙ e ∙ ap (run_from s x (origin s x (expr_view o.value))) next) in
      ap (orders_faults s g x 0) next
      ∙ ap (λ n. cond (n == 0) (expr_faults s g x (expr_view o.value) ++ orders_faults s g x 0 rest) (orders_faults s g x (less_one n) rest)) zero_is
