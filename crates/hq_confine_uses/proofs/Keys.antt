-- Runs of key columns among sort keys that are gone over.
use Rattle.std.proofs.Common.{◌≡◌, ◌∙◌, ℕ, zero, suc, ◌+◌, ◌<◌, ◌≤◌, List, [], ◌∷◌, Bool, true, false, ◌&&◌, ◌||◌, drop, length, map, refl, sym, ap, arith}
use Rattle.std.proofs.lemmas.List.{at_drop_all}
use Rattle.hq_model.specs.Schema.{Schema, table}
use Rattle.hq_sql_tree.specs.Tree.{OrderTree, orders_of}
use Rattle.hq_sql_tree.specs.View.{expr_view, order_view}
use Rattle.hq_sql_tree.specs.declared.expr.Order.{Order}
use Rattle.hq_sql_tree.proofs.Conjunctions.{and_false}
use Rattle.hq_sql_tree.proofs.Next.{view_order}
use Rattle.hq_confine_rules.specs.Origins.{Shapes}
use Rattle.hq_confine_rules.specs.Uses.{is_key_sort, is_run, has_run}

module _ (s : Schema) (x : Shapes) (t : ℕ) where
  -- the sort keys begin with these columns
  abbrev pub begin_with : List (List ℕ) → List ℕ → List Order → Bool
  begin_with path cs os = is_run s x t path cs (orders_of (map order_view os))

  abbrev pub sorts_by : List (List ℕ) → ℕ → Order → Bool
  sorts_by path c o = is_key_sort s x t path c (expr_view o.value) o.desc o.nulls_first

  pub first_key : (path : List (List ℕ)) (c : ℕ) (o : Order) (cs : List ℕ) (os : List Order) → begin_with path (c ∷ cs) (o ∷ os) ≡ (sorts_by path c o && begin_with path cs os)
  first_key path c o cs os = ap (λ (seen : OrderTree). is_key_sort s x t path c seen.value seen.desc seen.nulls_first && begin_with path cs os) (view_order o)

  -- fewer sort keys than columns
  pub few_keys : (path : List (List ℕ)) (cs : List ℕ) (os : List Order) → length os < length cs → begin_with path cs os ≡ false
  few_keys path [] os lt = absurd (omega arith)
  few_keys path (c ∷ cs) [] lt = refl
  few_keys path (c ∷ cs) (o ∷ os) lt = first_key path c o cs os ∙ ap (λ b. sorts_by path c o && b) (few_keys path cs os (omega arith)) ∙ and_false (sorts_by path c o)

  -- all columns are passed
  pub all_keys : (path : List (List ℕ)) (cs : List ℕ) (os : List Order) (i : ℕ) → length cs ≤ i → begin_with path (drop i cs) (drop i os) ≡ begin_with path cs os → true ≡ begin_with path cs os
  all_keys path cs os i over so_far = sym (at_drop_all (λ l. begin_with path l (drop i os)) cs i over) ∙ so_far

  -- the run of a scan's own key stands among these
  abbrev pub have_run : List ℕ → List Order → Bool
  have_run alias os = has_run s x t alias (orders_of (map order_view os))

  pub have_more : (alias : List ℕ) (os : List Order) (i : ℕ) → i < length os → have_run alias (drop i os) ≡ (begin_with (alias ∷ []) (table s t).key (drop i os) || have_run alias (drop (i + 1) os))
  have_more alias [] i lt = absurd (omega arith)
  have_more alias (o ∷ os) zero lt = refl
  have_more alias (o ∷ os) (suc i) lt =
      let one : suc (i + 1) ≡ suc i + 1 = omega arith in
      have_more alias os i (omega arith) ∙ ap (λ n. begin_with (alias ∷ []) (table s t).key (drop i os) || have_run alias (drop n (o ∷ os))) one
