-- Conditions that are equal up to the aliases inside EXISTS have one truth.
use Rattle.std.proofs.Common.{◌≡◌, ℕ, List, [], ◌∷◌, ◌++◌, map, flat_map, filter, length, Bool, true, false, cond, not, ◌&&◌, ◌||◌, ◌==◌, Option, Some, None, is_none, bytes_eq, refl, sym, ap, ap₂, ◌∙◌, is_gt, Ordering, Equal, suc, arith, eqb-true}
use Rattle.std.specs.List.{list_all, list_any}
use Rattle.std.specs.Ordering.{int_cmp, bool_cmp, is_eq}
use Rattle.std.proofs.lemmas.Bool.{and_parts}
use Rattle.std.proofs.lemmas.Slice.Eq.{bytes_eq-Decides}
use Rattle.std.proofs.lemmas.Map.Lookups.{exact_signed}
use Rattle.hq_base.specs.Lists.{put, sort}
use Rattle.hq_model.specs.Logic.{is_true, truth_of, not3, and3, or3}
use Rattle.hq_model.specs.Tests.{test_truth, same_test}
use Rattle.hq_model.proofs.Tests.{test_is}
use Rattle.hq_sql_tree.specs.Columns.{same_form}
use Rattle.hq_sql_tree.specs.Tree as tree
use Rattle.hq_sql_tree.specs.Tree.{ExprTree, OrderTree, OutTree, SelectTree, FromTree, JoinTrees, FilterTree, PredTree, PredTrees}
use Rattle.hq_sql_tree.specs.Form.{is_no_join}
use Rattle.hq_sql_tree.specs.Meaning.{NamedRow, cell_named, Scope, with_alias, World, rows_named, value, order_cmp, outputs, has_rows, rows_of, joined, kept, truth_at, all_true, any_true}
use Rattle.hq_translation.proofs.Conditions.{true_and}
use Rattle.hq_confine_rules.specs.Conjuncts.{opened, all_opened, conjuncts}
use Rattle.hq_confine_rules.specs.Renamed.{Renaming, stands_for, is_alike_expr, are_alike_exprs, are_alike_outs, is_bare, same_table, beside, is_alike, are_alike, is_alike_select, is_alike_filter}

-- aliases that stand for one another show one row
abbrev pub Related : Renaming → Scope → Scope → Type 0
Related r e f = (a b : List ℕ) → stands_for r a b ≡ true → e a ≡ f b

pub related_bound : (r : Renaming) (e f : Scope) (x y : List ℕ) (row : NamedRow) → Related r e f → Related ((x, y) ∷ r) (with_alias e x row) (with_alias f y row)
related_bound r e f x y row h a b k =
    let go : (c d : Bool) → cond c d (not d && stands_for r a b) ≡ true → cond c row (e a) ≡ cond d row (f b) =
    elim [ true ↦ elim [ true ↦ λ q. refl | false ↦ λ q. cc ] | false ↦ elim [ true ↦ λ q. cc | false ↦ λ q. h a b q ] ] in
    go (bytes_eq x a) (bytes_eq y b) k

-- ---- expressions

bool_is : (b c : Bool) → is_eq (bool_cmp b c) ≡ true → b ≡ c
bool_is true true h = refl
bool_is true false h = cc
bool_is false true h = cc
bool_is false false h = refl

order_is : (o : Ordering) → is_eq o ≡ true → o ≡ Equal
order_is Equal h = refl
order_is _ h = cc

module _ (r : Renaming) (e f : Scope) (h : Related r e f) where
  expr_value : (x y : ExprTree) → is_alike_expr r x y ≡ true → value x [] e ≡ value y [] f
  expr_value (tree.column alias name form) (tree.column other_alias other_name other_form) k =
      let parts = and_parts (stands_for r alias other_alias && bytes_eq name other_name) (same_form form other_form) k in
      let both = and_parts (stands_for r alias other_alias) (bytes_eq name other_name) parts.0 in
      ap₂ cell_named (h alias other_alias both.0) ((bytes_eq-Decides name other_name).0 both.1)
  expr_value (tree.int n) (tree.int m) k = ap (λ i. value (tree.int i) [] e) (exact_signed n m (order_is (int_cmp n m) k))
  expr_value (tree.text s) (tree.text t) k = ap (λ i. value (tree.text i) [] e) ((bytes_eq-Decides s t).0 k)
  expr_value (tree.uuid s) (tree.uuid t) k = ap (λ i. value (tree.uuid i) [] e) ((bytes_eq-Decides s t).0 k)
  expr_value (tree.bool b) (tree.bool c) k = ap (λ i. value (tree.bool i) [] e) (bool_is b c k)
  expr_value (tree.object tree.no_pair) (tree.object tree.no_pair) k = refl
  expr_value _ _ k = cc

  exprs_values : (xs ys : List ExprTree) → are_alike_exprs r xs ys ≡ true → map (λ x. value x [] e) xs ≡ map (λ y. value y [] f) ys
  exprs_values [] [] k = refl
  exprs_values (x ∷ xs) (y ∷ ys) k = let parts = and_parts (is_alike_expr r x y) (are_alike_exprs r xs ys) k in ap₂ (λ a l. a ∷ l) (expr_value x y parts.0) (exprs_values xs ys parts.1)
  exprs_values _ _ k = cc

-- ---- whether bare rows over a table are there

any_map : (fn : Scope → NamedRow) (xs : List Scope) → has_rows (map fn xs) ≡ list_any (λ x. true) xs
any_map fn [] = refl
any_map fn (x ∷ xs) = refl

any_put : (R : Scope → Scope → Ordering) (x : Scope) (xs : List Scope) → list_any (λ y. true) (put R x xs) ≡ true
any_put R x [] = refl
any_put R x (y ∷ ys) =
    let go : (b : Bool) → list_any (λ z. true) (cond b (y ∷ put R x ys) (x ∷ (y ∷ ys))) ≡ true = elim [ true ↦ refl | false ↦ refl ] in
    go (is_gt (R x y))

any_sorted : (R : Scope → Scope → Ordering) (xs : List Scope) → list_any (λ y. true) (sort R xs) ≡ list_any (λ y. true) xs
any_sorted R [] = refl
any_sorted R (x ∷ xs) = any_put R x (sort R xs)

any_kept : (p : Scope → Bool) (bind : NamedRow → Scope) (w : World) (rows : List NamedRow)
    → list_any (λ y. true) (filter p (flat_map (joined tree.no_join w) (map bind rows))) ≡ list_any (λ row. p (bind row)) rows
any_kept p bind w [] = refl
any_kept p bind w (row ∷ rows) =
    let later = any_kept p bind w rows in
    let rest : List Scope = flat_map (joined tree.no_join w) (map bind rows) in
    let go : (b : Bool) → list_any (λ y. true) (cond b (bind row ∷ filter p rest) (filter p rest)) ≡ (b || list_any (λ x. p (bind x)) rows) = elim [ true ↦ refl | false ↦ later ] in
    go (p (bind row))

pub bare_rows : (w : World) (e : Scope) (schema name alias : List ℕ) (outs : List OutTree) (condition : FilterTree)
    → has_rows (rows_of (tree.rows [] outs (tree.table schema name alias) tree.no_join condition [] None None) w e)
    ≡ list_any (λ row. kept condition w (with_alias e alias row)) (rows_named w.tables w.database schema name)
bare_rows w e schema name alias outs condition =
    let all : List NamedRow = rows_named w.tables w.database schema name in
    let found : List Scope = filter (kept condition w) (flat_map (joined tree.no_join w) (map (with_alias e alias) all)) in
    any_map (outputs outs []) (sort (order_cmp []) found) ∙ any_sorted (order_cmp []) found ∙ any_kept (kept condition w) (with_alias e alias) w all

pub nil_is : {A : Type 0} (xs : List A) → (length xs == 0) ≡ true → xs ≡ []
nil_is [] h = refl
nil_is (x ∷ xs) h = let e = eqb-true (suc (length xs)) 0 h in absurd (omega arith)

pub none_is : (o : Option ℕ) → is_none o ≡ true → o ≡ None
none_is None h = refl
none_is (Some n) h = cc

pub no_join_is : (js : JoinTrees) → is_no_join js ≡ true → js ≡ tree.no_join
no_join_is tree.no_join h = refl
no_join_is (tree.join s a js) h = cc

pub bare_select : (distinct : List ExprTree) (outs : List OutTree) (from : FromTree) (joins : JoinTrees) (condition : FilterTree)
    (keys : List OrderTree) (limit offset : Option ℕ)
    → is_bare distinct joins keys limit offset ≡ true
    → tree.rows distinct outs from joins condition keys limit offset ≡ tree.rows [] outs from tree.no_join condition [] None None
bare_select distinct outs from joins condition keys limit offset h =
    let a = and_parts ((length distinct == 0) && is_no_join joins && (length keys == 0) && is_none limit) (is_none offset) h in
    let b = and_parts ((length distinct == 0) && is_no_join joins && (length keys == 0)) (is_none limit) a.0 in
    let c = and_parts ((length distinct == 0) && is_no_join joins) (length keys == 0) b.0 in
    let d = and_parts (length distinct == 0) (is_no_join joins) c.0 in
    ap (λ x. tree.rows x outs from joins condition keys limit offset) (nil_is distinct d.0)
    ∙ ap (λ x. tree.rows [] outs from x condition keys limit offset) (no_join_is joins d.1)
    ∙ ap (λ x. tree.rows [] outs from tree.no_join condition x limit offset) (nil_is keys c.1)
    ∙ ap (λ x. tree.rows [] outs from tree.no_join condition [] x offset) (none_is limit b.1)
    ∙ ap (λ x. tree.rows [] outs from tree.no_join condition [] None x) (none_is offset a.1)

pub any_alike : (p q : NamedRow → Bool) → ((x : NamedRow) → p x ≡ q x) → (xs : List NamedRow) → list_any p xs ≡ list_any q xs
any_alike p q h [] = refl
any_alike p q h (x ∷ xs) = ap₂ (λ a b. a || b) (h x) (any_alike p q h xs)

-- ---- conditions

mutual
  pub truth_alike : (p q : PredTree) (r : Renaming) → is_alike r p q ≡ true → (w : World) (e f : Scope) → Related r e f → truth_at p w e ≡ truth_at q w f
  truth_alike tree.always tree.always r k w e f h = refl
  truth_alike tree.never tree.never r k w e f h = refl
  truth_alike (tree.test x t xs) (tree.test y u ys) r k w e f h =
      let parts = and_parts (is_alike_expr r x y && same_test t u) (are_alike_exprs r xs ys) k in
      let both = and_parts (is_alike_expr r x y) (same_test t u) parts.0 in
      ap (λ n. test_truth n (value x [] e) (map (λ i. value i [] e) xs)) (test_is t u both.1) ∙ ap₂ (test_truth u) (expr_value r e f h x y both.0) (exprs_values r e f h xs ys parts.1)
  truth_alike (tree.negation p) (tree.negation q) r k w e f h = ap not3 (truth_alike p q r k w e f h)
  truth_alike (tree.all_of ps) (tree.all_of qs) r k w e f h = all_alike ps qs r k w e f h
  truth_alike (tree.any_of ps) (tree.any_of qs) r k w e f h = any_of_alike ps qs r k w e f h
  truth_alike (tree.exists s) (tree.exists u) r k w e f h = ap truth_of (rows_alike s u r k w e f h)
  truth_alike _ _ r k w e f h = cc

  all_alike : (ps qs : PredTrees) (r : Renaming) → are_alike r ps qs ≡ true → (w : World) (e f : Scope) → Related r e f → all_true ps w e ≡ all_true qs w f
  all_alike tree.no_pred tree.no_pred r k w e f h = refl
  all_alike (tree.pred p ps) (tree.pred q qs) r k w e f h =
      let parts = and_parts (is_alike r p q) (are_alike r ps qs) k in ap₂ and3 (truth_alike p q r parts.0 w e f h)
      (all_alike ps qs r parts.1 w e f h)
  all_alike _ _ r k w e f h = cc

  any_of_alike : (ps qs : PredTrees) (r : Renaming) → are_alike r ps qs ≡ true → (w : World) (e f : Scope) → Related r e f → any_true ps w e ≡ any_true qs w f
  any_of_alike tree.no_pred tree.no_pred r k w e f h = refl
  any_of_alike (tree.pred p ps) (tree.pred q qs) r k w e f h =
      let parts = and_parts (is_alike r p q) (are_alike r ps qs) k in ap₂ or3 (truth_alike p q r parts.0 w e f h)
      (any_of_alike ps qs r parts.1 w e f h)
  any_of_alike _ _ r k w e f h = cc

  rows_alike : (s u : SelectTree) (r : Renaming) → is_alike_select r s u ≡ true → (w : World) (e f : Scope) → Related r e f → has_rows (rows_of s w e) ≡ has_rows (rows_of u w f)
  rows_alike (tree.rows distinct outs (tree.table schema name alias) joins condition keys limit offset)
      (tree.rows other_distinct other_outs (tree.table other_schema other_name other_alias) other_joins other_condition other_keys other_limit
      other_offset)
      r k w e f h =
      let within : Renaming = (alias, other_alias) ∷ r in
      let one : Bool = is_bare distinct joins keys limit offset in
      let two : Bool = is_bare other_distinct other_joins other_keys other_limit other_offset in
      let last = and_parts (one && two && (bytes_eq schema other_schema && bytes_eq name other_name) && are_alike_outs within outs other_outs) (is_alike_filter within condition other_condition) k in
      let before = and_parts (one && two && (bytes_eq schema other_schema && bytes_eq name other_name)) (are_alike_outs within outs other_outs) last.0 in
      let tables = and_parts (one && two) (bytes_eq schema other_schema && bytes_eq name other_name) before.0 in
      let bare = and_parts one two tables.0 in
      let names = and_parts (bytes_eq schema other_schema) (bytes_eq name other_name) tables.1 in
      let each : (row : NamedRow) → kept condition w (with_alias e alias row) ≡ kept other_condition w (with_alias f other_alias row) =
      λ row. filter_alike condition other_condition within last.1 w (with_alias e alias row) (with_alias f other_alias row) (related_bound r e f alias other_alias row h) in
      ap (λ x. has_rows (rows_of x w e)) (bare_select distinct outs (tree.table schema name alias) joins condition keys limit offset bare.0)
      ∙ bare_rows w e schema name alias outs condition
      ∙ any_alike (λ row. kept condition w (with_alias e alias row)) (λ row. kept other_condition w (with_alias f other_alias row)) each (rows_named w.tables w.database schema name)
      ∙ ap₂ (λ x y. list_any (λ row. kept other_condition w (with_alias f other_alias row)) (rows_named w.tables w.database x y))
      ((bytes_eq-Decides schema other_schema).0 names.0) ((bytes_eq-Decides name other_name).0 names.1)
      ∙ sym
      (ap (λ x. has_rows (rows_of x w f))
      (bare_select other_distinct other_outs (tree.table other_schema other_name other_alias) other_joins other_condition other_keys
      other_limit other_offset bare.1)
      ∙ bare_rows w f other_schema other_name other_alias other_outs other_condition)
  rows_alike (tree.rows distinct outs from joins condition keys limit offset)
      (tree.rows other_distinct other_outs other_from other_joins other_condition other_keys other_limit other_offset) r k w e f h =
      let tables =
      and_parts (is_bare distinct joins keys limit offset && is_bare other_distinct other_joins other_keys other_limit other_offset)
      (same_table from other_from) (and_parts
      (is_bare distinct joins keys limit offset && is_bare other_distinct other_joins other_keys other_limit other_offset
      && same_table from other_from)
      (are_alike_outs (beside r from other_from) outs other_outs)
      (and_parts (is_bare distinct joins keys limit offset && is_bare other_distinct other_joins other_keys other_limit other_offset && same_table from other_from
      && are_alike_outs (beside r from other_from) outs other_outs) (is_alike_filter (beside r from other_from) condition other_condition) k).0).0
      in
      absurd (let no = tables.1 in cc)
  rows_alike _ _ r k w e f h = cc

  filter_alike : (c d : FilterTree) (r : Renaming) → is_alike_filter r c d ≡ true → (w : World) (e f : Scope) → Related r e f → kept c w e ≡ kept d w f
  filter_alike tree.no_filter tree.no_filter r k w e f h = refl
  filter_alike (tree.filter p) (tree.filter q) r k w e f h = ap is_true (truth_alike p q r k w e f h)
  filter_alike _ _ r k w e f h = cc

-- ---- a WHERE is true exactly where each of its conjuncts is

abbrev pub is_so : World → Scope → PredTree → Bool
is_so w e p = is_true (truth_at p w e)

and_true : (b : Bool) → b ≡ (b && true)
and_true true = refl
and_true false = refl

all_append : (p : PredTree → Bool) (xs ys : List PredTree) → list_all p (xs ++ ys) ≡ (list_all p xs && list_all p ys)
all_append p [] ys = refl
all_append p (x ∷ xs) ys =
    let assoc : (a b c : Bool) → (a && (b && c)) ≡ ((a && b) && c) = elim [ true ↦ λ b c. refl | false ↦ λ b c. refl ] in
    ap (λ b. p x && b) (all_append p xs ys) ∙ assoc (p x) (list_all p xs) (list_all p ys)

mutual
  pub true_opened : (p : PredTree) (w : World) (e : Scope) → is_true (truth_at p w e) ≡ list_all (is_so w e) (opened p)
  true_opened tree.always w e = refl
  true_opened tree.never w e = refl
  true_opened (tree.test x t xs) w e = and_true (is_so w e (tree.test x t xs))
  true_opened (tree.negation p) w e = and_true (is_so w e (tree.negation p))
  true_opened (tree.all_of ps) w e = all_true_opened ps w e
  true_opened (tree.any_of ps) w e = and_true (is_so w e (tree.any_of ps))
  true_opened (tree.exists s) w e = and_true (is_so w e (tree.exists s))

  all_true_opened : (ps : PredTrees) (w : World) (e : Scope) → is_true (all_true ps w e) ≡ list_all (is_so w e) (all_opened ps)
  all_true_opened tree.no_pred w e = refl
  all_true_opened (tree.pred p ps) w e =
      true_and (truth_at p w e) (all_true ps w e) ∙ ap₂ (λ a b. a && b) (true_opened p w e) (all_true_opened ps w e) ∙ sym (all_append (is_so w e) (opened p) (all_opened ps))

pub kept_conjuncts : (c : FilterTree) (w : World) (e : Scope) → kept c w e ≡ list_all (is_so w e) (conjuncts c)
kept_conjuncts tree.no_filter w e = refl
kept_conjuncts (tree.filter p) w e = true_opened p w e
