-- A statement without faults gives the same where each table's rows are first put in the order of its key.
use Rattle.std.proofs.Common.{◌≡◌, ℕ, pos, List, [], ◌∷◌, ◌++◌, map, filter, flat_map, Bool, true, false, cond, not, ◌&&◌, ◌||◌, ◌==◌, length, Option, Some, None, is_none, refl, sym, ap, ap₂, ◌∙◌, subst, is_gt, Ordering}
use Rattle.std.specs.Cmp.{IsTotalOrder}
use Rattle.std.specs.List.{list_all}
use Rattle.std.specs.Ordering.{is_eq}
use Rattle.std.proofs.lemmas.Bool.{and_parts}
use Rattle.std.proofs.lemmas.Cmp.{on_total, then_total}
use Rattle.std.proofs.lemmas.List.Folds.{flat_map-map}
use Rattle.hq_base.specs.Aggregates.{counted, aggregated}
use Rattle.hq_base.specs.Cells.{int, json, json_of, key_cmp}
use Rattle.hq_base.specs.Json as tree_of
use Rattle.hq_base.specs.Json.{member}
use Rattle.hq_base.specs.Lists.{Each, put, sort}
use Rattle.hq_base.proofs.Lists.{each_weaken, each_filter, map_map}
use Rattle.hq_base.proofs.Orders.{key_cmp_total}
use Rattle.hq_model.specs.Database.{Row}
use Rattle.hq_model.specs.Grants.{Grants}
use Rattle.hq_model.specs.Logic.{is_true, truth_of, not3, and3, or3}
use Rattle.hq_model.specs.Permitted.{columns_cmp, by_key}
use Rattle.hq_model.specs.Schema.{Schema, table}
use Rattle.hq_model.specs.Seen.{row_cell, table_rows}
use Rattle.hq_model.specs.declared.table.Table.{Table}
use Rattle.hq_sql_tree.specs.Tree as tree
use Rattle.hq_sql_tree.specs.Tree.{ExprTree, PairTrees, OrderTree, OrderTrees, OutTree, SelectTree, FromTree, JoinTrees, FilterTree, PredTree, PredTrees, orders_of}
use Rattle.hq_sql_tree.specs.Meaning.{NamedRow, cell_named, Scope, with_alias, World, named_row, rows_named, value, members, orders_cmp, order_cmp, distinct_on, limited, offset_by, outputs, or_null_row, has_rows, rows_of, scopes_of, joined, kept, truth_at, all_true, any_true}
use Rattle.hq_translation.proofs.Names.{same_text}
use Rattle.hq_confine_rules.specs.Conjuncts.{opened, all_opened, conjuncts}
use Rattle.hq_confine_rules.specs.Faults.{outputs_of, joined_shapes, is_exempt, is_unordered, scan_faults, select_faults, joins_faults, where_faults, conjunct_faults, conjuncts_faults, pred_faults, preds_faults}
use Rattle.hq_confine_rules.specs.Members.{filter_conjuncts, is_one_of, Equation, equation, is_linking, mask_conjuncts, is_mask_join}
use Rattle.hq_confine_rules.specs.Origins.{Origin, made, of, Shape, scan, outputs as shows, Shapes, shape_at, column_of, column_place, behind, output_named, origin_in, origin, table_place}
use Rattle.hq_confine_rules.specs.Uses.{Fault, is_run, has_run, shows_order, show_order, expr_faults, exprs_faults, outs_faults, orders_faults}
use Rattle.hq_confine_rules.proofs.Alike.{is_so, kept_conjuncts, nil_is, none_is}
use Rattle.hq_confine_rules.proofs.Clean.{left_none, right_none}
use Rattle.hq_laws_confine.proofs.Meaning.Formed.{Fresh, Formed, FormedJoins, FormedFilter, FormedPred, FormedPreds}
use Rattle.hq_laws_confine.proofs.Meaning.Gather.{Shuffled, length_shuffled, counted_shuffled, taken_shuffled, sorted_shuffled}
use Rattle.hq_laws_confine.proofs.Meaning.Keys.{columns_total, Keyed}
use Rattle.hq_laws_confine.proofs.Meaning.Links.{equation_means}
use Rattle.hq_laws_confine.proofs.Meaning.Lists.{each_append, filter_flat}
use Rattle.hq_laws_confine.proofs.Meaning.Masks.{MaskForm, mask_form}
use Rattle.hq_laws_confine.proofs.Meaning.Means.{joins_keep, fresh_shape, six, scan_parts}
use Rattle.hq_laws_confine.proofs.Meaning.Orders.{Diff, none_total, then_left, then_right, flat_sort}
use Rattle.hq_laws_confine.proofs.Meaning.Related.{order_same, run_cmp}
use Rattle.hq_laws_confine.proofs.Meaning.Tables.{cell_in, cell_at_place, file_world, key_world}
use Rattle.hq_laws_confine.proofs.Meaning.Written.{Base, one_keyed}

funext : {A B : Type 0} {f g : A → B} → ((x : A) → f x ≡ g x) → f ≡ g
funext h = λ i x. h x i

pub orders_total : (ks : List OrderTree) → IsTotalOrder (order_cmp ks)
orders_total [] = none_total
orders_total (k ∷ ks) = then_total (on_total (value k.value []) (key_cmp_total k.desc k.nulls_first)) (orders_total ks)

-- ---- a scan's own key tells its rows apart

-- a value whose origin is a column of the scan at an alias
own_value : (s : Schema) (scope : Shapes) (a : List ℕ) (t : ℕ) → shape_at scope a ≡ scan t → (x : Scope) (row : Row)
    → x a ≡ named_row (table s t).columns row → (v : ExprTree) (c : ℕ) → origin s scope v ≡ of t (a ∷ []) c → value v [] x ≡ row_cell row c
own_value s scope a t at x row shown (tree.column b n form) c q =
    let columns : (u : ℕ) → shape_at scope b ≡ scan u → (o : Option ℕ) → column_place s u n ≡ o → column_of u b o ≡ of t (a ∷ []) c → cell_named (x b) n ≡ row_cell row c =
    λ u sh. elim [
      | None ↦ λ e k. cc
      | Some i ↦ λ e k.
          let table_is : u ≡ t = cc in
          let alias_is : b ≡ a = cc in
          let column_is : i ≡ c = cc in
          ap (λ y. cell_named (x y) n) alias_is ∙ ap (λ r. cell_named r n) shown ∙ cell_at_place s t row n
          ∙ ap (cell_in row) (ap (λ y. column_place s y n) (sym table_is) ∙ e) ∙ ap (row_cell row) column_is
    ] in
    let passed : (os : List (List ℕ × Origin)) → shape_at scope b ≡ shows os → (w : Origin) → behind b w ≡ of t (a ∷ []) c → cell_named (x b) n ≡ row_cell row c =
    λ os sh. elim [ made ↦ λ k. cc | of u path i ↦ λ k. (let alias_is : b ≡ a = cc in let one : scan t ≡ shows os = sym at ∙ ap (shape_at scope) (sym alias_is) ∙ sh in cc) ] in
    let go : (sh : Shape) → shape_at scope b ≡ sh → origin_in s sh b n ≡ of t (a ∷ []) c → cell_named (x b) n ≡ row_cell row c =
    elim [ scan u ↦ λ e k. columns u e (column_place s u n) refl k | shows os ↦ λ e k. passed os e (output_named os n) k ] in
    go (shape_at scope b) refl q
own_value s scope a t at x row shown (tree.int n) c q = cc
own_value s scope a t at x row shown (tree.text n) c q = cc
own_value s scope a t at x row shown (tree.uuid n) c q = cc
own_value s scope a t at x row shown (tree.bool n) c q = cc
own_value s scope a t at x row shown (tree.object ps) c q = cc
own_value s scope a t at x row shown (tree.aggregate n) c q = cc

run_differs : (s : Schema) (scope : Shapes) (a : List ℕ) (t : ℕ) → shape_at scope a ≡ scan t → (x u : Scope) (row other : Row)
    → x a ≡ named_row (table s t).columns row → u a ≡ named_row (table s t).columns other
    → Diff (columns_cmp (table s t).key) row other → (os : OrderTrees) → has_run s scope t a os ≡ true → Diff (orders_cmp os) x u
run_differs s scope a t at x u row other p q differ tree.no_order h = cc
run_differs s scope a t at x u row other p q differ (tree.order v desc nulls_first os) h =
    let all : OrderTrees = tree.order v desc nulls_first os in
    let go : (b : Bool) → is_run s scope t (a ∷ []) (table s t).key all ≡ b → (b || has_run s scope t a os) ≡ true → Diff (orders_cmp all) x u =
    elim [
      | true ↦ λ e k.
          subst (λ r. is_eq r ≡ false)
          (sym
          (run_cmp s scope t (a ∷ []) x u row other
          (λ y c w. (own_value s scope a t at x row p y c w, own_value s scope a t at u other q y c w)) (table s t).key all e))
          (then_left (columns_cmp (table s t).key row other) _ differ)
      | false ↦ λ e k. then_right (key_cmp desc nulls_first (value v [] x) (value v [] u)) (orders_cmp os x u) (run_differs s scope a t at x u row other p q differ os k)
    ] in
    go (is_run s scope t (a ∷ []) (table s t).key all) refl h

-- ---- whether some row is there

module _ {A : Type 0} where
  abbrev pub some : List A → Bool
  some [] = false
  some (x ∷ xs) = true

  some_append : (xs ys : List A) → some (xs ++ ys) ≡ (some xs || some ys)
  some_append [] ys = refl
  some_append (x ∷ xs) ys = refl

  some_sort : (K : A → A → Ordering) (xs : List A) → some (sort K xs) ≡ some xs
  some_sort K [] = refl
  some_sort K (x ∷ xs) =
      let one : (ys : List A) → some (put K x ys) ≡ true =
      elim [ [] ↦ refl | y ∷ ys ↦ (let go : (b : Bool) → some (cond b (y ∷ put K x ys) (x ∷ (y ∷ ys))) ≡ true = elim [ true ↦ refl | false ↦ refl ] in go (is_gt (K x y))) ] in
      one (sort K xs)

or_swap : (a b c : Bool) → (a || (b || c)) ≡ (b || (a || c))
or_swap false b c = refl
or_swap true true c = refl
or_swap true false c = refl

some_put : {A B : Type 0} (R : A → A → Ordering) (F : A → List B) (x : A) (ys : List A) → some (flat_map F (put R x ys)) ≡ (some (F x) || some (flat_map F ys))
some_put R F x [] = some_append (F x) []
some_put R F x (y ∷ ys) =
    let later = some_put R F x ys in
    let go : (b : Bool) → some (flat_map F (cond b (y ∷ put R x ys) (x ∷ (y ∷ ys)))) ≡ (some (F x) || some (flat_map F (y ∷ ys))) =
    elim [
      | true ↦ some_append (F y) (flat_map F (put R x ys)) ∙ ap (λ b. some (F y) || b) later
          ∙ or_swap (some (F y)) (some (F x)) (some (flat_map F ys)) ∙ ap (λ b. some (F x) || b) (sym (some_append (F y) (flat_map F ys)))
      | false ↦ some_append (F x) (flat_map F (y ∷ ys))
    ] in
    go (is_gt (R x y))

some_flat : {A B : Type 0} (R : A → A → Ordering) (F : A → List B) (xs : List A) → some (flat_map F (sort R xs)) ≡ some (flat_map F xs)
some_flat R F [] = refl
some_flat R F (x ∷ xs) = some_put R F x (sort R xs) ∙ ap (λ b. some (F x) || b) (some_flat R F xs) ∙ sym (some_append (F x) (flat_map F xs))

has_map : {A : Type 0} (f : A → NamedRow) (xs : List A) → has_rows (map f xs) ≡ some xs
has_map f [] = refl
has_map f (x ∷ xs) = refl

-- ---- aggregates that do not show the order of rows

mutual
  steady_value : {A : Type 0} (v : ExprTree) → shows_order v ≡ false → (f : A → Scope) (xs ys : List A) → Shuffled xs ys → (x : Scope) → value v (map f xs) x ≡ value v (map f ys) x
  steady_value (tree.column a n form) st f xs ys h x = refl
  steady_value (tree.int n) st f xs ys h x = refl
  steady_value (tree.text n) st f xs ys h x = refl
  steady_value (tree.uuid n) st f xs ys h x = refl
  steady_value (tree.bool n) st f xs ys h x = refl
  steady_value (tree.object ps) st f xs ys h x = ap (λ m. json (tree_of.obj m)) (steady_members ps st f xs ys h x)
  steady_value (tree.aggregate tree.count_all) st f xs ys h x = ap (λ n. int (pos n)) (length_shuffled f xs ys h)
  steady_value (tree.aggregate (tree.count v distinct)) st f xs ys h x =
      ap (counted distinct) (map_map (value v []) f xs) ∙ counted_shuffled distinct (λ u. value v [] (f u)) xs ys h
      ∙ ap (counted distinct) (sym (map_map (value v []) f ys))
  steady_value (tree.aggregate (tree.take a v)) st f xs ys h x =
      ap (aggregated a) (map_map (value v []) f xs) ∙ taken_shuffled a (λ u. value v [] (f u)) xs ys h
      ∙ ap (aggregated a) (sym (map_map (value v []) f ys))
  steady_value (tree.aggregate (tree.json_agg v os)) st f xs ys h x = cc

  steady_members : {A : Type 0} (ps : PairTrees) → show_order ps ≡ false → (f : A → Scope) (xs ys : List A) → Shuffled xs ys → (x : Scope) → members ps (map f xs) x ≡ members ps (map f ys) x
  steady_members tree.no_pair st f xs ys h x = refl
  steady_members (tree.pair n v ps) st f xs ys h x =
      let split : (a b : Bool) → (a || b) ≡ false → (a ≡ false) × (b ≡ false) = elim [ true ↦ λ b k. absurd cc | false ↦ λ b k. (refl, k) ] in
      let parts = split (shows_order v) (show_order ps) st in
      ap₂ (λ c m. member n (json_of c) m) (steady_value v parts.0 f xs ys h x) (steady_members ps parts.1 f xs ys h x)

module _ (s : Schema) (g : Grants) (tables : List Table) (d : List (List Row)) (base : Base s tables d) (keyed : (t : ℕ) → Keyed s d t) where
  abbrev F : World
  F = file_world tables d

  abbrev K : World
  K = key_world s tables d

  -- ---- one scan, all else being the same

  abbrev parts_of : (a : List ℕ) → JoinTrees → FilterTree → Scope → NamedRow → List Scope
  parts_of a js c x r = filter (kept c F) (joined js F (with_alias x a r))

  flat_parts : (a : List ℕ) (js : JoinTrees) (c : FilterTree) (x : Scope) (rs : List NamedRow) → filter (kept c F) (flat_map (joined js F) (map (with_alias x a) rs)) ≡ flat_map (parts_of a js c x) rs
  flat_parts a js c x rs = ap (filter (kept c F)) (flat_map-map (joined js F) (with_alias x a) rs) ∙ filter_flat (kept c F) (λ r. joined js F (with_alias x a r)) rs

  -- the rows of a table in file order and in key order, each with its parts
  flat_rows : (a : List ℕ) (js : JoinTrees) (c : FilterTree) (x : Scope) (w : World) (schema name : List ℕ) (rows : List Row)
      → rows_named w.tables w.database schema name ≡ map (named_row (table s (table_place s schema name)).columns) rows
      → filter (kept c F) (flat_map (joined js F) (map (with_alias x a) (rows_named w.tables w.database schema name)))
      ≡ flat_map (λ row. parts_of a js c x (named_row (table s (table_place s schema name)).columns row)) rows
  flat_rows a js c x w schema name rows is =
      ap (λ l. filter (kept c F) (flat_map (joined js F) (map (with_alias x a) l))) is ∙ flat_parts a js c x (map (named_row (table s (table_place s schema name)).columns) rows)
      ∙ flat_map-map (parts_of a js c x) (named_row (table s (table_place s schema name)).columns) rows

  scan_sorted : (scope : Shapes) (schema name a : List ℕ) (js : JoinTrees) (c : FilterTree) (keys : List OrderTree)
      → shape_at scope a ≡ scan (table_place s schema name) → Fresh a js
      → has_run s scope (table_place s schema name) a (orders_of keys) ≡ true → (x : Scope)
      → sort (order_cmp keys)
      (filter (kept c F) (flat_map (joined js F) (map (with_alias x a) (rows_named K.tables K.database schema name))))
      ≡ sort (order_cmp keys)
      (filter (kept c F) (flat_map (joined js F) (map (with_alias x a) (rows_named F.tables F.database schema name))))
  scan_sorted scope schema name a js c keys at fresh run x =
      let t : ℕ = table_place s schema name in
      let N : Row → NamedRow = named_row (table s t).columns in
      let R : Row → Row → Ordering = columns_cmp (table s t).key in
      let G : Row → List Scope = λ row. parts_of a js c x (N row) in
      let shown : (row : Row) → Each (λ y. y a ≡ N row) (G row) =
      λ row. each_filter (λ y. y a ≡ N row) (kept c F) (joined js F (with_alias x a (N row)))
      (each_weaken (λ y. y a ≡ with_alias x a (N row) a) (λ y. y a ≡ N row) (λ y h. h ∙ ap (λ b. cond b (N row) (x a)) (same_text a))
      (joined js F (with_alias x a (N row))) (joins_keep a js fresh F (with_alias x a (N row))))
      in
      let differ : (y z : Scope) (row other : Row) → y a ≡ N row → z a ≡ N other → Diff R row other → Diff (order_cmp keys) y z =
      λ y z row other p q n. subst (λ o. is_eq o ≡ false) (sym (order_same keys y z)) (run_differs s scope a t at y z row other p q n (orders_of keys) run) in
      let far : (row other : Row) → Diff R row other → Each (λ y. Each (Diff (order_cmp keys) y) (G other)) (G row) =
      λ row other n. each_weaken (λ y. y a ≡ N row) (λ y. Each (Diff (order_cmp keys) y) (G other))
      (λ y p. each_weaken (λ z. z a ≡ N other) (Diff (order_cmp keys) y) (λ z q. differ y z row other p q n) (G other) (shown other))
      (G row) (shown row) in
      ap (sort (order_cmp keys)) (flat_rows a js c x K schema name (by_key s d t) (base.in_order schema name))
      ∙ flat_sort (orders_total keys) R (columns_total (table s t).key) G far (table_rows d t) (keyed t).apart
      ∙ sym (ap (sort (order_cmp keys)) (flat_rows a js c x F schema name (table_rows d t) (base.rows schema name)))

  scan_some : (schema name a : List ℕ) (js : JoinTrees) (c : FilterTree) (keys : List OrderTree) (outs : List OutTree) (x : Scope)
      → has_rows (map (outputs outs []) (sort (order_cmp keys) (filter (kept c F) (flat_map (joined js F) (map (with_alias x a) (rows_named K.tables K.database schema name))))))
      ≡ has_rows (map (outputs outs []) (sort (order_cmp keys) (filter (kept c F) (flat_map (joined js F) (map (with_alias x a) (rows_named F.tables F.database schema name))))))
  scan_some schema name a js c keys outs x =
      let t : ℕ = table_place s schema name in
      let G : Row → List Scope = λ row. parts_of a js c x (named_row (table s t).columns row) in
      let bare : (l : List Scope) → has_rows (map (outputs outs []) (sort (order_cmp keys) l)) ≡ some l = λ l. has_map (outputs outs []) (sort (order_cmp keys) l) ∙ some_sort (order_cmp keys) l in
      bare _ ∙ ap some (flat_rows a js c x K schema name (by_key s d t) (base.in_order schema name)) ∙ some_flat (columns_cmp (table s t).key) G (table_rows d t)
      ∙ sym (bare _ ∙ ap some (flat_rows a js c x F schema name (table_rows d t) (base.rows schema name)))

  scan_steady : (schema name a : List ℕ) (js : JoinTrees) (c : FilterTree) (keys : List OrderTree) (outs : List OutTree) (x : Scope)
      (v : ExprTree)
      → shows_order v ≡ false → (f : NamedRow → Scope) (y : Scope)
      → value v (map f (map (outputs outs []) (sort (order_cmp keys) (filter (kept c F) (flat_map (joined js F) (map (with_alias x a) (rows_named K.tables K.database schema name))))))) y
      ≡ value v (map f (map (outputs outs []) (sort (order_cmp keys) (filter (kept c F) (flat_map (joined js F) (map (with_alias x a) (rows_named F.tables F.database schema name))))))) y
  scan_steady schema name a js c keys outs x v st f y =
      let t : ℕ = table_place s schema name in
      let G : Row → List Scope = λ row. parts_of a js c x (named_row (table s t).columns row) in
      let bare : (l m : List Scope) → l ≡ m → value v (map f (map (outputs outs []) (sort (order_cmp keys) l))) y ≡ value v (map (λ u. f (outputs outs [] u)) (sort (order_cmp keys) m)) y =
      λ l m e. ap (λ k. value v (map f (map (outputs outs []) (sort (order_cmp keys) k))) y) e ∙ ap (λ k. value v k y) (map_map f (outputs outs []) (sort (order_cmp keys) m)) in
      bare _ _ (flat_rows a js c x K schema name (by_key s d t) (base.in_order schema name))
      ∙ steady_value v st (λ u. f (outputs outs [] u)) (sort (order_cmp keys) (flat_map G (by_key s d t)))
      (sort (order_cmp keys) (flat_map G (table_rows d t)))
      (sorted_shuffled (order_cmp keys) (columns_cmp (table s t).key) G (table_rows d t)) y
      ∙ sym (bare _ _ (flat_rows a js c x F schema name (table_rows d t) (base.rows schema name)))

  -- ---- conjuncts

  abbrev Same : PredTree → Type 0
  Same p = (x : Scope) → is_so K x p ≡ is_so F x p

  all_same : (ps : List PredTree) → Each Same ps → (x : Scope) → list_all (is_so K x) ps ≡ list_all (is_so F x) ps
  all_same [] h x = refl
  all_same (p ∷ ps) h x = ap₂ (λ a b. a && b) (h.0 x) (all_same ps h.1 x)

  where_same : (c : FilterTree) → Each Same (conjuncts c) → (x : Scope) → kept c K x ≡ kept c F x
  where_same c h x = kept_conjuncts c K x ∙ all_same (conjuncts c) h x ∙ sym (kept_conjuncts c F x)

  -- an equation does not see any rows
  equation_same : (p : PredTree) (q : Equation) → equation p ≡ Some q → Same p
  equation_same p q e x = ap is_true (equation_means p q e K x ∙ sym (equation_means p q e F x))

  exempt_same : (scope : Shapes) (all : List PredTree) (from : FromTree) (p : PredTree) → is_exempt s g scope all from p ≡ true → Same p
  exempt_same scope all (tree.table schema name a) p h =
      let t : ℕ = table_place s schema name in
      let link : (q : Option Equation) → equation p ≡ q → is_linking s scope all t a q ≡ true → Same p = elim [ None ↦ λ e k. cc | Some q ↦ λ e k. equation_same p q e ] in
      let go : (b : Bool) → is_one_of (filter_conjuncts s g t) a p ≡ b → (b || is_linking s scope all t a (equation p)) ≡ true → Same p =
      elim [ true ↦ λ e k. (λ x. one_keyed s tables d base (filter_conjuncts s g t) a p e x) | false ↦ λ e k. link (equation p) refl k ] in
      go (is_one_of (filter_conjuncts s g t) a p) refl h
  exempt_same scope all (tree.sub q a) p h = cc
  exempt_same scope all (tree.one a) p h = cc

  unless_same : (p : PredTree) (b : Bool) (faults : List Fault) → (b ≡ true → Same p) → (faults ≡ [] → (x : Scope) → truth_at p K x ≡ truth_at p F x) → cond b [] faults ≡ [] → Same p
  unless_same p true faults i same h = i refl
  unless_same p false faults i same h = λ x. ap is_true (same h x)

  ones_same : (owns : List PredTree) (a : List ℕ) (ps : List PredTree) → list_all (is_one_of owns a) ps ≡ true → Each Same ps
  ones_same owns a [] h = tt
  ones_same owns a (p ∷ ps) h = let parts = and_parts (is_one_of owns a p) (list_all (is_one_of owns a) ps) h in ((λ x. one_keyed s tables d base owns a p parts.0 x), ones_same owns a ps parts.1)

  mask_same : (scope : Shapes) (q : SelectTree) → MaskForm s g scope q → (x : Scope) → rows_of q K x ≡ rows_of q F x
  mask_same scope q m x =
      let out : List OutTree = record { value = tree.column m.alias m.name m.form; name = m.out } ∷ [] in
      subst (λ z. rows_of z K x ≡ rows_of z F x) (sym m.is)
      (ap (λ p. map (outputs out []) (sort (order_cmp []) (filter p (scopes_of (tree.one m.one) F x))))
      (funext (where_same m.condition (ones_same (mask_conjuncts s g m.t m.c) m.alias (conjuncts m.condition) m.ones))))

  -- ---- the induction

  abbrev finished : List OutTree → List ExprTree → List OrderTree → (limit offset : Option ℕ) → List Scope → List NamedRow
  finished outs distinct keys limit offset xs = map (outputs outs []) (limited limit (offset_by offset (distinct_on distinct (sort (order_cmp keys) xs))))

  abbrev grouped : List OutTree → List ExprTree → (limit offset : Option ℕ) → List Scope → List NamedRow
  grouped outs distinct limit offset xs = map (outputs outs []) (limited limit (offset_by offset (distinct_on distinct xs)))

  -- the parts of a scan whose rows may be taken in no order
  unordered_parts : (counts : Bool) (distinct : List ExprTree) (limit offset : Option ℕ) → is_unordered counts distinct limit offset ≡ true
      → (counts ≡ false) × (distinct ≡ []) × (limit ≡ None) × (offset ≡ None)
  unordered_parts counts distinct limit offset h =
      let three = and_parts (not counts && (length distinct == 0) && is_none limit) (is_none offset) h in
      let two = and_parts (not counts && (length distinct == 0)) (is_none limit) three.0 in
      let one = and_parts (not counts) (length distinct == 0) two.0 in
      let off : (b : Bool) → not b ≡ true → b ≡ false = elim [ true ↦ λ k. cc | false ↦ λ k. refl ] in
      (off counts one.0, nil_is distinct one.1, none_is limit two.1, none_is offset three.1)

  -- rows over a sub-select, over One, and the value of a fold, their parts being the same
  sub_rows : (distinct : List ExprTree) (outs : List OutTree) (q : SelectTree) (a : List ℕ) (js : JoinTrees) (c : FilterTree) (keys : List OrderTree) (limit offset : Option ℕ) (x : Scope)
      → ((y : Scope) → joined js K y ≡ joined js F y) → ((y : Scope) → kept c K y ≡ kept c F y) → rows_of q K x ≡ rows_of q F x
      → rows_of (tree.rows distinct outs (tree.sub q a) js c keys limit offset) K x ≡ rows_of (tree.rows distinct outs (tree.sub q a) js c keys limit offset) F x
  sub_rows distinct outs q a js c keys limit offset x j k r =
      let J : joined js K ≡ joined js F = funext j in
      let Q : kept c K ≡ kept c F = funext k in
      ap₂ (λ G P. finished outs distinct keys limit offset (filter P (flat_map G (map (with_alias x a) (rows_of q K x))))) J Q
      ∙ ap (λ l. finished outs distinct keys limit offset (filter (kept c F) (flat_map (joined js F) (map (with_alias x a) l)))) r

  one_rows : (distinct : List ExprTree) (outs : List OutTree) (a : List ℕ) (js : JoinTrees) (c : FilterTree) (keys : List OrderTree) (limit offset : Option ℕ) (x : Scope)
      → ((y : Scope) → joined js K y ≡ joined js F y) → ((y : Scope) → kept c K y ≡ kept c F y)
      → rows_of (tree.rows distinct outs (tree.one a) js c keys limit offset) K x ≡ rows_of (tree.rows distinct outs (tree.one a) js c keys limit offset) F x
  one_rows distinct outs a js c keys limit offset x j k =
      let J : joined js K ≡ joined js F = funext j in
      let Q : kept c K ≡ kept c F = funext k in
      ap₂ (λ G P. finished outs distinct keys limit offset (filter P (flat_map G (scopes_of (tree.one a) F x)))) J Q

  fold_rows : (out : OutTree) (inner : SelectTree) (a : List ℕ) (x : Scope)
      → value out.value (map (with_alias x a) (rows_of inner K x)) x ≡ value out.value (map (with_alias x a) (rows_of inner F x)) x
      → rows_of (tree.fold out inner a) K x ≡ rows_of (tree.fold out inner a) F x
  fold_rows out inner a x h = ap (λ v. ((out.name, v) ∷ []) ∷ []) h

  -- what a fold takes its value from: the same rows, or rows whose order it does not show
  fold_value : (out : OutTree) (inner : SelectTree) (a : List ℕ) (scope : Shapes) (x : Scope) → (select_faults s g scope true inner ≡ [] → rows_of inner K x ≡ rows_of inner F x)
      →
      (select_faults s g scope false inner ≡ [] → shows_order out.value ≡ false
      → value out.value (map (with_alias x a) (rows_of inner K x)) x ≡ value out.value (map (with_alias x a) (rows_of inner F x)) x)
      → select_faults s g scope true (tree.fold out inner a) ≡ [] → rows_of (tree.fold out inner a) K x ≡ rows_of (tree.fold out inner a) F x
  fold_value out inner a scope x same steady h =
      let faults : List Fault = expr_faults s g ((a, shows (outputs_of s g scope inner)) ∷ scope) out.value in
      let rest = right_none faults (select_faults s g scope (shows_order out.value) inner) h in
      let go : (b : Bool) → shows_order out.value ≡ b → select_faults s g scope b inner ≡ []
      → value out.value (map (with_alias x a) (rows_of inner K x)) x ≡ value out.value (map (with_alias x a) (rows_of inner F x)) x =
      elim [ true ↦ λ e k. ap (λ l. value out.value (map (with_alias x a) l) x) (same k) | false ↦ λ e k. steady k e ] in
      fold_rows out inner a x (go (shows_order out.value) refl rest)

  -- ---- rows over a table

  -- its parts
  record ScanParts (schema name a : List ℕ) (js : JoinTrees) (c : FilterTree) (keys : List OrderTree) (scope final : Shapes) (unordered : Bool) : Type 0 where
    at : shape_at final a ≡ scan (table_place s schema name)
    joins : (y : Scope) → joined js K y ≡ joined js F y
    keeps : (y : Scope) → kept c K y ≡ kept c F y
    fresh : Fresh a js
    run : (has_run s final (table_place s schema name) a (orders_of keys) || unordered) ≡ true

  abbrev in_world : (w : World) → (schema name a : List ℕ) → JoinTrees → FilterTree → Scope → List Scope
  in_world w schema name a js c x = filter (kept c F) (flat_map (joined js F) (map (with_alias x a) (rows_named w.tables w.database schema name)))

  -- the joins and the WHERE being the same, a function of the rows is that over them in key order
  scan_with : {B : Type 0} (f : List NamedRow → B) (distinct : List ExprTree) (outs : List OutTree) (schema name a : List ℕ)
      (js : JoinTrees) (c : FilterTree) (keys : List OrderTree) (limit offset : Option ℕ) (x : Scope)
      → ((y : Scope) → joined js K y ≡ joined js F y) → ((y : Scope) → kept c K y ≡ kept c F y)
      → f (rows_of (tree.rows distinct outs (tree.table schema name a) js c keys limit offset) K x) ≡ f (finished outs distinct keys limit offset (in_world K schema name a js c x))
  scan_with f distinct outs schema name a js c keys limit offset x j k =
      let J : joined js K ≡ joined js F = funext j in
      let Q : kept c K ≡ kept c F = funext k in
      ap₂ (λ G P. f (finished outs distinct keys limit offset (filter P (flat_map G (map (with_alias x a) (rows_named K.tables K.database schema name)))))) J Q

  table_rows_same : (distinct : List ExprTree) (outs : List OutTree) (schema name a : List ℕ) (js : JoinTrees) (c : FilterTree)
      (keys : List OrderTree) (limit offset : Option ℕ) (scope final : Shapes) (x : Scope)
      → ScanParts schema name a js c keys scope final (is_unordered true distinct limit offset)
      → rows_of (tree.rows distinct outs (tree.table schema name a) js c keys limit offset) K x ≡ rows_of (tree.rows distinct outs (tree.table schema name a) js c keys limit offset) F x
  table_rows_same distinct outs schema name a js c keys limit offset scope final x p =
      let keep : (b : Bool) → (b || false) ≡ true → b ≡ true = elim [ true ↦ λ z. refl | false ↦ λ z. z ] in
      scan_with (λ l. l) distinct outs schema name a js c keys limit offset x p.joins p.keeps
      ∙ ap (grouped outs distinct limit offset) (scan_sorted final schema name a js c keys p.at p.fresh (keep (has_run s final (table_place s schema name) a (orders_of keys)) p.run) x)

  -- where the order of rows does not count
  table_value_same : (distinct : List ExprTree) (outs : List OutTree) (schema name a : List ℕ) (js : JoinTrees) (c : FilterTree)
      (keys : List OrderTree) (limit offset : Option ℕ) (scope final : Shapes) (x : Scope)
      → ScanParts schema name a js c keys scope final (is_unordered false distinct limit offset)
      → (v : ExprTree) → shows_order v ≡ false → (m : NamedRow → Scope) (y : Scope)
      → value v (map m (rows_of (tree.rows distinct outs (tree.table schema name a) js c keys limit offset) K x)) y
      ≡ value v (map m (rows_of (tree.rows distinct outs (tree.table schema name a) js c keys limit offset) F x)) y
  table_value_same distinct outs schema name a js c keys limit offset scope final x p v st m y =
      let t : ℕ = table_place s schema name in
      let in_K : List Scope = in_world K schema name a js c x in
      let in_F : List Scope = in_world F schema name a js c x in
      let go : (b : Bool) → has_run s final t a (orders_of keys) ≡ b → (b || is_unordered false distinct limit offset) ≡ true
      → value v (map m (finished outs distinct keys limit offset in_K)) y
      ≡ value v (map m (finished outs distinct keys limit offset in_F)) y =
      elim [
        | true ↦ λ e z. ap (λ l. value v (map m (grouped outs distinct limit offset l)) y) (scan_sorted final schema name a js c keys p.at p.fresh e x)
        | false ↦ λ e z.
            let u = unordered_parts false distinct limit offset z in
            ap (λ n. value v (map m (finished outs n keys limit offset in_K)) y) u.1
            ∙ ap (λ n. value v (map m (finished outs [] keys n offset in_K)) y) u.2
            ∙ ap (λ n. value v (map m (finished outs [] keys None n in_K)) y) u.3
            ∙ scan_steady schema name a js c keys outs x v st m y
            ∙ sym
            (ap (λ n. value v (map m (finished outs n keys limit offset in_F)) y) u.1
            ∙ ap (λ n. value v (map m (finished outs [] keys n offset in_F)) y) u.2
            ∙ ap (λ n. value v (map m (finished outs [] keys None n in_F)) y) u.3)
      ] in
      scan_with (λ l. value v (map m l) y) distinct outs schema name a js c keys limit offset x p.joins p.keeps ∙ go (has_run s final t a (orders_of keys)) refl p.run

  table_has_same : (distinct : List ExprTree) (outs : List OutTree) (schema name a : List ℕ) (js : JoinTrees) (c : FilterTree)
      (keys : List OrderTree) (limit offset : Option ℕ) (scope final : Shapes) (x : Scope)
      → ScanParts schema name a js c keys scope final (is_unordered false distinct limit offset)
      → has_rows (rows_of (tree.rows distinct outs (tree.table schema name a) js c keys limit offset) K x)
      ≡ has_rows (rows_of (tree.rows distinct outs (tree.table schema name a) js c keys limit offset) F x)
  table_has_same distinct outs schema name a js c keys limit offset scope final x p =
      let t : ℕ = table_place s schema name in
      let in_K : List Scope = in_world K schema name a js c x in
      let in_F : List Scope = in_world F schema name a js c x in
      let go : (b : Bool) → has_run s final t a (orders_of keys) ≡ b → (b || is_unordered false distinct limit offset) ≡ true
      → has_rows (finished outs distinct keys limit offset in_K) ≡ has_rows (finished outs distinct keys limit offset in_F) =
      elim [
        | true ↦ λ e z. ap (λ l. has_rows (grouped outs distinct limit offset l)) (scan_sorted final schema name a js c keys p.at p.fresh e x)
        | false ↦ λ e z.
            let u = unordered_parts false distinct limit offset z in
            ap (λ n. has_rows (finished outs n keys limit offset in_K)) u.1 ∙ ap (λ n. has_rows (finished outs [] keys n offset in_K)) u.2 ∙ ap (λ n. has_rows (finished outs [] keys None n in_K)) u.3
            ∙ scan_some schema name a js c keys outs x
            ∙ sym
            (ap (λ n. has_rows (finished outs n keys limit offset in_F)) u.1
            ∙ ap (λ n. has_rows (finished outs [] keys n offset in_F)) u.2 ∙ ap (λ n. has_rows (finished outs [] keys None n in_F)) u.3)
      ] in
      scan_with has_rows distinct outs schema name a js c keys limit offset x p.joins p.keeps ∙ go (has_run s final t a (orders_of keys)) refl p.run

  -- ---- the faults of the parts of rows

  record PartsFaultless (distinct : List ExprTree) (outs : List OutTree) (from : FromTree) (js : JoinTrees) (c : FilterTree)
      (keys : List OrderTree) (here final : Shapes) (own : List Fault) : Type 0 where
    from_part : own ≡ []
    joins_part : joins_faults s g here js ≡ []
    where_part : where_faults s g final (is_exempt s g final (conjuncts c) from) c ≡ []

  parts_faultless : (distinct : List ExprTree) (outs : List OutTree) (from : FromTree) (js : JoinTrees) (c : FilterTree) (keys : List OrderTree) (here final : Shapes) (own : List Fault)
      → exprs_faults s g final distinct
      ++
      (outs_faults s g final outs
      ++
      (own
      ++
      (joins_faults s g here js
      ++ (where_faults s g final (is_exempt s g final (conjuncts c) from) c ++ orders_faults s g final 0 (orders_of keys)))))
      ≡ []
      → PartsFaultless distinct outs from js c keys here final own
  parts_faultless distinct outs from js c keys here final own h =
      let k =
      six (exprs_faults s g final distinct) (outs_faults s g final outs) own (joins_faults s g here js)
      (where_faults s g final (is_exempt s g final (conjuncts c) from) c) (orders_faults s g final 0 (orders_of keys)) h in
      record { from_part = k.2; joins_part = k.3; where_part = k.4 }

  scan_at : (schema name a : List ℕ) (js : JoinTrees) (scope : Shapes) → Fresh a js
      → shape_at (joined_shapes s g ((a, scan (table_place s schema name)) ∷ scope) js) a ≡ scan (table_place s schema name)
  scan_at schema name a js scope fresh =
      fresh_shape s g a js fresh ((a, scan (table_place s schema name)) ∷ scope) ∙ ap (λ b. cond b (scan (table_place s schema name)) (shape_at scope a)) (same_text a)

  abbrev table_scope : (schema name a : List ℕ) → Shapes → Shapes
  table_scope schema name a scope = (a, scan (table_place s schema name)) ∷ scope

  abbrev sub_scope : SelectTree → (a : List ℕ) → Shapes → Shapes
  sub_scope q a scope = (a, shows (outputs_of s g scope q)) ∷ scope

  abbrev one_scope : (a : List ℕ) → Shapes → Shapes
  one_scope a scope = (a, shows []) ∷ scope

  mutual
    -- where the order of rows counts they are the same
    pub rows_same : (q : SelectTree) (scope : Shapes) → Formed q → select_faults s g scope true q ≡ [] → (x : Scope) → rows_of q K x ≡ rows_of q F x
    rows_same (tree.rows distinct outs (tree.table schema name a) js c keys limit offset) scope f h x =
        let here : Shapes = table_scope schema name a scope in
        let final : Shapes = joined_shapes s g here js in
        let from : FromTree = tree.table schema name a in
        let k = parts_faultless distinct outs from js c keys here final (scan_faults s g final (table_place s schema name) a (conjuncts c) keys (is_unordered true distinct limit offset)) h in
        table_rows_same distinct outs schema name a js c keys limit offset scope final x
        (record {
          at = scan_at schema name a js scope f.0;
          joins = λ y. joined_same js here f.1 k.joins_part y;
          keeps = λ y. kept_same c final (is_exempt s g final (conjuncts c) from) f.2 k.where_part (exempt_same final (conjuncts c) from) y;
          fresh = f.0;
          run = (scan_parts s g final (table_place s schema name) a (conjuncts c) keys (is_unordered true distinct limit offset) k.from_part).1;
        })
    rows_same (tree.rows distinct outs (tree.sub q a) js c keys limit offset) scope f h x =
        let here : Shapes = sub_scope q a scope in
        let final : Shapes = joined_shapes s g here js in
        let from : FromTree = tree.sub q a in
        let k = parts_faultless distinct outs from js c keys here final (select_faults s g scope true q) h in
        sub_rows distinct outs q a js c keys limit offset x (λ y. joined_same js here f.1 k.joins_part y)
        (λ y. kept_same c final (is_exempt s g final (conjuncts c) from) f.2 k.where_part (exempt_same final (conjuncts c) from) y)
        (rows_same q scope f.0 k.from_part x)
    rows_same (tree.rows distinct outs (tree.one a) js c keys limit offset) scope f h x =
        let here : Shapes = one_scope a scope in
        let final : Shapes = joined_shapes s g here js in
        let from : FromTree = tree.one a in
        let k = parts_faultless distinct outs from js c keys here final [] h in
        one_rows distinct outs a js c keys limit offset x (λ y. joined_same js here f.1 k.joins_part y)
        (λ y. kept_same c final (is_exempt s g final (conjuncts c) from) f.2 k.where_part (exempt_same final (conjuncts c) from) y)
    rows_same (tree.fold out inner a) scope f h x = fold_value out inner a scope x (λ k. rows_same inner scope f.0 k x) (λ k st. value_same inner scope f.0 k x out.value st (with_alias x a) x) h

    -- where it does not, the value of a fold that does not show it is
    value_same : (q : SelectTree) (scope : Shapes) → Formed q → select_faults s g scope false q ≡ [] → (x : Scope) (v : ExprTree)
        → shows_order v ≡ false → (m : NamedRow → Scope) (y : Scope) → value v (map m (rows_of q K x)) y ≡ value v (map m (rows_of q F x)) y
    value_same (tree.rows distinct outs (tree.table schema name a) js c keys limit offset) scope f h x v st m z =
        let here : Shapes = table_scope schema name a scope in
        let final : Shapes = joined_shapes s g here js in
        let from : FromTree = tree.table schema name a in
        let k = parts_faultless distinct outs from js c keys here final (scan_faults s g final (table_place s schema name) a (conjuncts c) keys (is_unordered false distinct limit offset)) h in
        table_value_same distinct outs schema name a js c keys limit offset scope final x
        (record {
          at = scan_at schema name a js scope f.0;
          joins = λ y. joined_same js here f.1 k.joins_part y;
          keeps = λ y. kept_same c final (is_exempt s g final (conjuncts c) from) f.2 k.where_part (exempt_same final (conjuncts c) from) y;
          fresh = f.0;
          run = (scan_parts s g final (table_place s schema name) a (conjuncts c) keys (is_unordered false distinct limit offset) k.from_part).1;
        }) v st m z
    value_same (tree.rows distinct outs (tree.sub q a) js c keys limit offset) scope f h x v st m z =
        let here : Shapes = sub_scope q a scope in
        let final : Shapes = joined_shapes s g here js in
        let from : FromTree = tree.sub q a in
        let k = parts_faultless distinct outs from js c keys here final (select_faults s g scope true q) h in
        ap (λ l. value v (map m l) z)
        (sub_rows distinct outs q a js c keys limit offset x (λ y. joined_same js here f.1 k.joins_part y)
        (λ y. kept_same c final (is_exempt s g final (conjuncts c) from) f.2 k.where_part (exempt_same final (conjuncts c) from) y)
        (rows_same q scope f.0 k.from_part x))
    value_same (tree.rows distinct outs (tree.one a) js c keys limit offset) scope f h x v st m z =
        let here : Shapes = one_scope a scope in
        let final : Shapes = joined_shapes s g here js in
        let from : FromTree = tree.one a in
        let k = parts_faultless distinct outs from js c keys here final [] h in
        ap (λ l. value v (map m l) z)
        (one_rows distinct outs a js c keys limit offset x (λ y. joined_same js here f.1 k.joins_part y)
        (λ y. kept_same c final (is_exempt s g final (conjuncts c) from) f.2 k.where_part (exempt_same final (conjuncts c) from) y))
    value_same (tree.fold out inner a) scope f h x v st m z =
        ap (λ l. value v (map m l) z) (fold_value out inner a scope x (λ k. rows_same inner scope f.0 k x) (λ k e. value_same inner scope f.0 k x out.value e (with_alias x a) x) h)

    -- and some row is there on both sides, or on neither
    has_same : (q : SelectTree) (scope : Shapes) → Formed q → select_faults s g scope false q ≡ [] → (x : Scope) → has_rows (rows_of q K x) ≡ has_rows (rows_of q F x)
    has_same (tree.rows distinct outs (tree.table schema name a) js c keys limit offset) scope f h x =
        let here : Shapes = table_scope schema name a scope in
        let final : Shapes = joined_shapes s g here js in
        let from : FromTree = tree.table schema name a in
        let k = parts_faultless distinct outs from js c keys here final (scan_faults s g final (table_place s schema name) a (conjuncts c) keys (is_unordered false distinct limit offset)) h in
        table_has_same distinct outs schema name a js c keys limit offset scope final x
        (record {
          at = scan_at schema name a js scope f.0;
          joins = λ y. joined_same js here f.1 k.joins_part y;
          keeps = λ y. kept_same c final (is_exempt s g final (conjuncts c) from) f.2 k.where_part (exempt_same final (conjuncts c) from) y;
          fresh = f.0;
          run = (scan_parts s g final (table_place s schema name) a (conjuncts c) keys (is_unordered false distinct limit offset) k.from_part).1;
        })
    has_same (tree.rows distinct outs (tree.sub q a) js c keys limit offset) scope f h x =
        let here : Shapes = sub_scope q a scope in
        let final : Shapes = joined_shapes s g here js in
        let from : FromTree = tree.sub q a in
        let k = parts_faultless distinct outs from js c keys here final (select_faults s g scope true q) h in
        ap has_rows
        (sub_rows distinct outs q a js c keys limit offset x (λ y. joined_same js here f.1 k.joins_part y)
        (λ y. kept_same c final (is_exempt s g final (conjuncts c) from) f.2 k.where_part (exempt_same final (conjuncts c) from) y)
        (rows_same q scope f.0 k.from_part x))
    has_same (tree.rows distinct outs (tree.one a) js c keys limit offset) scope f h x =
        let here : Shapes = one_scope a scope in
        let final : Shapes = joined_shapes s g here js in
        let from : FromTree = tree.one a in
        let k = parts_faultless distinct outs from js c keys here final [] h in
        ap has_rows
        (one_rows distinct outs a js c keys limit offset x (λ y. joined_same js here f.1 k.joins_part y)
        (λ y. kept_same c final (is_exempt s g final (conjuncts c) from) f.2 k.where_part (exempt_same final (conjuncts c) from) y))
    has_same (tree.fold out inner a) scope f h x = refl

    joined_same : (js : JoinTrees) (scope : Shapes) → FormedJoins js → joins_faults s g scope js ≡ [] → (x : Scope) → joined js K x ≡ joined js F x
    joined_same tree.no_join scope f h x = refl
    joined_same (tree.join q a js) scope f h x =
        let here : Shapes = (a, shows (cond (is_mask_join s g scope q) [] (outputs_of s g scope q))) ∷ scope in
        let first = left_none (cond (is_mask_join s g scope q) [] (select_faults s g scope true q)) (joins_faults s g here js) h in
        let rest = right_none (cond (is_mask_join s g scope q) [] (select_faults s g scope true q)) (joins_faults s g here js) h in
        let go : (b : Bool) → is_mask_join s g scope q ≡ b → cond b [] (select_faults s g scope true q) ≡ [] → rows_of q K x ≡ rows_of q F x =
        elim [ true ↦ λ e k. mask_same scope q (mask_form s g scope q e) x | false ↦ λ e k. rows_same q scope f.0 k x ] in
        let J : joined js K ≡ joined js F = funext (joined_same js here f.1 rest) in
        ap₂ (λ G l. flat_map G (map (with_alias x a) (or_null_row l))) J (go (is_mask_join s g scope q) refl first)

    kept_same : (c : FilterTree) (scope : Shapes) (ex : PredTree → Bool) → FormedFilter c → where_faults s g scope ex c ≡ []
        → ((p : PredTree) → ex p ≡ true → Same p) → (x : Scope) → kept c K x ≡ kept c F x
    kept_same tree.no_filter scope ex f h i x = refl
    kept_same (tree.filter p) scope ex f h i x = where_same (tree.filter p) (top_same p scope ex f h i) x

    top_same : (p : PredTree) (scope : Shapes) (ex : PredTree → Bool) → FormedPred p → conjunct_faults s g scope ex p ≡ [] → ((q : PredTree) → ex q ≡ true → Same q) → Each Same (opened p)
    top_same tree.always scope ex f h i = tt
    top_same tree.never scope ex f h i = ((λ x. refl), tt)
    top_same (tree.test v t es) scope ex f h i = ((λ x. refl), tt)
    top_same (tree.negation p) scope ex f h i = (unless_same (tree.negation p) (ex (tree.negation p)) (pred_faults s g scope p) (i (tree.negation p)) (λ n x. ap not3 (pred_same p scope f n x)) h, tt)
    top_same (tree.all_of ps) scope ex f h i = tops_same ps scope ex f h i
    top_same (tree.any_of ps) scope ex f h i = (unless_same (tree.any_of ps) (ex (tree.any_of ps)) (preds_faults s g scope ps) (i (tree.any_of ps)) (λ n x. any_same ps scope f n x) h, tt)
    top_same (tree.exists q) scope ex f h i = (
      unless_same (tree.exists q) (ex (tree.exists q)) (select_faults s g scope false q) (i (tree.exists q))
          (λ n x. ap truth_of (has_same q scope f n x)) h,
      tt,
    )

    tops_same : (ps : PredTrees) (scope : Shapes) (ex : PredTree → Bool) → FormedPreds ps → conjuncts_faults s g scope ex ps ≡ [] → ((q : PredTree) → ex q ≡ true → Same q) → Each Same (all_opened ps)
    tops_same tree.no_pred scope ex f h i = tt
    tops_same (tree.pred p ps) scope ex f h i =
        each_append Same (opened p) (all_opened ps)
        (top_same p scope ex f.0 (left_none (conjunct_faults s g scope ex p) (conjuncts_faults s g scope ex ps) h) i)
        (tops_same ps scope ex f.1 (right_none (conjunct_faults s g scope ex p) (conjuncts_faults s g scope ex ps) h) i)

    pred_same : (p : PredTree) (scope : Shapes) → FormedPred p → pred_faults s g scope p ≡ [] → (x : Scope) → truth_at p K x ≡ truth_at p F x
    pred_same tree.always scope f h x = refl
    pred_same tree.never scope f h x = refl
    pred_same (tree.test v t es) scope f h x = refl
    pred_same (tree.negation p) scope f h x = ap not3 (pred_same p scope f h x)
    pred_same (tree.all_of ps) scope f h x = every_same ps scope f h x
    pred_same (tree.any_of ps) scope f h x = any_same ps scope f h x
    pred_same (tree.exists q) scope f h x = ap truth_of (has_same q scope f h x)

    every_same : (ps : PredTrees) (scope : Shapes) → FormedPreds ps → preds_faults s g scope ps ≡ [] → (x : Scope) → all_true ps K x ≡ all_true ps F x
    every_same tree.no_pred scope f h x = refl
    every_same (tree.pred p ps) scope f h x =
        ap₂ and3 (pred_same p scope f.0 (left_none (pred_faults s g scope p) (preds_faults s g scope ps) h) x)
        (every_same ps scope f.1 (right_none (pred_faults s g scope p) (preds_faults s g scope ps) h) x)

    any_same : (ps : PredTrees) (scope : Shapes) → FormedPreds ps → preds_faults s g scope ps ≡ [] → (x : Scope) → any_true ps K x ≡ any_true ps F x
    any_same tree.no_pred scope f h x = refl
    any_same (tree.pred p ps) scope f h x =
        ap₂ or3 (pred_same p scope f.0 (left_none (pred_faults s g scope p) (preds_faults s g scope ps) h) x)
        (any_same ps scope f.1 (right_none (pred_faults s g scope p) (preds_faults s g scope ps) h) x)
