-- Two databases that agree: how what is in scope over the one is related to what is in scope over the other.
use Rattle.std.proofs.Common.{◌≡◌, ℕ, zero, suc, pos, ◌<◌, List, [], ◌∷◌, ◌++◌, map, length, Bool, true, false, cond, not, ◌&&◌, ◌==◌, Option, Some, None, bytes_eq, refl, sym, ap, ap₂, ◌∙◌, subst}
use Rattle.std.specs.Prelude.{slice_index_or}
use Rattle.std.specs.Ordering.{ordering_then}
use Rattle.std.proofs.lemmas.Bool.{and_parts}
use Rattle.hq_base.specs.Aggregates.{counted, aggregated}
use Rattle.hq_base.specs.Cells.{CellTree, null, int, json, json_of, key_cmp, same_cell}
use Rattle.hq_base.specs.Json as tree_of
use Rattle.hq_base.specs.Json.{member, elements_of}
use Rattle.hq_base.specs.Lists.{Zip, sort}
use Rattle.hq_base.proofs.Zips.{zip_images, zip_map, zip_length, zip_sort, zip_firsts}
use Rattle.hq_model.specs.Database.{Row}
use Rattle.hq_model.specs.Grants.{Grants, grant}
use Rattle.hq_model.specs.Permitted.{columns_cmp, permitted}
use Rattle.hq_model.specs.Schema.{Schema, table}
use Rattle.hq_model.specs.Seen.{row_cell}
use Rattle.hq_sql_tree.specs.Tree as tree
use Rattle.hq_sql_tree.specs.Tree.{ExprTree, PairTrees, AggTree, OrderTrees, OrderTree, OutTree, orders_of}
use Rattle.hq_sql_tree.specs.Meaning.{NamedRow, cell_named, Scope, with_alias, named_row, value, members, taken, orders_cmp, order_cmp, same_values, distinct_on, outputs}
use Rattle.hq_translation.proofs.Sound.{negated}
use Rattle.hq_confine_rules.specs.Members.{has_mask, is_permitted}
use Rattle.hq_confine_rules.specs.Origins.{Origin, made, of, Shape, scan, outputs as shows, Shapes, shape_at, column_of, column_place, behind, output_named, origin_in, origin_at, origin, output_origins, is_of}
use Rattle.hq_confine_rules.specs.Uses.{Fault, needs, is_plain, rule_of, is_key_sort, is_run, run_from, less_one, expr_faults, pairs_faults, agg_faults, orders_faults, exprs_faults, out_faults, outs_faults}
use Rattle.hq_confine_rules.proofs.Clean.{left_none, right_none}
use Rattle.hq_confine_rules.proofs.Runs.{of_is, suc_not}
use Rattle.hq_laws_confine.proofs.Meaning.Agreement.{row_at, Alike}
use Rattle.hq_laws_confine.proofs.Meaning.Formed.{Folded, AllFolded}
use Rattle.hq_laws_confine.proofs.Meaning.Lists.{zip_places}
use Rattle.hq_laws_confine.proofs.Meaning.Orders.{then_assoc}
use Rattle.hq_laws_confine.proofs.Meaning.Tables.{cell_in, cell_at_place}

abbrev pub Path : Type 0
Path = List (List ℕ)

-- where something that is asked for is there
pub needed : (b : Bool) (rule : ℕ) (alias : List ℕ) → needs b rule alias ≡ [] → b ≡ true
needed true rule alias h = refl
needed false rule alias h = cc

-- ---- sort keys

-- those behind the first ones
abbrev pub later_orders : ℕ → OrderTrees → OrderTrees
later_orders zero os = os
later_orders (suc n) tree.no_order = tree.no_order
later_orders (suc n) (tree.order e desc nulls_first os) = later_orders n os

pub order_same : (ks : List OrderTree) (x u : Scope) → order_cmp ks x u ≡ orders_cmp (orders_of ks) x u
order_same [] x u = refl
order_same (k ∷ ks) x u = ap (ordering_then (key_cmp k.desc k.nulls_first (value k.value [] x) (value k.value [] u))) (order_same ks x u)

-- sort keys that begin with a run compare the rows at its end first
pub run_cmp : (s : Schema) (scope : Shapes) (t : ℕ) (path : Path) (x u : Scope) (X U : Row)
    → ((y : ExprTree) (c : ℕ) → origin s scope y ≡ of t path c → (value y [] x ≡ row_cell X c) × (value y [] u ≡ row_cell U c))
    → (cs : List ℕ) (os : OrderTrees) → is_run s scope t path cs os ≡ true → orders_cmp os x u ≡ ordering_then (columns_cmp cs X U) (orders_cmp (later_orders (length cs) os) x u)
run_cmp s scope t path x u X U at [] os h = refl
run_cmp s scope t path x u X U at (c ∷ cs) tree.no_order h = cc
run_cmp s scope t path x u X U at (c ∷ cs) (tree.order y desc nulls_first os) h =
    let parts = and_parts (is_key_sort s scope t path c y desc nulls_first) (is_run s scope t path cs os) h in
    let key = and_parts (is_of t path c (origin s scope y) && not desc) (not nulls_first) parts.0 in
    let first = and_parts (is_of t path c (origin s scope y)) (not desc) key.0 in
    let up : desc ≡ false = negated desc first.1 in
    let last : nulls_first ≡ false = negated nulls_first key.1 in
    let cells = at y c (of_is t path c (origin s scope y) first.0) in
    let later = run_cmp s scope t path x u X U at cs os parts.1 in
    let here : key_cmp desc nulls_first (value y [] x) (value y [] u) ≡ key_cmp false false (row_cell X c) (row_cell U c) =
    ap₂ (λ a b. key_cmp a b (value y [] x) (value y [] u)) up last ∙ ap₂ (key_cmp false false) cells.0 cells.1 in
    ap₂ ordering_then here later ∙ then_assoc (key_cmp false false (row_cell X c) (row_cell U c)) (columns_cmp cs X U) (orders_cmp (later_orders (length cs) os) x u)

module _ (s : Schema) (g : Grants) (d e : List (List Row)) where
  -- ---- the relation

  -- a cell that is made is the same; any other is that of the permitted row at the place that P gives for its path, none for a NULL row
  abbrev pub CellRel : Origin → (Path → Option ℕ) → CellTree → CellTree → Type 0
  CellRel made P x y = x ≡ y
  CellRel (of t path c) P x y = (x ≡ row_cell (row_at s g d t (P path)) c) × (y ≡ row_cell (row_at s g e t (P path)) c)

  abbrev pub RowRel : Shape → (Path → Option ℕ) → NamedRow → NamedRow → Type 0
  RowRel (scan t) Q x y =
      (p : ℕ) × (Q [] ≡ Some p) × (p < length (permitted s g d t)) × (x ≡ named_row (table s t).columns (slice_index_or (permitted s g d t) p []))
      × (y ≡ named_row (table s t).columns (slice_index_or (permitted s g e t) p []))
  RowRel (shows os) Q x y = (n : List ℕ) → CellRel (output_named os n) Q (cell_named x n) (cell_named y n)

  abbrev pub RowOk : Shape → NamedRow → NamedRow → Type 0
  RowOk sh x y = (Q : Path → Option ℕ) × RowRel sh Q x y

  abbrev pub ScopeRel : Shapes → (Path → Option ℕ) → Scope → Scope → Type 0
  ScopeRel scope P x y = (a : List ℕ) → RowRel (shape_at scope a) (λ path. P (a ∷ path)) (x a) (y a)

  abbrev pub ScopeOk : Shapes → Scope → Scope → Type 0
  ScopeOk scope x y = (P : Path → Option ℕ) × ScopeRel scope P x y

  abbrev put_path : List ℕ → (Path → Option ℕ) → (Path → Option ℕ) → Path → Option ℕ
  put_path a Q P [] = None
  put_path a Q P (b ∷ rest) = cond (bytes_eq a b) (Q rest) (P (b ∷ rest))

  pub bound_ok : (scope : Shapes) (sh : Shape) (a : List ℕ) (x y : Scope) (p q : NamedRow) → ScopeOk scope x y → RowOk sh p q → ScopeOk ((a, sh) ∷ scope) (with_alias x a p) (with_alias y a q)
  bound_ok scope sh a x y p q h r = (
    put_path a r.0 h.0,
    λ b.
        let go : (c : Bool) → RowRel (cond c sh (shape_at scope b)) (λ path. cond c (r.0 path) (h.0 (b ∷ path))) (cond c p (x b)) (cond c q (y b)) = elim [ true ↦ r.1 | false ↦ h.1 b ] in
        go (bytes_eq a b),
  )

  cell_rel : (P : Path → Option ℕ) (sh : Shape) (a n : List ℕ) (x y : NamedRow) → RowRel sh (λ path. P (a ∷ path)) x y → CellRel (origin_in s sh a n) P (cell_named x n) (cell_named y n)
  cell_rel P (scan t) a n x y h =
      let go : (o : Option ℕ) → CellRel (column_of t a o) P (cell_in (slice_index_or (permitted s g d t) h.0 []) o) (cell_in (slice_index_or (permitted s g e t) h.0 []) o) =
      elim [ None ↦ refl | Some c ↦ (sym (ap (λ o. row_cell (row_at s g d t o) c) h.1), sym (ap (λ o. row_cell (row_at s g e t o) c) h.1)) ] in
      let in_d : cell_named x n ≡ cell_in (slice_index_or (permitted s g d t) h.0 []) (column_place s t n) =
      ap (λ r. cell_named r n) h.3 ∙ cell_at_place s t (slice_index_or (permitted s g d t) h.0 []) n in
      let in_e : cell_named y n ≡ cell_in (slice_index_or (permitted s g e t) h.0 []) (column_place s t n) =
      ap (λ r. cell_named r n) h.4 ∙ cell_at_place s t (slice_index_or (permitted s g e t) h.0 []) n in
      subst (λ z. CellRel (column_of t a (column_place s t n)) P z (cell_named y n)) (sym in_d)
      (subst (λ z. CellRel (column_of t a (column_place s t n)) P (cell_in (slice_index_or (permitted s g d t) h.0 []) (column_place s t n)) z) (sym in_e) (go (column_place s t n)))
  cell_rel P (shows os) a n x y h =
      let go : (o : Origin) → CellRel o (λ path. P (a ∷ path)) (cell_named x n) (cell_named y n)
      → CellRel (behind a o) P (cell_named x n) (cell_named y n) =
      elim [ made ↦ λ r. r | of t p k ↦ λ r. r ] in
      go (output_named os n) (h n)

  pub cell_ok : (scope : Shapes) (P : Path → Option ℕ) (x y : Scope) → ScopeRel scope P x y → (a n : List ℕ) → CellRel (origin_at s scope a n) P (cell_named (x a) n) (cell_named (y a) n)
  cell_ok scope P x y h a n = cell_rel P (shape_at scope a) a n (x a) (y a) (h a)

  pub null_ok : (os : List (List ℕ × Origin)) → RowOk (shows os) [] []
  null_ok os = (λ path. None, λ n. let go : (o : Origin) → CellRel o (λ path. None) null null = elim [ made ↦ refl | of t p k ↦ (refl, refl) ] in go (output_named os n))

  -- the permitted rows of a table
  pub scans_ok : (t : ℕ) → length (permitted s g d t) ≡ length (permitted s g e t)
      → Zip (RowOk (scan t)) (map (named_row (table s t).columns) (permitted s g d t))
      (map (named_row (table s t).columns) (permitted s g e t))
  scans_ok t same =
      zip_images
      (λ x y. (p : ℕ) × (p < length (permitted s g d t)) × (x ≡ slice_index_or (permitted s g d t) p [])
      × (y ≡ slice_index_or (permitted s g e t) p []))
      (RowOk (scan t)) (named_row (table s t).columns) (named_row (table s t).columns)
      (λ x y r. (λ path. Some r.0, (r.0, refl, r.1, ap (named_row (table s t).columns) r.2, ap (named_row (table s t).columns) r.3)))
      (permitted s g d t) (permitted s g e t) (zip_places [] (permitted s g d t) (permitted s g e t) same)

  -- a value whose origin is a column
  pub origin_value : (scope : Shapes) (P : Path → Option ℕ) (x y : Scope) → ScopeRel scope P x y → (v : ExprTree) (t : ℕ) (path : Path) (c : ℕ) → origin s scope v ≡ of t path c
      → (value v [] x ≡ row_cell (row_at s g d t (P path)) c) × (value v [] y ≡ row_cell (row_at s g e t (P path)) c)
  origin_value scope P x y h (tree.column a n form) t path c q = subst (λ o. CellRel o P (cell_named (x a) n) (cell_named (y a) n)) q (cell_ok scope P x y h a n)
  origin_value scope P x y h (tree.int n) t path c q = cc
  origin_value scope P x y h (tree.text n) t path c q = cc
  origin_value scope P x y h (tree.uuid n) t path c q = cc
  origin_value scope P x y h (tree.bool b) t path c q = cc
  origin_value scope P x y h (tree.object ps) t path c q = cc
  origin_value scope P x y h (tree.aggregate a) t path c q = cc

  module _ (o : Alike s g d e) where
    pub plain_cell : (P : Path → Option ℕ) (w : Origin) (x y : CellTree) → is_plain g w ≡ true → CellRel w P x y → x ≡ y
    plain_cell P made x y k h = h
    plain_cell P (of t p c) x y k h = let parts = and_parts (is_permitted (grant g t) c) (not (has_mask (grant g t) c)) k in h.0 ∙ o.cells t c parts.0 (negated _ parts.1) (P p) ∙ sym h.1

    -- ---- values without faults are equal

    module _ (scope : Shapes) where
      mutual
        pub plain_alike : (v : ExprTree) → expr_faults s g scope v ≡ [] → (x y : Scope) → ScopeOk scope x y → value v [] x ≡ value v [] y
        plain_alike (tree.column a n form) k x y h =
            plain_cell h.0 (origin_at s scope a n) (cell_named (x a) n) (cell_named (y a) n)
            (needed (is_plain g (origin_at s scope a n)) (rule_of s g (origin_at s scope a n)) a k) (cell_ok scope h.0 x y h.1 a n)
        plain_alike (tree.int n) k x y h = refl
        plain_alike (tree.text t) k x y h = refl
        plain_alike (tree.uuid t) k x y h = refl
        plain_alike (tree.bool b) k x y h = refl
        plain_alike (tree.object ps) k x y h = ap (λ m. json (tree_of.obj m)) (pairs_alike ps k x y h)
        plain_alike (tree.aggregate a) k x y h = refl

        pairs_alike : (ps : PairTrees) → pairs_faults s g scope ps ≡ [] → (x y : Scope) → ScopeOk scope x y → members ps [] x ≡ members ps [] y
        pairs_alike tree.no_pair k x y h = refl
        pairs_alike (tree.pair n v ps) k x y h =
            ap₂ (λ c m. member n (json_of c) m) (plain_alike v (left_none (expr_faults s g scope v) (pairs_faults s g scope ps) k) x y h)
            (pairs_alike ps (right_none (expr_faults s g scope v) (pairs_faults s g scope ps) k) x y h)

      pub values_alike : (es : List ExprTree) → exprs_faults s g scope es ≡ [] → (x y : Scope) → ScopeOk scope x y → map (λ v. value v [] x) es ≡ map (λ v. value v [] y) es
      values_alike [] k x y h = refl
      values_alike (v ∷ es) k x y h =
          ap₂ (λ c l. c ∷ l) (plain_alike v (left_none (expr_faults s g scope v) (exprs_faults s g scope es) k) x y h)
          (values_alike es (right_none (expr_faults s g scope v) (exprs_faults s g scope es) k) x y h)

      -- ---- outputs

      out_alike : (P : Path → Option ℕ) (x y : Scope) → ScopeRel scope P x y → (v : ExprTree) → out_faults s g scope v ≡ [] → CellRel (origin s scope v) P (value v [] x) (value v [] y)
      out_alike P x y h (tree.column a n form) k = cell_ok scope P x y h a n
      out_alike P x y h (tree.int n) k = refl
      out_alike P x y h (tree.text t) k = refl
      out_alike P x y h (tree.uuid t) k = refl
      out_alike P x y h (tree.bool b) k = refl
      out_alike P x y h (tree.object ps) k = plain_alike (tree.object ps) k x y (P, h)
      out_alike P x y h (tree.aggregate a) k = refl

      outs_rel : (P : Path → Option ℕ) (x y : Scope) → ScopeRel scope P x y → (outs : List OutTree) → outs_faults s g scope outs ≡ []
          → RowRel (shows (output_origins s scope outs)) P (outputs outs [] x) (outputs outs [] y)
      outs_rel P x y h [] k n = refl
      outs_rel P x y h (out ∷ outs) k n =
          let later = outs_rel P x y h outs (right_none (out_faults s g scope out.value) (outs_faults s g scope outs) k) n in
          let here = out_alike P x y h out.value (left_none (out_faults s g scope out.value) (outs_faults s g scope outs) k) in
          let go : (b : Bool)
          → CellRel (cond b (origin s scope out.value) (output_named (output_origins s scope outs) n)) P
          (cond b (value out.value [] x) (cell_named (outputs outs [] x) n))
          (cond b (value out.value [] y) (cell_named (outputs outs [] y) n)) =
          elim [ true ↦ here | false ↦ later ] in
          go (bytes_eq out.name n)

      pub outs_alike : (outs : List OutTree) → outs_faults s g scope outs ≡ [] → (x y : Scope) → ScopeOk scope x y → RowOk (shows (output_origins s scope outs)) (outputs outs [] x) (outputs outs [] y)
      outs_alike outs k x y h = (h.0, outs_rel h.0 x y h.1 outs k)

      -- ---- DISTINCT ON

      same_alike : (es : List ExprTree) → exprs_faults s g scope es ≡ [] → (x y u z : Scope) → ScopeOk scope x y → ScopeOk scope u z → same_values es x u ≡ same_values es y z
      same_alike [] k x y u z h r = refl
      same_alike (v ∷ es) k x y u z h r =
          let here = left_none (expr_faults s g scope v) (exprs_faults s g scope es) k in
          ap₂ (λ a b. a && b) (ap₂ same_cell (plain_alike v here x y h) (plain_alike v here u z r)) (same_alike es (right_none (expr_faults s g scope v) (exprs_faults s g scope es) k) x y u z h r)

      pub distinct_alike : (es : List ExprTree) → exprs_faults s g scope es ≡ [] → (xs ys : List Scope) → Zip (ScopeOk scope) xs ys → Zip (ScopeOk scope) (distinct_on es xs) (distinct_on es ys)
      distinct_alike [] k xs ys h = h
      distinct_alike (v ∷ es) k xs ys h = zip_firsts (ScopeOk scope) (same_values (v ∷ es)) (same_values (v ∷ es)) (λ x y u z p q. same_alike (v ∷ es) k x y u z p q) xs ys h

      -- ---- ORDER BY

      run_alike : (t : ℕ) (path : Path) (cs : List ℕ) → (table s t).key ≡ cs → (os : OrderTrees) → is_run s scope t path cs os ≡ true → (x y u z : Scope) → ScopeOk scope x y → ScopeOk scope u z
          → orders_cmp (later_orders (length cs) os) x u ≡ orders_cmp (later_orders (length cs) os) y z → orders_cmp os x u ≡ orders_cmp os y z
      run_alike t path cs key os h x y u z p q later =
          run_cmp s scope t path x u (row_at s g d t (p.0 path)) (row_at s g d t (q.0 path))
          (λ v c w. ((origin_value scope p.0 x y p.1 v t path c w).0, (origin_value scope q.0 u z q.1 v t path c w).0)) cs os h
          ∙ ap₂ ordering_then
          (subst
          (λ ks. columns_cmp ks (row_at s g d t (p.0 path)) (row_at s g d t (q.0 path))
          ≡ columns_cmp ks (row_at s g e t (p.0 path)) (row_at s g e t (q.0 path)))
          key (o.orders t (p.0 path) (q.0 path)))
          later
          ∙ sym
          (run_cmp s scope t path y z (row_at s g e t (p.0 path)) (row_at s g e t (q.0 path))
          (λ v c w. ((origin_value scope p.0 x y p.1 v t path c w).1, (origin_value scope q.0 u z q.1 v t path c w).1)) cs os h)

      pub orders_alike : (left : ℕ) (os : OrderTrees) → orders_faults s g scope left os ≡ [] → (x y u z : Scope) → ScopeOk scope x y
          → ScopeOk scope u z → orders_cmp (later_orders left os) x u ≡ orders_cmp (later_orders left os) y z
      orders_alike zero tree.no_order k x y u z h r = refl
      orders_alike (suc left) tree.no_order k x y u z h r = refl
      orders_alike (suc left) (tree.order v desc nulls_first os) k x y u z h r = orders_alike left os k x y u z h r
      orders_alike zero (tree.order v desc nulls_first os) k x y u z h r =
          let all : OrderTrees = tree.order v desc nulls_first os in
          let rest : List Fault = expr_faults s g scope v ++ orders_faults s g scope 0 os in
          let plain : rest ≡ [] → orders_cmp all x u ≡ orders_cmp all y z =
          λ f.
          let here = left_none (expr_faults s g scope v) (orders_faults s g scope 0 os) f in
          ap₂ ordering_then (ap₂ (key_cmp desc nulls_first) (plain_alike v here x y h) (plain_alike v here u z r))
          (orders_alike zero os (right_none (expr_faults s g scope v) (orders_faults s g scope 0 os) f) x y u z h r) in
          let begun : (t : ℕ) (path : Path) (cs : List ℕ) → (table s t).key ≡ cs → (b : Bool) → is_run s scope t path cs all ≡ b
          → cond (cond b (length cs) 0 == 0) rest (orders_faults s g scope (less_one (cond b (length cs) 0)) os) ≡ [] → orders_cmp all x u ≡ orders_cmp all y z =
          λ t path. elim [
            | [] ↦ λ key. elim [ true ↦ λ q f. plain f | false ↦ λ q f. plain f ]
            | c ∷ cs ↦ λ key. elim [
              | true ↦ λ q f.
                  let later : orders_faults s g scope (length cs) os ≡ [] = subst (λ b. cond b rest (orders_faults s g scope (length cs) os) ≡ []) (suc_not (length cs)) f in
                  run_alike t path (c ∷ cs) key all q x y u z h r (orders_alike (length cs) os later x y u z h r)
              | false ↦ λ q f. plain f
            ]
          ] in
          let go : (w : Origin) → cond (run_from s scope w all == 0) rest (orders_faults s g scope (less_one (run_from s scope w all)) os) ≡ [] → orders_cmp all x u ≡ orders_cmp all y z =
          elim [ made ↦ λ f. plain f | of t path c ↦ λ f. begun t path (table s t).key refl (is_run s scope t path (table s t).key all) refl f ] in
          go (origin s scope v) k

      -- ---- folds

      agg_alike : (a : AggTree) → agg_faults s g scope a ≡ [] → (xs ys : List Scope) → Zip (ScopeOk scope) xs ys → taken a xs ≡ taken a ys
      agg_alike tree.count_all k xs ys z = ap (λ n. int (pos n)) (zip_length (ScopeOk scope) xs ys z)
      agg_alike (tree.count v distinct) k xs ys z = ap (counted distinct) (zip_map (ScopeOk scope) (value v []) (value v []) (λ x y r. plain_alike v k x y r) xs ys z)
      agg_alike (tree.take a v) k xs ys z = ap (aggregated a) (zip_map (ScopeOk scope) (value v []) (value v []) (λ x y r. plain_alike v k x y r) xs ys z)
      agg_alike (tree.json_agg v os) k xs ys z =
          let here = left_none (expr_faults s g scope v) (orders_faults s g scope 0 os) k in
          ap (λ l. json (tree_of.arr (elements_of l)))
          (zip_map (ScopeOk scope) (λ x. json_of (value v [] x)) (λ x. json_of (value v [] x)) (λ x y r. ap json_of (plain_alike v here x y r)) (sort (orders_cmp os) xs) (sort (orders_cmp os) ys)
          (zip_sort (ScopeOk scope) (orders_cmp os) (orders_cmp os) (λ x y u w p q. orders_alike zero os (right_none (expr_faults s g scope v) (orders_faults s g scope 0 os) k) x y u w p q) xs ys z))

      mutual
        pub fold_alike : (v : ExprTree) → Folded v → expr_faults s g scope v ≡ [] → (x y : Scope) (xs ys : List Scope) → Zip (ScopeOk scope) xs ys → value v xs x ≡ value v ys y
        fold_alike (tree.column a n form) f k x y xs ys z = absurd f
        fold_alike (tree.int n) f k x y xs ys z = refl
        fold_alike (tree.text t) f k x y xs ys z = refl
        fold_alike (tree.uuid t) f k x y xs ys z = refl
        fold_alike (tree.bool b) f k x y xs ys z = refl
        fold_alike (tree.object ps) f k x y xs ys z = ap (λ m. json (tree_of.obj m)) (folds_alike ps f k x y xs ys z)
        fold_alike (tree.aggregate a) f k x y xs ys z = agg_alike a k xs ys z

        folds_alike : (ps : PairTrees) → AllFolded ps → pairs_faults s g scope ps ≡ [] → (x y : Scope) (xs ys : List Scope) → Zip (ScopeOk scope) xs ys → members ps xs x ≡ members ps ys y
        folds_alike tree.no_pair f k x y xs ys z = refl
        folds_alike (tree.pair n v ps) f k x y xs ys z =
            ap₂ (λ c m. member n (json_of c) m)
            (fold_alike v f.0 (left_none (expr_faults s g scope v) (pairs_faults s g scope ps) k) x y xs ys z)
            (folds_alike ps f.1 (right_none (expr_faults s g scope v) (pairs_faults s g scope ps) k) x y xs ys z)
