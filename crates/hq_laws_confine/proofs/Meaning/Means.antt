-- A statement without faults gives alike over two databases in key order that agree.
use Rattle.std.proofs.Common.{◌≡◌, ℕ, ◌+◌, ◌<◌, ◌≤◌, ◌^◌, List, [], ◌∷◌, ◌++◌, map, filter, flat_map, length, Bool, true, false, cond, not, ◌&&◌, ◌||◌, ◌==◌, Option, Some, None, bytes_eq, codes, refl, sym, ap, ap₂, ◌∙◌, subst, eqb-true}
use Rattle.std.specs.Prelude.{slice_index_or, is_some}
use Rattle.std.specs.List.{list_all, list_any}
use Rattle.std.proofs.lemmas.Bool.{and_parts}
use Rattle.std.proofs.lemmas.List.Folds.{flat_map-map}
use Rattle.hq_base.specs.Cells.{CellTree, null, bool}
use Rattle.hq_base.specs.Lists.{Each, Zip, sort}
use Rattle.hq_base.proofs.Lists.{each_weaken, each_passes}
use Rattle.hq_base.proofs.Sorts.{each_sort}
use Rattle.hq_base.proofs.Zips.{zip_filter, zip_sort, zip_images}
use Rattle.hq_model.specs.Database.{Row}
use Rattle.hq_model.specs.Grants.{Grants, grant}
use Rattle.hq_model.specs.Logic.{is_true, truth_of, not3, and3, or3}
use Rattle.hq_model.specs.Permitted.{columns_cmp, by_key, permitted, mask_of, shown}
use Rattle.hq_model.specs.Schema.{Schema, table}
use Rattle.hq_model.specs.Seen.{all_of, row_cell, table_rows, linked_by}
use Rattle.hq_model.specs.Tests.{test_truth}
use Rattle.hq_model.specs.Truth.{keeps}
use Rattle.hq_model.specs.declared.meta.Rel.{Rel}
use Rattle.hq_model.specs.declared.table.Table.{Table}
use Rattle.hq_model.specs.declared.test.Test.{Test}
use Rattle.hq_sql_tree.specs.Tree as tree
use Rattle.hq_sql_tree.specs.Tree.{ExprTree, OrderTree, OutTree, SelectTree, JoinTrees, FilterTree, PredTree, PredTrees, orders_of}
use Rattle.hq_sql_tree.specs.Meaning.{NamedRow, cell_named, Scope, with_alias, World, named_row, rows_named, value, order_cmp, distinct_on, limited, offset_by, outputs, or_null_row, has_rows, rows_of, joined, kept, truth_at, all_true, any_true}
use Rattle.hq_translation.specs.Masks.{filter_numbers}
use Rattle.hq_translation.specs.Predicates.{own_numbers}
use Rattle.hq_translation.specs.GrantedTables.{granted_of}
use Rattle.hq_translation.proofs.Names.{same_text, Narrow}
use Rattle.hq_confine_rules.specs.Conjuncts.{opened, all_opened, conjuncts}
use Rattle.hq_confine_rules.specs.Faults.{outputs_of, joined_shapes, is_exempt, is_unordered, scan_faults, select_faults, joins_faults, where_faults, conjunct_faults, conjuncts_faults, pred_faults, preds_faults}
use Rattle.hq_confine_rules.specs.Members.{filter_conjuncts, is_one_of, stand_among, Equation, equation, is_equation_of, is_for_pair, is_whole_link, links_shape, is_linking, is_mask_join}
use Rattle.hq_confine_rules.specs.Origins.{Origin, Shape, scan, outputs as shows, Shapes, shape_at, output_origins, table_place}
use Rattle.hq_confine_rules.specs.Uses.{Fault, needs, has_run, shows_order, expr_faults, exprs_faults, outs_faults, orders_faults}
use Rattle.hq_confine_rules.proofs.Alike.{is_so, kept_conjuncts}
use Rattle.hq_confine_rules.proofs.Clean.{left_none, right_none}
use Rattle.hq_laws_confine.proofs.Meaning.Agreement.{Alike, each_permitted}
use Rattle.hq_laws_confine.proofs.Meaning.Formed.{Fresh, Formed, FormedJoins, FormedFilter, FormedPred, FormedPreds}
use Rattle.hq_laws_confine.proofs.Meaning.Links.{linked_so, so_linked, row_names}
use Rattle.hq_laws_confine.proofs.Meaning.Lists.{bool_same, not_true, each_append, each_at, all_each, each_all_true, found_each, each_two, each_map, each_flat_map, only_some, zip_flat, zip_limited, zip_offset}
use Rattle.hq_laws_confine.proofs.Meaning.Masks.{MaskForm, mask_form}
use Rattle.hq_laws_confine.proofs.Meaning.Related.{needed, RowRel, RowOk, ScopeOk, bound_ok, null_ok, scans_ok, plain_alike, values_alike, outs_alike, distinct_alike, order_same, orders_alike, fold_alike}
use Rattle.hq_laws_confine.proofs.Meaning.Tables.{cell_in, cell_at_place, key_world}
use Rattle.hq_laws_confine.proofs.Meaning.Written.{Base, kept_one, all_keep, exactly}

-- ---- joins keep the alias of their scan

pub joins_keep : (a : List ℕ) (js : JoinTrees) → Fresh a js → (w : World) (x : Scope) → Each (λ y. y a ≡ x a) (joined js w x)
joins_keep a tree.no_join k w x = (refl, tt)
joins_keep a (tree.join q b js) k w x =
    each_flat_map (λ z. z a ≡ x a) (λ y. y a ≡ x a) (joined js w) (λ z h. each_weaken (λ y. y a ≡ z a) (λ y. y a ≡ x a) (λ y e. e ∙ h) (joined js w z) (joins_keep a js k.1 w z))
    (map (with_alias x b) (or_null_row (rows_of q w x))) (each_map (λ z. z a ≡ x a) (with_alias x b) (λ r. ap (λ c. cond c r (x a)) k.0) (or_null_row (rows_of q w x)))

pub fresh_shape : (s : Schema) (g : Grants) (a : List ℕ) (js : JoinTrees) → Fresh a js → (scope : Shapes) → shape_at (joined_shapes s g scope js) a ≡ shape_at scope a
fresh_shape s g a tree.no_join k scope = refl
fresh_shape s g a (tree.join q b js) k scope =
    let sh : Shape = shows (cond (is_mask_join s g scope q) [] (outputs_of s g scope q)) in
    fresh_shape s g a js k.1 ((b, sh) ∷ scope) ∙ ap (λ c. cond c sh (shape_at scope a)) k.0

-- ---- the rows of a scan that count

module _ (s : Schema) (g : Grants) (tables : List Table) (d : List (List Row)) (base : Base s tables d) (filters : (t : ℕ) → 1 + filter_numbers s (granted_of g) t ≤ 2 ^ 64) where
  pub narrow_rows : (t : ℕ) → Each (Narrow s t) (by_key s d t)
  narrow_rows t = each_sort (columns_cmp (table s t).key) (Narrow s t) (table_rows d t) (base.sound.narrow t)

  pub narrow_at : (t n : ℕ) → n < length (permitted s g d t) → Narrow s t (slice_index_or (permitted s g d t) n [])
  narrow_at t n lt = each_at (Narrow s t) (permitted s g d t) n [] lt (each_permitted s g (Narrow s t) d t (narrow_rows t))

  pub kept_at : (t n : ℕ) → n < length (permitted s g d t) → keeps (grant g t).filter s (all_of s d) t (slice_index_or (permitted s g d t) n []) ≡ true
  kept_at t n lt = each_at (λ row. keeps (grant g t).filter s (all_of s d) t row ≡ true) (permitted s g d t) n [] lt (each_passes (keeps (grant g t).filter s (all_of s d) t) (by_key s d t))

  -- of the rows of a scan those count that are permitted
  pub scan_permitted : (schema name alias : List ℕ) (c : FilterTree) (js : JoinTrees)
      → stand_among (conjuncts c) (filter_conjuncts s g (table_place s schema name)) alias ≡ true → Fresh alias js → (x : Scope)
      → filter (kept c (key_world s tables d)) (flat_map (joined js (key_world s tables d)) (map (with_alias x alias) (rows_named tables ((key_world s tables d).database) schema name)))
      ≡ filter (kept c (key_world s tables d))
      (flat_map (joined js (key_world s tables d))
      (map (with_alias x alias)
      (map (named_row (table s (table_place s schema name)).columns) (permitted s g d (table_place s schema name)))))
  scan_permitted schema name alias c js stand fresh x =
      let t : ℕ = table_place s schema name in
      let w : World = key_world s tables d in
      let N : Row → NamedRow = named_row (table s t).columns in
      let J : Row → List Scope = λ row. joined js w (with_alias x alias (N row)) in
      let ok : Row → Bool = keeps (grant g t).filter s (all_of s d) t in
      let flat : (rows : List Row) → filter (kept c w) (flat_map (joined js w) (map (with_alias x alias) (map N rows))) ≡ filter (kept c w) (flat_map J rows) =
      λ rows. ap (filter (kept c w)) (flat_map-map (joined js w) (with_alias x alias) (map N rows) ∙ flat_map-map (λ r. joined js w (with_alias x alias r)) N rows) in
      let drops : (row : Row) → Narrow s t row → ok row ≡ false → Each (λ y. kept c w y ≡ false) (J row) =
      λ row narrow no.
      each_weaken (λ y. y alias ≡ with_alias x alias (N row) alias) (λ y. kept c w y ≡ false)
      (λ y at. not_true (kept c w y) (λ h. let here : y alias ≡ N row = at ∙ ap (λ b. cond b (N row) (x alias)) (same_text alias) in
      let yes : ok row ≡ true = all_keep s tables d base (grant g t).filter t (filters t) alias row narrow y here (conjuncts c) stand (sym (kept_conjuncts c w y) ∙ h) in
      cc)) (J row) (joins_keep alias js fresh w (with_alias x alias (N row))) in
      ap (λ l. filter (kept c w) (flat_map (joined js w) (map (with_alias x alias) l))) (base.in_order schema name)
      ∙ flat (by_key s d t) ∙ only_some J (kept c w) ok (by_key s d t) (each_weaken (Narrow s t) _ drops (by_key s d t) (narrow_rows t))
      ∙ sym (flat (permitted s g d t))

-- ---- the parts of rows without faults

pub six : (a b c d e f : List Fault) → a ++ (b ++ (c ++ (d ++ (e ++ f)))) ≡ [] → (a ≡ []) × (b ≡ []) × (c ≡ []) × (d ≡ []) × (e ≡ []) × (f ≡ [])
six [] [] [] [] [] f h = (refl, refl, refl, refl, refl, h)
six [] [] [] [] (x ∷ e) f h = cc
six [] [] [] (x ∷ d) e f h = cc
six [] [] (x ∷ c) d e f h = cc
six [] (x ∷ b) c d e f h = cc
six (x ∷ a) b c d e f h = cc

-- of a scan
pub scan_parts : (s : Schema) (g : Grants) (scope : Shapes) (t : ℕ) (alias : List ℕ) (all : List PredTree) (keys : List OrderTree)
    (unordered : Bool)
    → scan_faults s g scope t alias all keys unordered ≡ []
    → (stand_among all (filter_conjuncts s g t) alias ≡ true) × ((has_run s scope t alias (orders_of keys) || unordered) ≡ true)
scan_parts s g scope t alias all keys unordered h =
    let one : List Fault = needs (is_some (slice_index_or g t None)) 1 alias in
    let two : List Fault = needs (stand_among all (filter_conjuncts s g t) alias) 2 alias in
    let last : List Fault = needs (has_run s scope t alias (orders_of keys) || unordered) 6 alias in
    let front = left_none (one ++ two) last h in (
      needed (stand_among all (filter_conjuncts s g t) alias) 2 alias (right_none one two front),
      needed (has_run s scope t alias (orders_of keys) || unordered) 6 alias (right_none (one ++ two) last h),
    )

zip_has : (R : NamedRow → NamedRow → Type 0) (xs ys : List NamedRow) → Zip R xs ys → has_rows xs ≡ has_rows ys
zip_has R [] [] h = refl
zip_has R [] (y ∷ ys) h = absurd h
zip_has R (x ∷ xs) [] h = absurd h
zip_has R (x ∷ xs) (y ∷ ys) h = refl

null_cond : (b : Bool) → cond b null null ≡ null
null_cond true = refl
null_cond false = refl

module _ (s : Schema) (g : Grants) (tables : List Table) (d e : List (List Row)) (bd : Base s tables d) (be : Base s tables e) (filters : (t : ℕ) → 1 + filter_numbers s (granted_of g) t ≤ 2 ^ 64)
    (masks : (t c : ℕ) → 1 + own_numbers (mask_of (grant g t).masks c) s t ≤ 2 ^ 64) (o : Alike s g d e) where
  abbrev V : World
  V = key_world s tables d

  abbrev W : World
  W = key_world s tables e

  abbrev Ok : Shapes → Scope → Scope → Type 0
  Ok = ScopeOk s g d e

  abbrev Row2 : Shape → NamedRow → NamedRow → Type 0
  Row2 = RowOk s g d e

  -- ---- conjuncts

  -- a conjunct is true over the one where it is over the other, where all of them are
  abbrev Carries : List PredTree → Scope → Scope → PredTree → Type 0
  Carries all x y p = (list_all (is_so V x) all ≡ true → is_so V x p ≡ true → is_so W y p ≡ true) × (list_all (is_so W y) all ≡ true → is_so W y p ≡ true → is_so V x p ≡ true)

  carries_same : (all : List PredTree) (x y : Scope) (p : PredTree) → truth_at p V x ≡ truth_at p W y → Carries all x y p
  carries_same all x y p h = ((λ g k. ap is_true (sym h) ∙ k), (λ g k. ap is_true h ∙ k))

  where_alike : (c : FilterTree) (x y : Scope) → Each (Carries (conjuncts c) x y) (conjuncts c) → kept c V x ≡ kept c W y
  where_alike c x y h =
      let all : List PredTree = conjuncts c in
      kept_conjuncts c V x
      ∙ bool_same (list_all (is_so V x) all) (list_all (is_so W y) all)
      (λ k. each_all_true (is_so W y) all (each_two (Carries all x y) (λ p. is_so V x p ≡ true) (λ p. is_so W y p ≡ true) (λ p c z. c.0 k z) all h (all_each (is_so V x) all k)))
      (λ k. each_all_true (is_so V x) all (each_two (Carries all x y) (λ p. is_so W y p ≡ true) (λ p. is_so V x p ≡ true) (λ p c z. c.1 k z) all h (all_each (is_so W y) all k)))
      ∙ sym (kept_conjuncts c W y)

  scan_rel : (scope : Shapes) (x y : Scope) → (h : Ok scope x y) → (a : List ℕ) (t : ℕ) → shape_at scope a ≡ scan t → RowRel s g d e (scan t) (λ path. h.0 (a ∷ path)) (x a) (y a)
  scan_rel scope x y h a t at = subst (λ sh. RowRel s g d e sh (λ path. h.0 (a ∷ path)) (x a) (y a)) at (h.1 a)

  other_size : (t n : ℕ) → n < length (permitted s g d t) → n < length (permitted s g e t)
  other_size t n lt = subst (λ k. n < k) (o.sizes t) lt

  carries_filter : (all : List PredTree) (scope : Shapes) (x y : Scope) → Ok scope x y → (a : List ℕ) (t : ℕ) → shape_at scope a ≡ scan t
      → (p : PredTree) → is_one_of (filter_conjuncts s g t) a p ≡ true → Carries all x y p
  carries_filter all scope x y h a t at p k =
      let row = scan_rel scope x y h a t at in
      let lt = other_size t row.0 row.2 in
      let in_d : is_so V x p ≡ true =
      kept_one s tables d bd (grant g t).filter t (filters t) a (slice_index_or (permitted s g d t) row.0 [])
      (narrow_at s g tables d bd filters t row.0 row.2) x row.3 (kept_at s g tables d bd filters t row.0 row.2) p k in
      let in_e : is_so W y p ≡ true =
      kept_one s tables e be (grant g t).filter t (filters t) a (slice_index_or (permitted s g e t) row.0 [])
      (narrow_at s g tables e be filters t row.0 lt) y row.4 (kept_at s g tables e be filters t row.0 lt) p k in
      ((λ f z. in_e), (λ f z. in_d))

  abbrev Linked : (u : ℕ) → Rel → Type 0
  Linked u r = (p q : ℕ) → p < length (permitted s g d u) → q < length (permitted s g d r.remote)
      → linked_by r.pairs (slice_index_or (permitted s g d u) p []) (slice_index_or (permitted s g d r.remote) q [])
      ≡ linked_by r.pairs (slice_index_or (permitted s g e u) p []) (slice_index_or (permitted s g e r.remote) q [])

  carries_rel : (all : List PredTree) (scope : Shapes) (x y : Scope) → Ok scope x y → (a : List ℕ) (t : ℕ) → shape_at scope a ≡ scan t
      → (p : PredTree) (q : Equation) → equation p ≡ Some q → (u : ℕ) → shape_at scope q.own_alias ≡ scan u
      → (r : Rel) → is_whole_link s all t u a q.own_alias q r ≡ true → Linked u r → Carries all x y p
  carries_rel all scope x y h a t at p q eq u own_at r whole linked =
      let b : List ℕ = q.own_alias in
      let outer = and_parts ((r.remote == t) && list_any (λ i. is_equation_of s t u a b i q) r.pairs) (list_all (λ i. list_any (λ c. is_for_pair s t u a b i (equation c)) all) r.pairs) whole in
      let inner = and_parts (r.remote == t) (list_any (λ i. is_equation_of s t u a b i q) r.pairs) outer.0 in
      let same : r.remote ≡ t = eqb-true r.remote t inner.0 in
      let far = scan_rel scope x y h a t at in
      let own = scan_rel scope x y h b u own_at in
      let fd : Row = slice_index_or (permitted s g d t) far.0 [] in
      let fe : Row = slice_index_or (permitted s g e t) far.0 [] in
      let od : Row = slice_index_or (permitted s g d u) own.0 [] in
      let oe : Row = slice_index_or (permitted s g e u) own.0 [] in
      let alike : linked_by r.pairs od fd ≡ linked_by r.pairs oe fe =
      subst
      (λ n. far.0 < length (permitted s g d n)
      → linked_by r.pairs od (slice_index_or (permitted s g d n) far.0 [])
      ≡ linked_by r.pairs oe (slice_index_or (permitted s g e n) far.0 []))
      same (λ lt. linked own.0 far.0 own.2 lt) far.2 in
      let far_d = row_names s t fd (bd.sound.differ t) (narrow_at s g tables d bd filters t far.0 far.2) in
      let own_d = row_names s u od (bd.sound.differ u) (narrow_at s g tables d bd filters u own.0 own.2) in
      let far_e = row_names s t fe (be.sound.differ t) (narrow_at s g tables e be filters t far.0 (other_size t far.0 far.2)) in
      let own_e = row_names s u oe (be.sound.differ u) (narrow_at s g tables e be filters u own.0 (other_size u own.0 own.2)) in (
        (λ k z. so_linked s W t u a b fe oe y far.4 own.4 far_e own_e r.pairs p q eq inner.1 (sym alike ∙ linked_so s V t u a b fd od x far.3 own.3 far_d own_d r.pairs all outer.1 k)),
        (λ k z. so_linked s V t u a b fd od x far.3 own.3 far_d own_d r.pairs p q eq inner.1 (alike ∙ linked_so s W t u a b fe oe y far.4 own.4 far_e own_e r.pairs all outer.1 k)),
      )

  carries_link : (all : List PredTree) (scope : Shapes) (x y : Scope) → Ok scope x y → (a : List ℕ) (t : ℕ) → shape_at scope a ≡ scan t
      → (p : PredTree) → is_linking s scope all t a (equation p) ≡ true → Carries all x y p
  carries_link all scope x y h a t at p k =
      let shapes : (q : Equation) → equation p ≡ Some q → (sh : Shape) → shape_at scope q.own_alias ≡ sh → links_shape s all t a q sh ≡ true → Carries all x y p =
      λ q eq. elim [
        | scan u ↦ λ own_at f.
            let found =
            found_each (is_whole_link s all t u a q.own_alias q) (Linked u)
            (λ r. (is_whole_link s all t u a q.own_alias q r ≡ true) × Linked u r) (table s u).rels f (o.links u) (λ r i z. (i, z)) in
            carries_rel all scope x y h a t at p q eq u own_at found.0 found.1.0 found.1.1
        | shows os ↦ λ own_at f. cc
      ] in
      let go : (q : Option Equation) → equation p ≡ q → is_linking s scope all t a q ≡ true → Carries all x y p =
      elim [
        | None ↦ λ eq f. cc
        | Some q
            ↦ λ eq f. shapes q eq (shape_at scope q.own_alias) refl
            (and_parts (not (bytes_eq a q.own_alias)) (links_shape s all t a q (shape_at scope q.own_alias)) f).1
      ]
      in
      go (equation p) refl k

  -- what is exempt carries
  abbrev Exempts : List PredTree → Scope → Scope → (PredTree → Bool) → Type 0
  Exempts all x y ex = (p : PredTree) → ex p ≡ true → Carries all x y p

  exempts_table : (all : List PredTree) (scope : Shapes) (x y : Scope) → Ok scope x y → (schema name a : List ℕ)
      → shape_at scope a ≡ scan (table_place s schema name) → Exempts all x y (is_exempt s g scope all (tree.table schema name a))
  exempts_table all scope x y h schema name a at p k =
      let t : ℕ = table_place s schema name in
      let go : (b : Bool) → is_one_of (filter_conjuncts s g t) a p ≡ b → (b || is_linking s scope all t a (equation p)) ≡ true → Carries all x y p =
      elim [ true ↦ λ e f. carries_filter all scope x y h a t at p e | false ↦ λ e f. carries_link all scope x y h a t at p f ] in
      go (is_one_of (filter_conjuncts s g t) a p) refl k

  -- ---- parts of rows

  -- sort, groups, limits and outputs of related rows
  finish : (scope : Shapes) (outs : List OutTree) (distinct : List ExprTree) (keys : List OrderTree) (limit offset : Option ℕ)
      → exprs_faults s g scope distinct ≡ [] → orders_faults s g scope 0 (orders_of keys) ≡ [] → outs_faults s g scope outs ≡ []
      → (xs ys : List Scope) → Zip (Ok scope) xs ys
      → Zip (Row2 (shows (output_origins s scope outs)))
      (map (outputs outs []) (limited limit (offset_by offset (distinct_on distinct (sort (order_cmp keys) xs)))))
      (map (outputs outs []) (limited limit (offset_by offset (distinct_on distinct (sort (order_cmp keys) ys)))))
  finish scope outs distinct keys limit offset kd ko ku xs ys z =
      let sorted =
      zip_sort (Ok scope) (order_cmp keys) (order_cmp keys)
      (λ x y u w p q. order_same keys x u ∙ orders_alike s g d e o scope 0 (orders_of keys) ko x y u w p q ∙ sym (order_same keys y w))
      xs ys z in
      let groups = distinct_alike s g d e o scope distinct kd (sort (order_cmp keys) xs) (sort (order_cmp keys) ys) sorted in
      zip_images (Ok scope) (Row2 (shows (output_origins s scope outs))) (outputs outs []) (outputs outs []) (λ x y r. outs_alike s g d e o scope outs ku x y r) _ _
      (zip_limited (Ok scope) limit _ _ (zip_offset (Ok scope) offset _ _ groups))

  scan_start : (scope : Shapes) (schema name a : List ℕ) (c : FilterTree) (js : JoinTrees) → stand_among (conjuncts c) (filter_conjuncts s g (table_place s schema name)) a ≡ true → Fresh a js
      → ((x y : Scope) → Ok ((a, scan (table_place s schema name)) ∷ scope) x y → Zip (Ok (joined_shapes s g ((a, scan (table_place s schema name)) ∷ scope) js)) (joined js V x) (joined js W y))
      → ((x y : Scope) → Ok (joined_shapes s g ((a, scan (table_place s schema name)) ∷ scope) js) x y → kept c V x ≡ kept c W y)
      → (x y : Scope) → Ok scope x y
      → Zip (Ok (joined_shapes s g ((a, scan (table_place s schema name)) ∷ scope) js))
      (filter (kept c V) (flat_map (joined js V) (map (with_alias x a) (rows_named tables V.database schema name))))
      (filter (kept c W) (flat_map (joined js W) (map (with_alias y a) (rows_named tables W.database schema name))))
  scan_start scope schema name a c js stand fresh J K x y h =
      let t : ℕ = table_place s schema name in
      let here : Shapes = (a, scan t) ∷ scope in
      let final : Shapes = joined_shapes s g here js in
      let N : Row → NamedRow = named_row (table s t).columns in
      let pd : List NamedRow = map N (permitted s g d t) in
      let pe : List NamedRow = map N (permitted s g e t) in
      let starts = zip_images (Row2 (scan t)) (Ok here) (with_alias x a) (with_alias y a) (λ p q r. bound_ok s g d e scope (scan t) a x y p q h r) pd pe (scans_ok s g d e t (o.sizes t)) in
      let all = zip_flat (Ok here) (Ok final) (joined js V) (joined js W) J (map (with_alias x a) pd) (map (with_alias y a) pe) starts in
      let some = zip_filter (Ok final) (kept c V) (kept c W) K (flat_map (joined js V) (map (with_alias x a) pd)) (flat_map (joined js W) (map (with_alias y a) pe)) all in
      let from_d = scan_permitted s g tables d bd filters schema name a c js stand fresh x in
      let from_e = scan_permitted s g tables e be filters schema name a c js stand fresh y in
      subst (λ l. Zip (Ok final) l (filter (kept c W) (flat_map (joined js W) (map (with_alias y a) (rows_named tables W.database schema name))))) (sym from_d)
      (subst (λ l. Zip (Ok final) (filter (kept c V) (flat_map (joined js V) (map (with_alias x a) pd))) l) (sym from_e) some)

  null_rows : (os : List (List ℕ × Origin)) (xs ys : List NamedRow) → Zip (Row2 (shows os)) xs ys → Zip (Row2 (shows os)) (or_null_row xs) (or_null_row ys)
  null_rows os [] [] h = (null_ok s g d e os, tt)
  null_rows os [] (y ∷ ys) h = absurd h
  null_rows os (x ∷ xs) [] h = absurd h
  null_rows os (x ∷ xs) (y ∷ ys) h = h

  -- ---- the join of a mask shows the shown cell

  mask_zip : (n : List ℕ) (u v : CellTree) (x y : Scope) (outs : Scope → NamedRow) → outs x ≡ (n, u) ∷ [] → outs y ≡ (n, v) ∷ [] → (a b : Bool) → cond a u null ≡ cond b v null
      → Zip (Row2 (shows [])) (or_null_row (map outs (sort (order_cmp []) (cond a (x ∷ []) [])))) (or_null_row (map outs (sort (order_cmp []) (cond b (y ∷ []) []))))
  mask_zip n u v x y outs p q true true h = ((λ l. None, λ m. ap (λ r. cell_named r m) p ∙ ap (λ z. cond (bytes_eq n m) z null) h ∙ sym (ap (λ r. cell_named r m) q)), tt)
  mask_zip n u v x y outs p q true false h = ((λ l. None, λ m. ap (λ r. cell_named r m) p ∙ ap (λ z. cond (bytes_eq n m) z null) h ∙ null_cond (bytes_eq n m)), tt)
  mask_zip n u v x y outs p q false true h = ((λ l. None, λ m. sym (null_cond (bytes_eq n m)) ∙ ap (λ z. cond (bytes_eq n m) z null) h ∙ sym (ap (λ r. cell_named r m) q)), tt)
  mask_zip n u v x y outs p q false false h = ((λ l. None, λ m. refl), tt)

  mask_alike : (scope : Shapes) (q : SelectTree) → MaskForm s g scope q → (x y : Scope) → Ok scope x y → Zip (Row2 (shows [])) (or_null_row (rows_of q V x)) (or_null_row (rows_of q W y))
  mask_alike scope q m x y h =
      let t : ℕ = m.t in
      let row = scan_rel scope x y h m.alias t m.at in
      let unit : NamedRow = (codes "u", bool true) ∷ [] in
      let out : List OutTree = record { value = tree.column m.alias m.name m.form; name = m.out } ∷ [] in
      let stays : (z : Scope) → with_alias z m.one unit m.alias ≡ z m.alias = λ z. ap (λ b. cond b unit (z m.alias)) m.other in
      let shows_d : cond (kept m.condition V (with_alias x m.one unit)) (cell_named (with_alias x m.one unit m.alias) m.name) null ≡ shown s g d t (slice_index_or (permitted s g d t) row.0 []) m.c =
      (let r : Row = slice_index_or (permitted s g d t) row.0 [] in
      let at : with_alias x m.one unit m.alias ≡ named_row (table s t).columns r = stays x ∙ row.3 in
      let cell : cell_named (with_alias x m.one unit m.alias) m.name ≡ row_cell r m.c = ap (λ z. cell_named z m.name) at ∙ cell_at_place s t r m.name ∙ ap (cell_in r) m.column in
      ap₂ (λ b z. cond b z null)
      (exactly s tables d bd (mask_of (grant g t).masks m.c) t (masks t m.c) m.alias r (narrow_at s g tables d bd filters t row.0 row.2)
      (with_alias x m.one unit) at m.condition m.stand m.ones)
      cell) in
      let shows_e : cond (kept m.condition W (with_alias y m.one unit)) (cell_named (with_alias y m.one unit m.alias) m.name) null ≡ shown s g e t (slice_index_or (permitted s g e t) row.0 []) m.c =
      (let r : Row = slice_index_or (permitted s g e t) row.0 [] in
      let at : with_alias y m.one unit m.alias ≡ named_row (table s t).columns r = stays y ∙ row.4 in
      let cell : cell_named (with_alias y m.one unit m.alias) m.name ≡ row_cell r m.c = ap (λ z. cell_named z m.name) at ∙ cell_at_place s t r m.name ∙ ap (cell_in r) m.column in
      ap₂ (λ b z. cond b z null)
      (exactly s tables e be (mask_of (grant g t).masks m.c) t (masks t m.c) m.alias r
      (narrow_at s g tables e be filters t row.0 (other_size t row.0 row.2)) (with_alias y m.one unit) at m.condition m.stand m.ones)
      cell) in
      subst (λ z. Zip (Row2 (shows [])) (or_null_row (rows_of z V x)) (or_null_row (rows_of z W y))) (sym m.is)
      (mask_zip m.out (cell_named (with_alias x m.one unit m.alias) m.name) (cell_named (with_alias y m.one unit m.alias) m.name)
      (with_alias x m.one unit) (with_alias y m.one unit) (outputs out []) refl refl
      (kept m.condition V (with_alias x m.one unit)) (kept m.condition W (with_alias y m.one unit)) (shows_d ∙ o.shows t m.c m.permitted row.0 ∙ sym shows_e))

  -- ---- tests, and what is exempt or without faults

  test_alike : (v : ExprTree) (t : Test) (es : List ExprTree) (scope : Shapes) → expr_faults s g scope v ++ exprs_faults s g scope es ≡ []
      → (x y : Scope) → Ok scope x y → truth_at (tree.test v t es) V x ≡ truth_at (tree.test v t es) W y
  test_alike v t es scope h x y r =
      ap₂ (test_truth t) (plain_alike s g d e o scope v (left_none (expr_faults s g scope v) (exprs_faults s g scope es) h) x y r)
      (values_alike s g d e o scope es (right_none (expr_faults s g scope v) (exprs_faults s g scope es) h) x y r)

  unless_carries : (all : List PredTree) (x y : Scope) (p : PredTree) (b : Bool) (faults : List Fault) → (b ≡ true → Carries all x y p)
      → (faults ≡ [] → truth_at p V x ≡ truth_at p W y) → cond b [] faults ≡ [] → Carries all x y p
  unless_carries all x y p true faults i same h = i refl
  unless_carries all x y p false faults i same h = carries_same all x y p (same h)

  -- ---- the induction

  mutual
    pub rows_alike : (q : SelectTree) (counts : Bool) (scope : Shapes) → Formed q → select_faults s g scope counts q ≡ [] → (x y : Scope)
        → Ok scope x y → Zip (Row2 (shows (outputs_of s g scope q))) (rows_of q V x) (rows_of q W y)
    rows_alike (tree.rows distinct outs (tree.table schema name a) js c keys limit offset) counts scope f h x y r =
        let t : ℕ = table_place s schema name in
        let here : Shapes = (a, scan t) ∷ scope in
        let final : Shapes = joined_shapes s g here js in
        let at : shape_at final a ≡ scan t = fresh_shape s g a js f.0 here ∙ ap (λ b. cond b (scan t) (shape_at scope a)) (same_text a) in
        let k = six (exprs_faults s g final distinct) (outs_faults s g final outs) (scan_faults s g final t a (conjuncts c) keys (is_unordered counts distinct limit offset)) (joins_faults s g here js)
        (where_faults s g final (is_exempt s g final (conjuncts c) (tree.table schema name a)) c) (orders_faults s g final 0 (orders_of keys)) h in
        let stand = (scan_parts s g final t a (conjuncts c) keys (is_unordered counts distinct limit offset) k.2).0 in
        finish final outs distinct keys limit offset k.0 k.5 k.1 _ _
        (scan_start scope schema name a c js stand f.0 (λ p q z. joined_alike js here f.1 k.3 p q z)
        (λ p q z. kept_alike c final (is_exempt s g final (conjuncts c) (tree.table schema name a)) f.2 k.4 p q z (exempts_table (conjuncts c) final p q z schema name a at)) x y r)
    rows_alike (tree.rows distinct outs (tree.sub q a) js c keys limit offset) counts scope f h x y r =
        let sh : Shape = shows (outputs_of s g scope q) in
        let here : Shapes = (a, sh) ∷ scope in
        let final : Shapes = joined_shapes s g here js in
        let k = six (exprs_faults s g final distinct) (outs_faults s g final outs) (select_faults s g scope true q) (joins_faults s g here js)
        (where_faults s g final (is_exempt s g final (conjuncts c) (tree.sub q a)) c) (orders_faults s g final 0 (orders_of keys)) h in
        let starts =
        zip_images (Row2 sh) (Ok here) (with_alias x a) (with_alias y a) (λ p u z. bound_ok s g d e scope sh a x y p u r z)
        (rows_of q V x) (rows_of q W y) (rows_alike q true scope f.0 k.2 x y r) in
        let all = zip_flat (Ok here) (Ok final) (joined js V) (joined js W) (λ p u z. joined_alike js here f.1 k.3 p u z) _ _ starts in
        finish final outs distinct keys limit offset k.0 k.5 k.1 _ _
        (zip_filter (Ok final) (kept c V) (kept c W) (λ p u z. kept_alike c final (is_exempt s g final (conjuncts c) (tree.sub q a)) f.2 k.4 p u z (λ i j. cc)) _ _ all)
    rows_alike (tree.rows distinct outs (tree.one a) js c keys limit offset) counts scope f h x y r =
        let here : Shapes = (a, shows []) ∷ scope in
        let final : Shapes = joined_shapes s g here js in
        let unit : NamedRow = (codes "u", bool true) ∷ [] in
        let k = six (exprs_faults s g final distinct) (outs_faults s g final outs) [] (joins_faults s g here js)
        (where_faults s g final (is_exempt s g final (conjuncts c) (tree.one a)) c) (orders_faults s g final 0 (orders_of keys)) h in
        let start : Ok here (with_alias x a unit) (with_alias y a unit) = bound_ok s g d e scope (shows []) a x y unit unit r (λ p. None, λ n. refl) in
        let all = zip_flat (Ok here) (Ok final) (joined js V) (joined js W) (λ p u z. joined_alike js here f.1 k.3 p u z) (with_alias x a unit ∷ []) (with_alias y a unit ∷ []) (start, tt) in
        finish final outs distinct keys limit offset k.0 k.5 k.1 _ _
        (zip_filter (Ok final) (kept c V) (kept c W) (λ p u z. kept_alike c final (is_exempt s g final (conjuncts c) (tree.one a)) f.2 k.4 p u z (λ i j. cc)) _ _ all)
    rows_alike (tree.fold out inner a) counts scope f h x y r =
        let sh : Shape = shows (outputs_of s g scope inner) in
        let here : Shapes = (a, sh) ∷ scope in
        let group = zip_images (Row2 sh) (Ok here) (with_alias x a) (with_alias y a) (λ p u z. bound_ok s g d e scope sh a x y p u r z) (rows_of inner V x) (rows_of inner W y)
        (rows_alike inner (shows_order out.value) scope f.0 (right_none (expr_faults s g here out.value) (select_faults s g scope (shows_order out.value) inner) h) x y r) in
        let same =
        fold_alike s g d e o here out.value f.1
        (left_none (expr_faults s g here out.value) (select_faults s g scope (shows_order out.value) inner) h) x y
        (map (with_alias x a) (rows_of inner V x)) (map (with_alias y a) (rows_of inner W y)) group in
        ((λ p. None, λ m. ap (λ z. cond (bytes_eq out.name m) z null) same), tt)

    joined_alike : (js : JoinTrees) (scope : Shapes) → FormedJoins js → joins_faults s g scope js ≡ [] → (x y : Scope) → Ok scope x y
        → Zip (Ok (joined_shapes s g scope js)) (joined js V x) (joined js W y)
    joined_alike tree.no_join scope f h x y r = (r, tt)
    joined_alike (tree.join q a js) scope f h x y r =
        let os : List (List ℕ × Origin) = cond (is_mask_join s g scope q) [] (outputs_of s g scope q) in
        let here : Shapes = (a, shows os) ∷ scope in
        let first = left_none (cond (is_mask_join s g scope q) [] (select_faults s g scope true q)) (joins_faults s g here js) h in
        let rest = right_none (cond (is_mask_join s g scope q) [] (select_faults s g scope true q)) (joins_faults s g here js) h in
        let go : (b : Bool) → is_mask_join s g scope q ≡ b → cond b [] (select_faults s g scope true q) ≡ []
        → Zip (Row2 (shows (cond b [] (outputs_of s g scope q)))) (or_null_row (rows_of q V x)) (or_null_row (rows_of q W y)) =
        elim [
          | true ↦ λ k n. mask_alike scope q (mask_form s g scope q k) x y r
          | false ↦ λ k n. null_rows (outputs_of s g scope q) (rows_of q V x) (rows_of q W y) (rows_alike q true scope f.0 n x y r)
        ] in
        zip_flat (Ok here) (Ok (joined_shapes s g here js)) (joined js V) (joined js W) (λ p u z. joined_alike js here f.1 rest p u z) _ _
        (zip_images (Row2 (shows os)) (Ok here) (with_alias x a) (with_alias y a) (λ p u z. bound_ok s g d e scope (shows os) a x y p u r z)
        (or_null_row (rows_of q V x)) (or_null_row (rows_of q W y)) (go (is_mask_join s g scope q) refl first))

    kept_alike : (c : FilterTree) (scope : Shapes) (ex : PredTree → Bool) → FormedFilter c → where_faults s g scope ex c ≡ []
        → (x y : Scope) → Ok scope x y → Exempts (conjuncts c) x y ex → kept c V x ≡ kept c W y
    kept_alike tree.no_filter scope ex f h x y r i = refl
    kept_alike (tree.filter p) scope ex f h x y r i = where_alike (tree.filter p) x y (top_alike p (opened p) scope ex f h x y r i)

    top_alike : (p : PredTree) (all : List PredTree) (scope : Shapes) (ex : PredTree → Bool) → FormedPred p
        → conjunct_faults s g scope ex p ≡ [] → (x y : Scope) → Ok scope x y → Exempts all x y ex → Each (Carries all x y) (opened p)
    top_alike tree.always all scope ex f h x y r i = tt
    top_alike tree.never all scope ex f h x y r i = (carries_same all x y tree.never refl, tt)
    top_alike (tree.test v t es) all scope ex f h x y r i =
        (unless_carries all x y (tree.test v t es) (ex (tree.test v t es)) (expr_faults s g scope v ++ exprs_faults s g scope es) (i (tree.test v t es)) (λ n. test_alike v t es scope n x y r) h, tt)
    top_alike (tree.negation p) all scope ex f h x y r i = (
      unless_carries all x y (tree.negation p) (ex (tree.negation p)) (pred_faults s g scope p) (i (tree.negation p))
          (λ n. ap not3 (pred_alike p scope f n x y r)) h,
      tt,
    )
    top_alike (tree.all_of ps) all scope ex f h x y r i = tops_alike ps all scope ex f h x y r i
    top_alike (tree.any_of ps) all scope ex f h x y r i = (
      unless_carries all x y (tree.any_of ps) (ex (tree.any_of ps)) (preds_faults s g scope ps) (i (tree.any_of ps))
          (λ n. any_alike ps scope f n x y r) h,
      tt,
    )
    top_alike (tree.exists q) all scope ex f h x y r i = (
      unless_carries all x y (tree.exists q) (ex (tree.exists q)) (select_faults s g scope false q) (i (tree.exists q))
          (λ n. ap truth_of
          (zip_has (Row2 (shows (outputs_of s g scope q))) (rows_of q V x) (rows_of q W y) (rows_alike q false scope f n x y r)))
          h,
      tt,
    )

    tops_alike : (ps : PredTrees) (all : List PredTree) (scope : Shapes) (ex : PredTree → Bool) → FormedPreds ps
        → conjuncts_faults s g scope ex ps ≡ [] → (x y : Scope) → Ok scope x y → Exempts all x y ex → Each (Carries all x y) (all_opened ps)
    tops_alike tree.no_pred all scope ex f h x y r i = tt
    tops_alike (tree.pred p ps) all scope ex f h x y r i =
        each_append (Carries all x y) (opened p) (all_opened ps)
        (top_alike p all scope ex f.0 (left_none (conjunct_faults s g scope ex p) (conjuncts_faults s g scope ex ps) h) x y r i)
        (tops_alike ps all scope ex f.1 (right_none (conjunct_faults s g scope ex p) (conjuncts_faults s g scope ex ps) h) x y r i)

    pred_alike : (p : PredTree) (scope : Shapes) → FormedPred p → pred_faults s g scope p ≡ [] → (x y : Scope) → Ok scope x y → truth_at p V x ≡ truth_at p W y
    pred_alike tree.always scope f h x y r = refl
    pred_alike tree.never scope f h x y r = refl
    pred_alike (tree.test v t es) scope f h x y r = test_alike v t es scope h x y r
    pred_alike (tree.negation p) scope f h x y r = ap not3 (pred_alike p scope f h x y r)
    pred_alike (tree.all_of ps) scope f h x y r = all_alike ps scope f h x y r
    pred_alike (tree.any_of ps) scope f h x y r = any_alike ps scope f h x y r
    pred_alike (tree.exists q) scope f h x y r = ap truth_of (zip_has (Row2 (shows (outputs_of s g scope q))) (rows_of q V x) (rows_of q W y) (rows_alike q false scope f h x y r))

    all_alike : (ps : PredTrees) (scope : Shapes) → FormedPreds ps → preds_faults s g scope ps ≡ [] → (x y : Scope) → Ok scope x y → all_true ps V x ≡ all_true ps W y
    all_alike tree.no_pred scope f h x y r = refl
    all_alike (tree.pred p ps) scope f h x y r =
        ap₂ and3 (pred_alike p scope f.0 (left_none (pred_faults s g scope p) (preds_faults s g scope ps) h) x y r)
        (all_alike ps scope f.1 (right_none (pred_faults s g scope p) (preds_faults s g scope ps) h) x y r)

    any_alike : (ps : PredTrees) (scope : Shapes) → FormedPreds ps → preds_faults s g scope ps ≡ [] → (x y : Scope) → Ok scope x y → any_true ps V x ≡ any_true ps W y
    any_alike tree.no_pred scope f h x y r = refl
    any_alike (tree.pred p ps) scope f h x y r =
        ap₂ or3 (pred_alike p scope f.0 (left_none (pred_faults s g scope p) (preds_faults s g scope ps) h) x y r)
        (any_alike ps scope f.1 (right_none (pred_faults s g scope p) (preds_faults s g scope ps) h) x y r)
