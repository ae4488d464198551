-- The joins of sorts through relationships, and the order that sort keys give.
use Rattle.std.proofs.Common.{◌≡◌, ℕ, ◌+◌, ◌<◌, ◌≤◌, ◌^◌, List, [], ◌∷◌, ◌++◌, length, map, Bool, true, false, bytes_eq, refl, ap, ◌∙◌, arith, Ordering, Equal}
use Rattle.std.specs.Prelude.{slice_get, unwrap_or, option_map}
use Rattle.std.specs.Ordering.{on, then_cmp}
use Rattle.std.specs.Cmp.{IsTotalOrder}
use Rattle.std.proofs.lemmas.Cmp.{on_total, then_total}
use Rattle.hq_base.specs.Cells.{CellTree, null, key_cmp}
use Rattle.hq_base.proofs.Orders.{key_cmp_total}
use Rattle.hq_model.specs.Database.{Row}
use Rattle.hq_model.specs.Grants.{Grants}
use Rattle.hq_model.specs.Permitted.{shown, seen_by}
use Rattle.hq_model.specs.Related.{related}
use Rattle.hq_model.specs.Schema.{Schema, rel}
use Rattle.hq_model.specs.Seen.{row_cell, linked_by}
use Rattle.hq_model.specs.Selected.{SortKey, sort_cell as shown_cell, sorts_cmp as shown_cmp}
use Rattle.hq_model.specs.declared.table.Table.{Table}
use Rattle.hq_sql_tree.specs.Tree.{orders_of}
use Rattle.hq_sql_tree.specs.Meaning.{NamedRow, cell_named, Scope, with_alias, World, outputs, order_cmp, orders_cmp}
use Rattle.hq_translation.specs.GrantedTables.{granted_of}
use Rattle.hq_translation.specs.Names.{fold_alias, join_alias, value_name, key_name}
use Rattle.hq_translation.specs.Looks.{Look, cell_at}
use Rattle.hq_translation.specs.Predicates.{link}
use Rattle.hq_translation.specs.Masks.{extra, masks, shown_look, filter_numbers}
use Rattle.hq_translation.specs.Selects.{filter_from, behind_filter}
use Rattle.hq_translation.specs.Sorts.{Sort, last_used, used_by, used_sorts, sort_place, sort_numbers, sort_joins, sorts_numbers, sorts_joins, orders, key_outputs, output_orders}
use Rattle.hq_translation.proofs.Names.{Shows, at_row, shows_row, Looks, looks_left, looks_right, used_one, same_text, with_alias_same, join_aliases_differ, key_names_differ}
use Rattle.hq_translation.proofs.Sound.{Sound}
use Rattle.hq_translation.proofs.Extends.{Extends, extends_none, extends_one, extends_then, extends_apart, first_named, first_cell, first_named_value}
use Rattle.hq_translation.proofs.Predicates.{link_means}
use Rattle.hq_translation.proofs.Masks.{behind_masks, masks_at, looks_at, looks_later}
use Rattle.hq_translation.proofs.Selects.{none_total, behind_shows, behind_above, first_means}

module _ (s : Schema) (g : Grants) (d : List (List Row)) where
  -- the scope behind the join of a sort key, and behind those of several
  abbrev pub with_sort : (through : List ℕ) → (t n c : ℕ) → Row → Scope → Scope
  with_sort [] t n c row scope = scope
  with_sort (r ∷ rs) t n c row scope =
      with_alias scope (join_alias n) (first_named (map (shown_cell rs s (seen_by s g d) (rel s t r).remote c) (related s (seen_by s g d) t r row)))

  abbrev pub with_sorts : List Sort → (t n : ℕ) → Row → Scope → Scope
  with_sorts [] t n row scope = scope
  with_sorts (k ∷ ks) t n row scope =
      with_sorts ks t (n + sort_numbers k.key.through s (granted_of g) t k.key.column) row (with_sort k.key.through t n k.key.column row scope)

  -- the cell of a sort key
  abbrev pub sort_cell : (own : Bool) → (through : List ℕ) → (t c : ℕ) → Row → CellTree
  sort_cell true rs t c row = row_cell row c
  sort_cell false rs t c row = shown_cell rs s (seen_by s g d) t c row

  abbrev pub sorts_cmp : List Sort → (t : ℕ) → Row → Row → Ordering
  sorts_cmp [] t x y = Equal
  sorts_cmp (k ∷ ks) t x y = then_cmp (on (sort_cell k.own k.key.through t k.key.column) (key_cmp k.key.desc k.key.nulls_first)) (sorts_cmp ks t) x y

  pub sorts_total : (ks : List Sort) (t : ℕ) → IsTotalOrder (sorts_cmp ks t)
  sorts_total [] t = none_total
  sorts_total (k ∷ ks) t = then_total (on_total (sort_cell k.own k.key.through t k.key.column) (key_cmp_total k.key.desc k.key.nulls_first)) (sorts_total ks t)

  pub entries_total : (ks : List SortKey) (t : ℕ) → IsTotalOrder (shown_cmp ks s (seen_by s g d) t)
  entries_total [] t = none_total
  entries_total (k ∷ ks) t = then_total (on_total (shown_cell k.through s (seen_by s g d) t k.column) (key_cmp_total k.desc k.nulls_first)) (entries_total ks t)

  -- the cell of the first related row is the first cell of the related rows
  first_of : (f : Row → CellTree) (l : List Row) → first_cell (map f l) ≡ unwrap_or (option_map f (slice_get l 0)) null
  first_of f [] = refl
  first_of f (x ∷ l) = refl

  -- the place of a sort key has its cell
  sort_shown : (own : Bool) (through : List ℕ) (look : Look) (t p n c : ℕ) (scope e : Scope) (row : Row) → Shows s e t p row → Looks look (used_by own through c) e (shown s g d t row)
      → ((r : ℕ) (rs : List ℕ) → through ≡ r ∷ rs → e (join_alias n) ≡ with_sort through t n c row scope (join_alias n))
      → cell_named (e (sort_place own through s look t p n c).alias) (sort_place own through s look t p n c).name ≡ sort_cell own through t c row
  sort_shown true rs look t p n c scope e row shows l same = shows c
  sort_shown false [] look t p n c scope e row shows l same = l c (used_one c)
  sort_shown false (r ∷ rs) look t p n c scope e row shows l same =
      let cells = map (shown_cell rs s (seen_by s g d) (rel s t r).remote c) (related s (seen_by s g d) t r row) in
      ap (λ x. cell_named x value_name) (same r rs refl ∙ with_alias_same scope (join_alias n) (first_named cells))
      ∙ first_named_value cells
      ∙ first_of (shown_cell rs s (seen_by s g d) (rel s t r).remote c) (related s (seen_by s g d) t r row)

  -- the scope has the cell of each sort key
  abbrev pub SortsShown : List Sort → Look → (t p n : ℕ) → Scope → Row → Type 0
  SortsShown [] look t p n e row = Unit {0}
  SortsShown (k ∷ ks) look t p n e row =
      (cell_named (e (sort_place k.own k.key.through s look t p n k.key.column).alias)
      (sort_place k.own k.key.through s look t p n k.key.column).name
      ≡ sort_cell k.own k.key.through t k.key.column row)
      × SortsShown ks look t p (n + sort_numbers k.key.through s (granted_of g) t k.key.column) e row

  pub orders_shown : (ks : List Sort) (look : Look) (t p n : ℕ) (e f : Scope) (x y : Row) → SortsShown ks look t p n e x
      → SortsShown ks look t p n f y → order_cmp (orders ks s (granted_of g) look t p n) e f ≡ sorts_cmp ks t x y
  orders_shown [] look t p n e f x y a b = refl
  orders_shown (k ∷ ks) look t p n e f x y a b = rw (a.0, b.0, orders_shown ks look t p (n + sort_numbers k.key.through s (granted_of g) t k.key.column) e f x y a.1 b.1) refl

  -- a named row has the cells of the sort keys, from the name of number i on
  abbrev pub Carries : NamedRow → List Sort → (t i : ℕ) → Row → Type 0
  Carries r [] t i x = Unit {0}
  Carries r (k ∷ ks) t i x = (cell_named r (key_name i) ≡ sort_cell k.own k.key.through t k.key.column x) × Carries r ks t (i + 1) x

  pub carries_behind : (r : NamedRow) (name : List ℕ) (c : CellTree) (ks : List Sort) (t i : ℕ) (x : Row)
      → ((j : ℕ) → i ≤ j → j < i + length ks → bytes_eq name (key_name j) ≡ false) → Carries r ks t i x → Carries ((name, c) ∷ r) ks t i x
  carries_behind r name c [] t i x ne h = tt
  carries_behind r name c (k ∷ ks) t i x ne h =
      (rw (ne i (omega arith) (omega arith)) h.0, carries_behind r name c ks t (i + 1) x (λ j a b. ne j (omega arith) (omega arith)) h.1)

  pub carries_keys : (ks : List Sort) (look : Look) (t p n i : ℕ) (scope : Scope) (x : Row) → SortsShown ks look t p n scope x
      → i + length ks ≤ 2 ^ 64 → Carries (outputs (key_outputs ks s (granted_of g) look t p n i) [] scope) ks t i x
  carries_keys [] look t p n i scope x h bound = tt
  carries_keys (k ∷ ks) look t p n i scope x h bound = (
    rw (same_text (key_name i)) h.0,
    carries_behind _ (key_name i) _ ks t (i + 1) x (λ j a b. key_names_differ i j (omega arith) (omega arith))
        (carries_keys ks look t p (n + sort_numbers k.key.through s (granted_of g) t k.key.column) (i + 1) scope x h.1 (omega arith)),
  )

  pub fold_orders : (n : ℕ) (ks : List Sort) (t i : ℕ) (e f : Scope) (x y : Row) → Carries (e (fold_alias n)) ks t i x
      → Carries (f (fold_alias n)) ks t i y → orders_cmp (orders_of (output_orders ks s t n i)) e f ≡ sorts_cmp ks t x y
  fold_orders n [] t i e f x y a b = refl
  fold_orders n (k ∷ ks) t i e f x y a b = rw (a.0, b.0, fold_orders n ks t (i + 1) e f x y a.1 b.1) refl

  module _ (tables : List Table) (sound : Sound s tables d) where
    abbrev w : World
    w = record { tables = tables; database = d }

    pub sort_extends : (through : List ℕ) (t p n c : ℕ) → p < n → n + sort_numbers through s (granted_of g) t c ≤ 2 ^ 64
        → Extends s w (sort_joins through s (granted_of g) t p n c) t p n (sort_numbers through s (granted_of g) t c) (with_sort through t n c)
    sort_extends [] t p n c lt bound = extends_none s w t p n
    sort_extends (r ∷ rs) t p n c lt bound =
        let u : ℕ = (rel s t r).remote in
        let cs : List ℕ = last_used rs c in
        let m : ℕ = behind_filter s (granted_of g) u cs n in
        let k : ℕ = extra s (granted_of g) u cs + filter_numbers s (granted_of g) u + sort_numbers rs s (granted_of g) u c in
        let inner = sort_extends rs u n m c (omega arith) (omega arith) in
        let F : Row → Scope → Scope = λ far e. with_sort rs u m c far (behind_masks s tables d sound g u cs n far e) in
        let all =
        extends_apart s w (masks s (granted_of g) u cs n) (sort_joins rs s (granted_of g) u n m c) u n (n + 1)
        (extra s (granted_of g) u cs) m (sort_numbers rs s (granted_of g) u c) k (behind_masks s tables d sound g u cs n)
        (with_sort rs u m c) (omega arith) (omega arith) (masks_at s tables d sound g u n cs (omega arith)) inner in
        extends_one s w _ t p n (sort_numbers (r ∷ rs) s (granted_of g) t c) (λ row. first_named (map (shown_cell rs s (seen_by s g d) u c) (related s (seen_by s g d) t r row))) (omega arith)
        (λ scope row shows.
        first_means s tables d sound u n (masks s (granted_of g) u cs n ++ sort_joins rs s (granted_of g) u n m c) (n + 1) k F all g
        (cell_at (sort_place false rs s (shown_look s (granted_of g) u cs n) u n m c)) (shown_cell rs s (seen_by s g d) u c) scope
        (link s t (rel s t r) p n) (linked_by (rel s t r).pairs row) (filter_from s (granted_of g) u cs n) (omega arith) (omega arith)
        (λ far narrow. sort_shown false rs (shown_look s (granted_of g) u cs n) u n m c
        (behind_masks s tables d sound g u cs n far (at_row s u n scope far)) (F far (at_row s u n scope far)) far
        (behind_shows s tables d sound u n _ _ _ _ all scope far narrow)
        (looks_later s tables d sound g u n cs (sort_joins rs s (granted_of g) u n m c) u n m (sort_numbers rs s (granted_of g) u c)
        (with_sort rs u m c) inner (omega arith) (omega arith) (behind_masks s tables d sound g u cs n far (at_row s u n scope far)) far
        (shown s g d u far)
        (looks_at s tables d sound g u n cs (at_row s u n scope far) far (omega arith) (shows_row s scope u n far (sound.differ u) narrow)))
        (λ q qs some. refl))
        (λ far narrow. link_means s w t (rel s t r) p n _ row far (behind_above s tables d sound u n _ _ _ _ all scope far t p row lt (omega arith) shows)
        (behind_shows s tables d sound u n _ _ _ _ all scope far narrow)))

    pub sorts_extend : (ks : List Sort) (t p n : ℕ) → p < n → n + sorts_numbers ks s (granted_of g) t ≤ 2 ^ 64
        → Extends s w (sorts_joins ks s (granted_of g) t p n) t p n (sorts_numbers ks s (granted_of g) t) (with_sorts ks t n)
    sorts_extend [] t p n lt bound = extends_none s w t p n
    sorts_extend (k ∷ ks) t p n lt bound =
        let l : ℕ = sort_numbers k.key.through s (granted_of g) t k.key.column in
        extends_then s w (sort_joins k.key.through s (granted_of g) t p n k.key.column) (sorts_joins ks s (granted_of g) t p (n + l)) t p n l
        (sorts_numbers ks s (granted_of g) t) (with_sort k.key.through t n k.key.column) (with_sorts ks t (n + l))
        (sort_extends k.key.through t p n k.key.column lt (omega arith))
        (sorts_extend ks t p (n + l) (omega arith) (omega arith))

    -- a sort key through relationships takes a number
    some_number : (through : List ℕ) (t c r : ℕ) (rs : List ℕ) → through ≡ r ∷ rs → 0 < sort_numbers through s (granted_of g) t c
    some_number [] t c r rs e = cc
    some_number (q ∷ qs) t c r rs e = omega arith

    pub sorts_shown : (ks : List Sort) (look : Look) (t p n : ℕ) (scope e : Scope) (row : Row) → p < n
        → n + sorts_numbers ks s (granted_of g) t ≤ 2 ^ 64 → Shows s e t p row → Looks look (used_sorts ks) e (shown s g d t row)
        → ((m : ℕ) → n ≤ m → m < n + sorts_numbers ks s (granted_of g) t → e (join_alias m) ≡ with_sorts ks t n row scope (join_alias m)) → SortsShown ks look t p n e row
    sorts_shown [] look t p n scope e row lt bound shows l same = tt
    sorts_shown (k ∷ ks) look t p n scope e row lt bound shows l same =
        let next : ℕ = n + sort_numbers k.key.through s (granted_of g) t k.key.column in
        let rest = sorts_extend ks t p next (omega arith) (omega arith) in
        let used : List ℕ = used_by k.own k.key.through k.key.column in (
          sort_shown k.own k.key.through look t p n k.key.column scope e row shows (looks_left look used (used_sorts ks) e (shown s g d t row) l)
              (λ r rs is.
              let some = some_number k.key.through t k.key.column r rs is in
              same n (omega arith) (omega arith) ∙ rest.keeps _ row (join_alias n) (λ m h i. join_aliases_differ n m (omega arith) (omega arith))),
          sorts_shown ks look t p next _ e row (omega arith) (omega arith) shows (looks_right look used (used_sorts ks) e (shown s g d t row) l) (λ m h i. same m (omega arith) (omega arith)),
        )
