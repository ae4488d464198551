-- Masks give shown cells, and `where` has the truth of its expression over what a session sees.
use Rattle.std.proofs.Common.{◌≡◌, ℕ, ◌+◌, ◌<◌, ◌≤◌, ◌^◌, List, [], ◌∷◌, map, filter, Bool, true, false, cond, ◌&&◌, ◌||◌, ◌==◌, refl, ap, ◌∙◌, arith, eqb-true}
use Rattle.std.specs.Prelude.{codes}
use Rattle.std.specs.List.{list_any}
use Rattle.hq_base.specs.Cells.{CellTree, null, bool}
use Rattle.hq_base.specs.Lists.{sort}
use Rattle.hq_base.proofs.Sorts.{sort_any}
use Rattle.hq_model.specs.Bexp.{BexpTree}
use Rattle.hq_model.specs.Database.{Row}
use Rattle.hq_model.specs.Grants.{Grants, grant}
use Rattle.hq_model.specs.Logic.{is_true}
use Rattle.hq_model.specs.Permission.{Mask}
use Rattle.hq_model.specs.Permitted.{columns_cmp, mask_of, shown, seen_by}
use Rattle.hq_model.specs.Schema.{Schema, table}
use Rattle.hq_model.specs.Seen.{row_cell, table_rows, all_of}
use Rattle.hq_model.specs.Truth.{truth, keeps}
use Rattle.hq_model.specs.declared.table.Table.{Table}
use Rattle.hq_sql_tree.specs.Tree.{JoinTree, PredTree}
use Rattle.hq_sql_tree.specs.Meaning.{NamedRow, cell_named, Scope, with_alias, World, or_null_row, order_cmp, outputs, rows_of, kept, truth_at}
use Rattle.hq_translation.specs.GrantedTables.{granted_of}
use Rattle.hq_translation.specs.Names.{table_alias, join_alias, value_name}
use Rattle.hq_translation.specs.Looks.{Look, ColumnName, own_look, cell_at, is_used}
use Rattle.hq_translation.specs.Conditions.{with_member, where_of}
use Rattle.hq_translation.specs.Predicates.{columns_in, numbers, predicate, own_numbers, own_predicate}
use Rattle.hq_translation.specs.Masks.{value_output, value_place, mask_numbers, mask_select, mask_joins, mask_look, used_masks, extra, masks, shown_look, where_mode}
use Rattle.hq_translation.proofs.Names.{Shows, shows_behind, Looks, same_text, with_alias_same, table_aliases_differ, join_aliases_differ, join_is_no_table}
use Rattle.hq_translation.proofs.Sound.{Sound}
use Rattle.hq_translation.proofs.Conditions.{kept_where, kept_member, and_true}
use Rattle.hq_translation.proofs.Extends.{Extends, extends_none, extends_one, extends_then}
use Rattle.hq_translation.proofs.Predicates.{Promises, predicate_means, own_means}

-- a test of the rows that a filter leaves
any_kept : {A : Type 0} (p q : A → Bool) (xs : List A) → list_any p (filter q xs) ≡ list_any (λ x. q x && p x) xs
any_kept p q [] = refl
any_kept p q (x ∷ xs) =
    let later = any_kept p q xs in
    let go : (b : Bool) → list_any p (cond b (x ∷ filter q xs) (filter q xs)) ≡ ((b && p x) || list_any (λ y. q y && p y) xs) = elim [ true ↦ ap (λ c. p x || c) later | false ↦ later ] in
    go (q x)

-- masks of columns that are not used don't matter
used_same : (ms : List Mask) (cs : List ℕ) (c : ℕ) → is_used c cs ≡ true → mask_of (filter (λ m. is_used m.column cs) ms) c ≡ mask_of ms c
used_same [] cs c h = refl
used_same (m ∷ ms) cs c h =
    let later = used_same ms cs c h in
    let go : (b e : Bool) → (m.column == c) ≡ b → is_used m.column cs ≡ e
    → mask_of (cond e (m ∷ filter (λ k. is_used k.column cs) ms) (filter (λ k. is_used k.column cs) ms)) c ≡ cond b m.shown (mask_of ms c) =
    elim [
      | true ↦ elim [
        | true ↦ λ f i. rw f refl
        | false ↦ λ f i. let k : is_used m.column cs ≡ true = ap (λ k. is_used k cs) (eqb-true m.column c f) ∙ h in cc
      ]
      | false ↦ elim [ true ↦ λ f i. rw f later | false ↦ λ f i. later ]
    ] in
    go (m.column == c) (is_used m.column cs) refl refl

-- whether a row is permitted
abbrev pub is_permitted : Schema → Grants → List (List Row) → (t : ℕ) → Row → Bool
is_permitted s g d t row = keeps (grant g t).filter s (all_of s d) t row

module _ (s : Schema) (tables : List Table) (d : List (List Row)) (sound : Sound s tables d) where
  abbrev w : World
  w = record { tables = tables; database = d }

  -- whether a row's cell is shown under a mask
  abbrev pub shows_cell : Mask → ℕ → Row → Bool
  shows_cell m t row = keeps m.shown s (all_of s d) t row

  -- the row that a mask's join gives
  abbrev pub mask_row : Mask → ℕ → Row → NamedRow
  mask_row m t row = cond (shows_cell m t row) ((value_name, row_cell row m.column) ∷ []) []

  -- the scope behind the joins of masks
  abbrev pub with_masks : List Mask → ℕ → ℕ → Row → Scope → Scope
  with_masks [] t n row scope = scope
  with_masks (m ∷ ms) t n row scope = with_masks ms t (n + (1 + own_numbers m.shown s t)) row (with_alias scope (join_alias n) (mask_row m t row))

  mask_rows : (m : Mask) (t p n : ℕ) (scope : Scope) (row : Row) → p < n → n + (1 + own_numbers m.shown s t) ≤ 2 ^ 64
      → Shows s scope t p row → or_null_row (rows_of (mask_select m s t p n) w scope) ≡ mask_row m t row ∷ []
  mask_rows m t p n scope row lt bound shows =
      let E : Scope = with_alias scope (table_alias n) ((codes "u", bool true) ∷ []) in
      let mask : PredTree = own_predicate m.shown s t p (n + 1) in
      let outs = value_output (cell_at (own_look (table s t).columns p m.column)) in
      let here : Shows s E t p row = shows_behind s scope t p (table_alias n) row _ (table_aliases_differ p n lt (omega arith)) shows in
      let yes : kept (where_of (with_member mask [])) w E ≡ shows_cell m t row =
      kept_where w E (with_member mask []) ∙ kept_member w E mask [] ∙ and_true (is_true (truth_at mask w E)) ∙ own_means s tables d sound m.shown t p (n + 1) E row (omega arith) (omega arith) here in
      let go : (b : Bool) → or_null_row (map (outputs outs []) (sort (order_cmp []) (cond b (E ∷ []) []))) ≡ cond b ((value_name, row_cell row m.column) ∷ []) [] ∷ [] =
      elim [ true ↦ rw (here m.column) refl | false ↦ refl ] in
      ap (λ b. or_null_row (map (outputs outs []) (sort (order_cmp []) (cond b (E ∷ []) [])))) yes ∙ go (shows_cell m t row)

  masks_extend : (ms : List Mask) (t p n : ℕ) → p < n → n + mask_numbers ms s t ≤ 2 ^ 64 → Extends s w (mask_joins ms s t p n) t p n (mask_numbers ms s t) (with_masks ms t n)
  masks_extend [] t p n lt bound = extends_none s w t p n
  masks_extend (m ∷ ms) t p n lt bound =
      let k : ℕ = 1 + own_numbers m.shown s t in
      let one = extends_one s w (mask_select m s t p n) t p n k (mask_row m t) (omega arith) (λ scope row h. mask_rows m t p n scope row lt (omega arith) h) in
      extends_then s w _ (mask_joins ms s t p (n + k)) t p n k (mask_numbers ms s t) _ (with_masks ms t (n + k)) one
      (masks_extend ms t p (n + k) (omega arith) (omega arith))

  -- a cell under masks
  abbrev masked_cell : List Mask → ℕ → Row → ℕ → CellTree
  masked_cell ms t row c = cond (keeps (mask_of ms c) s (all_of s d) t row) (row_cell row c) null

  abbrev found : Scope → ColumnName → CellTree
  found scope p = cell_named (scope p.alias) p.name

  mask_looks : (ms : List Mask) (t p n c : ℕ) (scope : Scope) (row : Row) → p < n → n + mask_numbers ms s t ≤ 2 ^ 64 → Shows s scope t p row
      → found (with_masks ms t n row scope) (mask_look ms s t p n c) ≡ masked_cell ms t row c
  mask_looks [] t p n c scope row lt bound shows = shows c
  mask_looks (m ∷ ms) t p n c scope row lt bound shows =
      let next : ℕ = n + (1 + own_numbers m.shown s t) in
      let E : Scope = with_alias scope (join_alias n) (mask_row m t row) in
      let rest = masks_extend ms t p next (omega arith) (omega arith) in
      let behind : with_masks ms t next row E (join_alias n) ≡ mask_row m t row =
      rest.keeps E row (join_alias n) (λ q h k. join_aliases_differ n q (omega arith) (omega arith)) ∙ with_alias_same scope (join_alias n) (mask_row m t row) in
      let cells : (b : Bool)
      → cell_named (cond b ((value_name, row_cell row m.column) ∷ []) []) value_name ≡ cond b (row_cell row m.column) null =
      elim [ true ↦ rw (same_text value_name) refl | false ↦ refl ] in
      let go : (b : Bool) → (m.column == c) ≡ b
      → found (with_masks ms t next row E) (cond b (value_place n) (mask_look ms s t p next c))
      ≡ cond (keeps (cond b m.shown (mask_of ms c)) s (all_of s d) t row) (row_cell row c) null =
      elim [
        | true ↦ λ e.
            ap (λ r. cell_named r value_name) behind ∙ cells (shows_cell m t row) ∙ ap (λ k. cond (shows_cell m t row) (row_cell row k) null) (eqb-true m.column c e)
        | false ↦ λ e. mask_looks ms t p next c E row (omega arith) (omega arith) (shows_behind s scope t p (join_alias n) row _ (join_is_no_table n p) shows)
      ] in
      go (m.column == c) refl

  -- scopes that agree on the alias and its masks look alike
  look_same : (ms : List Mask) (t p n c : ℕ) (e f : Scope) → e (table_alias p) ≡ f (table_alias p) → ((m : ℕ) → n ≤ m → m < n + mask_numbers ms s t → e (join_alias m) ≡ f (join_alias m))
      → found e (mask_look ms s t p n c) ≡ found f (mask_look ms s t p n c)
  look_same [] t p n c e f a j = rw a refl
  look_same (m ∷ ms) t p n c e f a j =
      let next : ℕ = n + (1 + own_numbers m.shown s t) in
      let later = look_same ms t p next c e f a (λ q h k. j q (omega arith) (omega arith)) in
      let here = j n (omega arith) (omega arith) in
      let go : (b : Bool)
      → found e (cond b (value_place n) (mask_look ms s t p next c)) ≡ found f (cond b (value_place n) (mask_look ms s t p next c)) =
      elim [ true ↦ rw here refl | false ↦ later ] in
      go (m.column == c)

  module _ (g : Grants) where
    -- the scope behind the masks of an alias
    abbrev pub behind_masks : (t : ℕ) → (used : List ℕ) → (n : ℕ) → Row → Scope → Scope
    behind_masks t cs n = with_masks (used_masks (granted_of g) t cs) t (n + 1)

    pub masks_at : (t n : ℕ) (cs : List ℕ) → n + 1 + extra s (granted_of g) t cs ≤ 2 ^ 64 → Extends s w (masks s (granted_of g) t cs n) t n (n + 1) (extra s (granted_of g) t cs) (behind_masks t cs n)
    masks_at t n cs bound = masks_extend (used_masks (granted_of g) t cs) t n (n + 1) (omega arith) bound

    -- the columns that are used are looked at as they are shown
    pub looks_at : (t n : ℕ) (cs : List ℕ) (scope : Scope) (row : Row) → n + 1 + extra s (granted_of g) t cs ≤ 2 ^ 64 → Shows s scope t n row
        → Looks (shown_look s (granted_of g) t cs n) cs (behind_masks t cs n row scope) (shown s g d t row)
    looks_at t n cs scope row bound shows c h =
        mask_looks (used_masks (granted_of g) t cs) t n (n + 1) c scope row (omega arith) bound shows
        ∙ ap (λ k. cond (keeps k s (all_of s d) t row) (row_cell row c) null) (used_same (grant g t).masks cs c h)

    -- later joins change nothing of that
    pub looks_later : (t n : ℕ) (cs : List ℕ) (H : List JoinTree) (u p q k : ℕ) (G : Row → Scope → Scope) → Extends s w H u p q k G
        → n + 1 + extra s (granted_of g) t cs ≤ q → q + k ≤ 2 ^ 64 → (scope : Scope) (row : Row) (cell : ℕ → CellTree)
        → Looks (shown_look s (granted_of g) t cs n) cs scope cell → Looks (shown_look s (granted_of g) t cs n) cs (G row scope) cell
    looks_later t n cs H u p q k G x le bound scope row cell l c h =
        look_same (used_masks (granted_of g) t cs) t n (n + 1) c (G row scope) scope
        (x.keeps scope row (table_alias n) (λ m a b. join_is_no_table m n))
        (λ m a b. x.keeps scope row (join_alias m) (λ r e f. join_aliases_differ m r (omega arith) (omega arith)))
        ∙ l c h

    pub where_promises : Promises s w (seen_by s g d) (where_mode s (granted_of g))
    where_promises = record {
      within = is_permitted s g d;
      after = behind_masks;
      counted =
          λ u q. any_kept q (is_permitted s g d u) (sort (columns_cmp (table s u).key) (table_rows d u))
          ∙ sort_any (columns_cmp (table s u).key) (λ r. is_permitted s g d u r && q r) (table_rows d u);
      links = λ t r row far. refl;
      means = λ u n from scope row lt bound shows. own_means s tables d sound (grant g u).filter u n from scope row lt bound shows;
      extends = λ u n cs bound. masks_at u n cs bound;
      looks = λ u n cs scope row bound shows. looks_at u n cs scope row bound shows;
    }

    -- a request's `where` at an alias whose columns are looked at as they are shown
    pub where_means : (b : BexpTree) (look : Look) (t p n : ℕ) (scope : Scope) (row : Row) → p < n
        → n + numbers b s (where_mode s (granted_of g)) t ≤ 2 ^ 64 → Shows s scope t p row
        → Looks look (columns_in b) scope (shown s g d t row)
        → truth_at (predicate b s (where_mode s (granted_of g)) look t p n) w scope ≡ truth b s (seen_by s g d) t row
    where_means = predicate_means s tables d sound (seen_by s g d) (where_mode s (granted_of g)) where_promises
