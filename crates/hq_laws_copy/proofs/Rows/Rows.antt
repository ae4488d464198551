-- The rows of a copy are valid.
use Rattle.std.proofs.Common.{◌≡◌, ℕ, suc, ◌+◌, ◌<◌, ◌^◌, List, [], ◌∷◌, map, length, Bool, true, false, cond, ◌&&◌, ◌||◌, ◌==◌, Some, refl, sym, ap, ap₂, ◌∙◌, subst, arith, slice_get}
use Rattle.std.proofs.lemmas.Bool.{and_parts, and_from, or_right, lt-ltb, false≢true}
use Rattle.std.specs.List.{list_any}
use Rattle.std.specs.Prelude.{slice_index_or}
use Rattle.hq_base.specs.Cells.{null, cell_of}
use Rattle.hq_base.specs.Lists.{Each, Zip}
use Rattle.hq_base.specs.declared.value.Val.{Val}
use Rattle.hq_base.specs.declared.value.Val.TheVariants as val
use Rattle.hq_base.proofs.Lists.{each_weaken, each_all, each_filter, map_itself}
use Rattle.hq_base.proofs.Sorts.{each_sort}
use Rattle.hq_base.proofs.Zips.{zip_images}
use Rattle.hq_model.specs.Database.{Row, value_fits, row_fits, key_of, same_values, are_rows, is_database}
use Rattle.hq_model.specs.Fits.{fits}
use Rattle.hq_model.specs.Grants.{Grants, grants_of, grant}
use Rattle.hq_model.specs.Laws.{HasColumn}
use Rattle.hq_model.specs.Meta.{MetaTree}
use Rattle.hq_model.specs.Permission.{Permission, role_of}
use Rattle.hq_model.specs.Permitted.{columns_cmp, by_key, permitted, mask_of}
use Rattle.hq_model.specs.Schema.{Schema, schema_of, table, column}
use Rattle.hq_model.specs.Seen.{all_of, table_rows}
use Rattle.hq_model.specs.Truth.{keeps}
use Rattle.hq_model.specs.View.{View, view, seen_in}
use Rattle.hq_model.specs.declared.role.Role.{Role}
use Rattle.hq_model.specs.declared.session.Session.{Session}
use Rattle.hq_model.specs.declared.table.Column.{Column}
use Rattle.hq_model.specs.declared.table.Table.{Table}
use Rattle.hq_copy_definition.specs.Extras.{Extra, from_end, to_end, row_position, ends_of, extras_of, extra_name, extra_column}
use Rattle.hq_copy_definition.specs.Metadata.{places}
use Rattle.hq_copy_definition.specs.Rows.{value_of, extra_value, copied_row, rows_of, copied_rows}
use Rattle.hq_copy_definition.specs.Sources.{Source, sources, place_in, keeps_key, has_mask, link_remote}
use Rattle.hq_copy_definition.specs.Tables.{copied_column, copied_columns, copied_table, copied_tables}
use Rattle.hq_laws_copy.proofs.Views.Cells.{permitted_value, position_value}
use Rattle.hq_laws_copy.proofs.Views.Copy.{granted_is, kept_is, granted_column, key_shows}
use Rattle.hq_laws_copy.proofs.Views.Order.{placed_places, no_mask}
use Rattle.hq_laws_copy.proofs.Views.Refused.{NotRefused}
use Rattle.hq_laws_copy.proofs.Views.Viewed.{seen_cell, seen_positions}
use Rattle.hq_laws_copy.proofs.Fits.Columns.{column_there}
use Rattle.hq_laws_copy.proofs.Fits.Held.{Held, all_held}
use Rattle.hq_laws_copy.proofs.Rows.Values.{filter_sort_length, rows_valid, rows_short, fits_at, fits_front, fits_all, fits_wider, small_number, number_fits, values_turn, sort_apart, apart_along, positions_apart, position_values}
use Rattle.hq_copy_definition.proofs.Apart.{Apart, differ_apart, apart_differ, apart_map, apart_on, apart_filter}
use Rattle.hq_copy_definition.proofs.Lists.{each_at, map_length, got_within, each_member, each_none, each_of, all_each, each_both}
use Rattle.hq_copy_definition.proofs.Places.{places_length}

-- a value made a cell and a value again
value_back : (v : Val) → value_of (cell_of v) ≡ v
value_back val.Null = refl
value_back (val.Int n) = refl
value_back (val.Text t) = refl
value_back (val.Bool b) = refl

module _ (tables : List Table) (m : MetaTree) (session : Session) (d : List (List Row)) (fit : fits tables m ≡ true) (valid : is_database tables d ≡ true) where
  abbrev role : Role
  role = role_of session.role

  abbrev s : Schema
  s = schema_of tables m

  abbrev g : Grants
  g = grants_of session tables m

  abbrev v : View
  v = view s g d

  abbrev os : List Source
  os = sources role m

  -- fewer than 2 ^ 31 rows of each table are permitted
  few_permitted : (t : ℕ) → length (permitted s g d t) < 2 ^ 31
  few_permitted t =
      let less = filter_sort_length (keeps (grant g t).filter s (all_of s d) t) (columns_cmp (table s t).key) (table_rows d t) in
      let few = rows_short tables d t valid in
      omega (arith, less, few)

  few_seen : (t : ℕ) → length ((seen_in v).rows t) < 2 ^ 31
  few_seen t = let few = few_permitted t in omega (arith, few, ap length (seen_positions s g d t), places_length 0 (permitted s g d t))

  -- the parts of valid rows
  rows_of_table : (o : Source) (h : Held tables m role o) → are_rows h.origin (table_rows d o.entry.table) ≡ true
  rows_of_table o h = rows_valid tables d o.entry.table h.origin valid h.stands

  permitted_fit : (o : Source) (h : Held tables m role o) → Each (λ x. row_fits (table s o.entry.table).columns x ≡ true) (permitted s g d o.entry.table)
  permitted_fit o h =
      let t : ℕ = o.entry.table in
      let fitting : Each (λ x. row_fits h.origin.columns x ≡ true) (table_rows d t) =
      each_of (row_fits h.origin.columns) (table_rows d t) (and_parts _ _ (and_parts _ _ (rows_of_table o h)).0).1 in
      subst (λ cs. Each (λ x. row_fits cs x ≡ true) (permitted s g d t)) (sym (ap (λ x. x.columns) h.table_is))
      (each_filter (λ x. row_fits h.origin.columns x ≡ true) (keeps (grant g t).filter s (all_of s d) t) (by_key s d t)
      (each_sort (columns_cmp (table s t).key) (λ x. row_fits h.origin.columns x ≡ true) (table_rows d t) fitting))

  keys_differ : (o : Source) (h : Held tables m role o) → Apart (λ x y. same_values (key_of h.origin x) (key_of h.origin y)) (permitted s g d o.entry.table)
  keys_differ o h =
      let t : ℕ = o.entry.table in
      let same : Row → Row → Bool = λ x y. same_values (key_of h.origin x) (key_of h.origin y) in
      apart_filter same (keeps (grant g t).filter s (all_of s d) t) (by_key s d t)
      (sort_apart same (λ x y. values_turn (key_of h.origin x) (key_of h.origin y)) (columns_cmp (table s t).key) (table_rows d t)
      (differ_apart same (table_rows d t) (and_parts _ _ (rows_of_table o h)).1))

  module _ (none : NotRefused role m s session.vars (seen_in v)) where
    -- ---- values that fit

    -- the value of a permitted column
    shown_fits : (o : Source) (h : Held tables m role o) → (i : ℕ) (x : Row) → slice_get (permitted s g d o.entry.table) i ≡ Some x → (c : ℕ) → HasColumn s o.entry.table c
        → list_any (λ k. k == c) o.permission.columns ≡ true
        → value_fits (copied_column s o.permission o.entry.table c) (value_of ((seen_in v).cell o.entry.table i c)) ≡ true
    shown_fits o h i x at c has member =
        let t : ℕ = o.entry.table in
        let w : Val = slice_index_or x c val.Null in
        let e = mask_of (grant g t).masks c in
        let new : Column = copied_column s o.permission t c in
        let fitting : value_fits (column s t c) w ≡ true =
        fits_at (table s t).columns x c (column s t c) (each_at (λ x. row_fits (table s t).columns x ≡ true) (permitted s g d t) i x (permitted_fit o h) at) (column_there s t c has) in
        let masked : has_mask (grant g t) c ≡ has_mask o.permission c =
        ap (λ p. has_mask p c) (granted_is tables m session d fit none o h.is) ∙ (kept_is tables m session d fit none o h.is).masked c in
        let hidden : (b : Bool) → has_mask o.permission c ≡ b → keeps e s (all_of s d) t x ≡ false → ((column s t c).nullable || has_mask o.permission c) ≡ true =
        elim [
          | true ↦ λ f k. or_right (column s t c).nullable (has_mask o.permission c) f
          | false ↦ λ f k. absurd (false≢true (sym k ∙ ap (λ a. keeps a s (all_of s d) t x) (no_mask (grant g t).masks c (masked ∙ f))))
        ] in
        let go : (b : Bool) → keeps e s (all_of s d) t x ≡ b → value_fits new (value_of (cond b (cell_of w) null)) ≡ true =
        elim [
          | true ↦ λ k. ap (value_fits new) (value_back w) ∙ fits_wider (column s t c).name (column s t c) (has_mask o.permission c) w fitting
          | false ↦ λ k. hidden (has_mask o.permission c) refl k
        ] in
        ap (λ a. value_fits new (value_of a)) (seen_cell s g d t c i x (granted_column tables m session d fit none o h.is c member) at) ∙ go (keeps e s (all_of s d) t x) refl

    -- the value of an added column
    added_fits : (i : ℕ) → i < 2 ^ 31 → (e : Extra) → value_fits (extra_column e) (extra_value s (seen_in v) i e) ≡ true
    added_fits i small (from_end k l) = number_fits (extra_name (from_end k l)) ((seen_in v).linked l.table l.relationship i) ((seen_in v).rows (link_remote s l)) (few_seen (link_remote s l))
    added_fits i small (to_end k l) =
        number_fits (extra_name (to_end k l)) (λ z. list_any (λ x. (seen_in v).linked l.table l.relationship x i && (seen_in v).linked l.table l.relationship x z) ((seen_in v).rows l.table))
        ((seen_in v).rows (link_remote s l)) (few_seen (link_remote s l))
    added_fits i small row_position = small_number (suc i) (omega arith)

    row_fits_copy : (o : Source) → Held tables m role o → (i : ℕ) (x : Row) → slice_get (permitted s g d o.entry.table) i ≡ Some x → i < 2 ^ 31
        → row_fits (copied_columns role m s o) (copied_row role m s (seen_in v) o i) ≡ true
    row_fits_copy o h i x at small =
        let p : Permission = o.permission in
        let t : ℕ = o.entry.table in
        let es : List Extra = extras_of role m s o in
        fits_front (copied_column s p t) (λ c. value_of ((seen_in v).cell t i c)) p.columns (map extra_column es) (map (extra_value s (seen_in v) i) es)
        (each_both (HasColumn s t) (λ c. list_any (λ k. k == c) p.columns ≡ true) _ (λ c a b. shown_fits o h i x at c a b) p.columns h.allowed.columns (each_member p.columns))
        (fits_all extra_column (extra_value s (seen_in v) i) es (each_all _ (added_fits i small) es))

    -- ---- rows

    -- a permitted row and the row of the copy
    abbrev RowOf : Source → Row → Row → Type 0
    RowOf o x y = (i : ℕ) × (slice_get (permitted s g d o.entry.table) i ≡ Some x) × (y ≡ copied_row role m s (seen_in v) o i)

    zipped : (o : Source) → Zip (RowOf o) (permitted s g d o.entry.table) (map (copied_row role m s (seen_in v) o) (places 0 (permitted s g d o.entry.table)))
    zipped o =
        let row : ℕ → Row = copied_row role m s (seen_in v) o in
        let xs : List Row = permitted s g d o.entry.table in
        subst (λ l. Zip (RowOf o) l (map row (places 0 xs))) (map_itself xs)
        (zip_images (λ x i. slice_get xs i ≡ Some x) (RowOf o) (λ x. x) row (λ x i a. (i, a, refl)) xs (places 0 xs)
        (placed_places xs xs 0 (λ j. let zeroth : 0 + j ≡ j = omega arith in ap (slice_get xs) zeroth)))

    each_row : (P : Row → Type 0) (o : Source) → ((i : ℕ) (x : Row) → slice_get (permitted s g d o.entry.table) i ≡ Some x → P (copied_row role m s (seen_in v) o i)) → (xs ys : List Row)
        → Zip (RowOf o) xs ys → Each P ys
    each_row P o f [] [] z = tt
    each_row P o f [] (y ∷ ys) z = absurd z
    each_row P o f (x ∷ xs) [] z = absurd z
    each_row P o f (x ∷ xs) (y ∷ ys) z = let q = z.0 in (subst P (sym q.2) (f q.0 x q.1), each_row P o f xs ys z.1)

    rows_fit : (o : Source) → Held tables m role o → Each (λ y. row_fits (copied_columns role m s o) y ≡ true) (map (copied_row role m s (seen_in v) o) (places 0 (permitted s g d o.entry.table)))
    rows_fit o h =
        each_row _ o (λ i x at. let few = few_permitted o.entry.table in let inside = got_within (permitted s g d o.entry.table) i x at in row_fits_copy o h i x at (omega (arith, few, inside)))
        (permitted s g d o.entry.table) _ (zipped o)

    -- ---- keys

    -- where the key is kept, the row of the copy has its values
    key_values : (o : Source) → Held tables m role o → (cs : List ℕ) → Each (λ c. (list_any (λ k. k == c) o.permission.columns ≡ true) × (has_mask o.permission c ≡ false)) cs → (x y : Row)
        → RowOf o x y
        → map (λ c. slice_index_or y c val.Null) (map (place_in o.permission.columns) cs) ≡ map (λ c. slice_index_or x c val.Null) cs
    key_values o h [] k x y q = refl
    key_values o h (c ∷ cs) k x y q =
        let t : ℕ = o.entry.table in
        let i : ℕ = q.0 in
        let w : Val = slice_index_or x c val.Null in
        let plain : has_mask (grant g t) c ≡ false = ap (λ p. has_mask p c) (granted_is tables m session d fit none o h.is) ∙ (kept_is tables m session d fit none o h.is).masked c ∙ k.0.1 in
        let here : slice_index_or y (place_in o.permission.columns c) val.Null ≡ w =
        ap (λ r. slice_index_or r (place_in o.permission.columns c) val.Null) q.2
        ∙ permitted_value role m s (seen_in v) o i c k.0.0
        ∙ ap value_of (seen_cell s g d t c i x (granted_column tables m session d fit none o h.is c k.0.0) q.1
        ∙ ap (λ e. cond (keeps e s (all_of s d) t x) (cell_of w) null) (no_mask (grant g t).masks c plain))
        ∙ value_back w in
        ap₂ (λ a l. a ∷ l) here (key_values o h cs k.1 x y q)

    copied_keys_differ : (o : Source) → Held tables m role o
        → Apart (λ x y. same_values (key_of (copied_table role m s o) x) (key_of (copied_table role m s o) y)) (map (copied_row role m s (seen_in v) o) (places 0 (permitted s g d o.entry.table)))
    copied_keys_differ o h =
        let t : ℕ = o.entry.table in
        let p : Permission = o.permission in
        let key : List ℕ = (table s t).key in
        let f : ℕ → ℕ = place_in p.columns in
        let row : ℕ → Row = copied_row role m s (seen_in v) o in
        let xs : List Row = permitted s g d t in
        let q : ℕ = length p.columns + length (ends_of role m s t) in
        let values : List ℕ → Row → List Val = λ cs r. map (λ c. slice_index_or r c val.Null) cs in
        let go : (b : Bool) → keeps_key p key ≡ b → Apart (λ x y. same_values (values (cond b (map f key) (q ∷ [])) x) (values (cond b (map f key) (q ∷ [])) y)) (map row (places 0 xs)) =
        elim [
          | true ↦ λ kept.
              let shows : Each (λ c. (list_any (λ k. k == c) p.columns ≡ true) × (has_mask p c ≡ false)) key =
              each_both (λ c. list_any (λ k. k == c) p.columns ≡ true) (λ c. has_mask p c ≡ false) _ (λ c a b. (a, b)) key
              (each_of (λ c. list_any (λ k. k == c) p.columns) key kept) (each_none (has_mask p) key (key_shows tables m session d fit none o h.is kept)) in
              apart_along (RowOf o) (λ x y. same_values (values key x) (values key y)) (λ x y. same_values (values (map f key) x) (values (map f key) y))
              (λ x y u w a b. ap₂ same_values (sym (key_values o h key shows x y a)) (sym (key_values o h key shows u w b))) xs (map row (places 0 xs)) (zipped o)
              (subst (λ k. Apart (λ x y. same_values (values k x) (values k y)) xs) (sym (ap (λ x. x.key) h.table_is)) (keys_differ o h))
          | false ↦ λ lost.
              apart_map (λ x y. same_values (values (q ∷ []) x) (values (q ∷ []) y)) row (places 0 xs)
              (apart_on (λ i. Unit {0}) (λ i j. i == j) (λ i j. same_values (values (q ∷ []) (row i)) (values (q ∷ []) (row j)))
              (λ i j a b e. ap₂ (λ x y. same_values (x ∷ []) (y ∷ [])) (position_value role m s (seen_in v) o i lost) (position_value role m s (seen_in v) o j lost) ∙ position_values i j e)
              (places 0 xs) (each_all _ (λ i. tt) (places 0 xs)) (positions_apart 0 xs))
        ] in
        go (keeps_key p key) refl

    -- ---- the whole

    table_rows_valid : (o : Source) → Held tables m role o → are_rows (copied_table role m s o) (rows_of role m s (seen_in v) o) ≡ true
    table_rows_valid o h =
        let t : ℕ = o.entry.table in
        let row : ℕ → Row = copied_row role m s (seen_in v) o in
        let ys : List Row = map row (places 0 (permitted s g d t)) in
        let same : Row → Row → Bool = λ x y. same_values (key_of (copied_table role m s o) x) (key_of (copied_table role m s o) y) in
        let few = few_permitted t in
        let long : length ys ≡ length (permitted s g d t) = map_length row (places 0 (permitted s g d t)) ∙ places_length 0 (permitted s g d t) in
        ap (are_rows (copied_table role m s o)) (ap (map row) (seen_positions s g d t))
        ∙ and_from _ _ (and_from _ _ (lt-ltb (length ys) (2 ^ 31) (omega (arith, few, long))) (all_each (row_fits (copied_table role m s o).columns) ys (rows_fit o h)))
        (apart_differ same ys (copied_keys_differ o h))

    database_of : (xs : List Source) → Each (λ o. are_rows (copied_table role m s o) (rows_of role m s (seen_in v) o) ≡ true) xs
        → is_database (map (copied_table role m s) xs) (map (rows_of role m s (seen_in v)) xs) ≡ true
    database_of [] h = refl
    database_of (o ∷ xs) h =
        and_from (are_rows (copied_table role m s o) (rows_of role m s (seen_in v) o)) (is_database (map (copied_table role m s) xs) (map (rows_of role m s (seen_in v)) xs)) h.0
        (database_of xs h.1)

    pub rows_are_valid : is_database (copied_tables role m s) (copied_rows role m s v) ≡ true
    rows_are_valid = database_of os (each_weaken (Held tables m role) _ table_rows_valid os (all_held tables m role fit))
