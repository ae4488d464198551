-- The copy of a view is a copy of it, for what the role may use.
use Rattle.std.proofs.Common.{◌≡◌, ℕ, ◌+◌, ◌<◌, List, [], ◌∷◌, map, length, Bool, true, false, cond, ◌&&◌, ◌==◌, Option, Some, None, Ok, refl, sym, ap, ap₂, ◌∙◌, subst, arith}
use Rattle.std.proofs.lemmas.Bool.{and_parts, and_from, or_parts}
use Rattle.std.specs.List.{list_any}
use Rattle.std.specs.Prelude.{option_map, slice_get, slice_index_or, unwrap_or}
use Rattle.hq_base.specs.Cells.{cell_of}
use Rattle.hq_base.specs.declared.value.Val.TheVariants as val
use Rattle.hq_base.specs.Lists.{Each, Zip, Ascends}
use Rattle.hq_base.proofs.Lists.{map_itself}
use Rattle.hq_base.proofs.Zips.{zip_images}
use Rattle.hq_model.specs.Binding.{bound_permission}
use Rattle.hq_model.specs.Database.{Row}
use Rattle.hq_model.specs.Fits.{fits}
use Rattle.hq_model.specs.Grants.{Grants, grants_of, grant, no_grant, limits}
use Rattle.hq_model.specs.Meta.{MetaTree}
use Rattle.hq_model.specs.Permission.{Permission, permission, role_of}
use Rattle.hq_model.specs.Permitted.{columns_cmp, permitted, shown_under, shown}
use Rattle.hq_model.specs.Schema.{Schema, schema_of, table, rel, no_rel}
use Rattle.hq_model.specs.Seen.{row_cell, linked_by, table_rows}
use Rattle.hq_model.specs.View.{View, view, view_rows, seen_in}
use Rattle.hq_model.specs.declared.role.Role.{Role}
use Rattle.hq_model.specs.declared.session.Session.{Session}
use Rattle.hq_model.specs.declared.table.Table.{Table}
use Rattle.hq_model.proofs.Permitting.{permission_fits}
use Rattle.hq_model.proofs.Places.{at_0, present}
use Rattle.hq_request_tree.specs.Allowed.{Allowed, allowed_to, permitted_columns}
use Rattle.hq_request_tree.specs.Uses.{UsesColumns}
use Rattle.hq_copy_definition.specs.Copied.{copy_of}
use Rattle.hq_copy_definition.specs.Extras.{ends_of}
use Rattle.hq_copy_definition.specs.Metadata.{places, copied_meta, copied_pair, copied_rel}
use Rattle.hq_copy_definition.specs.Refusals.{filter_refusal, masked_key_refusal}
use Rattle.hq_copy_definition.specs.Rows.{value_of, copied_row, rows_of, copied_rows}
use Rattle.hq_copy_definition.specs.Sources.{Source, sources, table_place, place_in, kept_relationships, keeps_key, has_mask}
use Rattle.hq_copy_definition.specs.Tables.{copied_key, copied_table, copied_tables}
use Rattle.hq_copy_definition.proofs.BySource.{IsSource, by_source}
use Rattle.hq_copy_definition.proofs.Found.{copied_schema, table_at, rels_at}
use Rattle.hq_copy_definition.proofs.Places.{place_holds}
use Rattle.hq_copy_definition.proofs.Reader.{reads, reader_sees}
use Rattle.hq_laws_renumbered.specs.Resolving.Copies.{StandsAt, IsCopy, LimitsAlike}
use Rattle.hq_laws_renumbered.specs.Resolving.Renumbering.{Renumbering, columns_over}
use Rattle.hq_laws_copy.specs.Views.Laws.{numbers, reader_session, reader_grants}
use Rattle.hq_laws_copy.proofs.Views.Cells.{permitted_cell, position_cell, shown_value, numbers_as_cells}
use Rattle.hq_laws_copy.proofs.Views.Granted.{granted_there, KeptBound, kept_bound}
use Rattle.hq_laws_copy.proofs.Views.Numbers.{kept_relationship}
use Rattle.hq_laws_copy.proofs.Views.Order.{ascends_image, ascends_places, placed_places, positions_ascend, shows_all, columns_agree, permitted_ascend, all_permitted}
use Rattle.hq_laws_copy.proofs.Views.Refused.{NotRefused, not_refused, binds}
use Rattle.hq_laws_copy.proofs.Views.Viewed.{seen_rows, seen_cell, seen_positions, view_numbered, among_positions}
use Rattle.hq_copy_definition.proofs.Found.{schema_long}
use Rattle.hq_copy_definition.proofs.Lists.{got_map, each_at, map_length, got_within}
use Rattle.hq_copy_definition.proofs.Places.{places_length}

-- a permission that is there
permitted_is : (o : Option Permission) (p : Permission) (c : ℕ) → o ≡ Some p → list_any (λ d. d == c) (permitted_columns o) ≡ true → list_any (λ d. d == c) p.columns ≡ true
permitted_is o p c e h = ap (λ q. list_any (λ d. d == c) (permitted_columns q)) (sym e) ∙ h

module _ (tables : List Table) (m : MetaTree) (session : Session) (d : List (List Row)) (fit : fits tables m ≡ true) where
  abbrev role : Role
  role = role_of session.role

  abbrev s : Schema
  s = schema_of tables m

  abbrev g : Grants
  g = grants_of session tables m

  abbrev v : View
  v = view s g d

  abbrev ok : Allowed
  ok = allowed_to role m s

  abbrev n : Renumbering
  n = numbers role m s

  abbrev z : Schema
  z = copied_schema role m s

  abbrev h : Grants
  h = reader_grants (copy_of tables m session v)

  abbrev e : List (List Row)
  e = copied_rows role m s v

  -- where a copied table stands
  abbrev at : Source → ℕ
  at o = table_place (sources role m) o.entry.table

  module _ (none : NotRefused role m s session.vars (seen_in v)) where
    -- ---- what is granted

    -- the bound permission of a source
    pub bound_of : (o : Source) → IsSource role m o → (q : Permission) × (bound_permission o.permission s session.vars o.entry.table ≡ Ok q)
    bound_of o is = binds (bound_permission o.permission s session.vars o.entry.table) (each_at (λ o. filter_refusal s session.vars o ≡ None) (sources role m) (at o) o none.bind is.place)

    there : (o : Source) → IsSource role m o → o.entry.table < length s
    there o is = (permission_fits tables m role o.entry.table fit o.permission is.seen).there

    pub granted_is : (o : Source) (is : IsSource role m o) → grant g o.entry.table ≡ (bound_of o is).0
    granted_is o is =
        let b = bound_of o is in
        ap (λ p. unwrap_or p no_grant) (granted_there session tables m o.entry.table o.permission b.0 (there o is) is.seen b.1)

    pub kept_is : (o : Source) (is : IsSource role m o) → KeptBound o.permission (bound_of o is).0
    kept_is o is = let b = bound_of o is in kept_bound o.permission b.0 s session.vars o.entry.table b.1

    -- what the reader is granted of its copy
    reader_is : (o : Source) → IsSource role m o → grant h (at o) ≡ reads o.permission
    reader_is o is =
        let inside : at o < length z =
        omega (arith, got_within (sources role m) (at o) o is.place, schema_long (copied_meta role m s) 0 (copied_tables role m s), map_length (copied_table role m s) (sources role m)) in
        ap (λ p. unwrap_or p no_grant) (granted_there reader_session (copied_tables role m s) (copied_meta role m s) (at o) (reads o.permission) (reads o.permission) inside
        (reader_sees role m s o is.columns (at o) is.place) refl)

    -- ---- rows

    -- the rows of a copied table
    rows_are : (o : Source) → IsSource role m o → table_rows e (at o) ≡ map (copied_row role m s (seen_in v) o) (places 0 (permitted s g d o.entry.table))
    rows_are o is =
        present e (at o) [] (rows_of role m s (seen_in v) o) (got_map (rows_of role m s (seen_in v)) (sources role m) (at o) ∙ ap (option_map (rows_of role m s (seen_in v))) is.place)
        ∙ ap (map (copied_row role m s (seen_in v) o)) (seen_positions s g d o.entry.table)

    -- the columns that are granted
    pub granted_column : (o : Source) → IsSource role m o → (c : ℕ) → list_any (λ k. k == c) o.permission.columns ≡ true → list_any (λ k. k == c) (grant g o.entry.table).columns ≡ true
    granted_column o is c a = ap (λ p. list_any (λ k. k == c) p.columns) (granted_is o is) ∙ ap (λ l. list_any (λ k. k == c) l) (kept_is o is).columns ∙ a

    -- the cell of a permitted column is the cell that is shown
    cell_is : (o : Source) → IsSource role m o → (c i : ℕ) (x : Row) → list_any (λ k. k == c) o.permission.columns ≡ true → slice_get (permitted s g d o.entry.table) i ≡ Some x
        → row_cell (copied_row role m s (seen_in v) o i) (place_in o.permission.columns c) ≡ shown s g d o.entry.table x c
    cell_is o is c i x a got =
        permitted_cell role m s (seen_in v) o i c a
        ∙ ap (λ w. cell_of (value_of w)) (seen_cell s g d o.entry.table c i x (granted_column o is c a) got)
        ∙ shown_value _ (slice_index_or x c val.Null)

    -- where the key is kept, its columns are permitted and have no masks
    pub key_shows : (o : Source) → IsSource role m o → keeps_key o.permission (table s o.entry.table).key ≡ true → list_any (has_mask o.permission) (table s o.entry.table).key ≡ false
    key_shows o is kept =
        let refused = not_refused _ _ (each_at (λ o. masked_key_refusal role m s o ≡ None) (sources role m) (at o) o none.keys is.place) in
        sym (ap (λ b. b && list_any (has_mask o.permission) (table s o.entry.table).key) kept) ∙ refused

    -- a permitted row and the row of the copy that stands at its position
    abbrev RowOf : Source → Row → Row → Type 0
    RowOf o x y = (i : ℕ) × (slice_get (permitted s g d o.entry.table) i ≡ Some x) × (y ≡ copied_row role m s (seen_in v) o i)

    -- both show the same cell in an unmasked column
    same_shown : (o : Source) → IsSource role m o → (c : ℕ) (x y : Row) → list_any (λ k. k == c) o.permission.columns ≡ true → has_mask o.permission c ≡ false → RowOf o x y
        → row_cell x c ≡ row_cell y (place_in o.permission.columns c)
    same_shown o is c x y a plain q =
        let unmasked : has_mask (grant g o.entry.table) c ≡ false = ap (λ p. has_mask p c) (granted_is o is) ∙ (kept_is o is).masked c ∙ plain in
        sym (ap (λ w. row_cell w (place_in o.permission.columns c)) q.2 ∙ cell_is o is c q.0 x a q.1 ∙ shows_all (grant g o.entry.table) s d o.entry.table x c unmasked)

    -- so they compare alike by the key
    key_agrees : (o : Source) → IsSource role m o → (cs : List ℕ) → keeps_key o.permission cs ≡ true → list_any (has_mask o.permission) cs ≡ false
        → (x y u w : Row) → RowOf o x y → RowOf o u w → Each (λ c. (row_cell x c ≡ row_cell y (place_in o.permission.columns c)) × (row_cell u c ≡ row_cell w (place_in o.permission.columns c))) cs
    key_agrees o is [] kept plain x y u w q r = tt
    key_agrees o is (c ∷ cs) kept plain x y u w q r =
        let both = and_parts (list_any (λ k. k == c) o.permission.columns) (keeps_key o.permission cs) kept in
        let unmasked = or_parts (has_mask o.permission c) (list_any (has_mask o.permission) cs) plain in
        ((same_shown o is c x y both.0 unmasked.0 q, same_shown o is c u w both.0 unmasked.0 r), key_agrees o is cs both.1 unmasked.1 x y u w q r)

    -- the rows of the copy ascend by its key
    rows_ascend : (o : Source) → IsSource role m o → Ascends (columns_cmp (copied_key role m s o)) (map (copied_row role m s (seen_in v) o) (places 0 (permitted s g d o.entry.table)))
    rows_ascend o is =
        let t : ℕ = o.entry.table in
        let key : List ℕ = (table s t).key in
        let f : ℕ → ℕ = place_in o.permission.columns in
        let row : ℕ → Row = copied_row role m s (seen_in v) o in
        let xs : List Row = permitted s g d t in
        let q : ℕ = length o.permission.columns + length (ends_of role m s t) in
        let zipped : Zip (RowOf o) xs (map row (places 0 xs)) =
        subst (λ l. Zip (RowOf o) l (map row (places 0 xs))) (map_itself xs)
        (zip_images (λ x i. slice_get xs i ≡ Some x) (RowOf o) (λ x. x) row (λ x i a. (i, a, refl)) xs (places 0 xs)
        (placed_places xs xs 0 (λ j. let zeroth : 0 + j ≡ j = omega arith in ap (slice_get xs) zeroth))) in
        let go : (b : Bool) → keeps_key o.permission key ≡ b → Ascends (columns_cmp (cond b (map f key) (q ∷ []))) (map row (places 0 xs)) =
        elim [
          | true ↦ λ kept. ascends_image (RowOf o) (columns_cmp key) (columns_cmp (map f key))
              (λ x y u w a b. columns_agree f x y u w key (key_agrees o is key kept (key_shows o is kept) x y u w a b)) xs (map row (places 0 xs)) zipped (permitted_ascend s g d t)
          | false ↦ λ lost. ascends_places (columns_cmp (q ∷ [])) row
              (λ i j less. positions_ascend q i j (row i) (row j) (position_cell role m s (seen_in v) o i lost) (position_cell role m s (seen_in v) o j lost) less) 0 xs
        ] in
        go (keeps_key o.permission key) refl

    -- the rows that the reader may see: all, in their order
    reader_rows : (o : Source) → IsSource role m o → permitted z h e (at o) ≡ map (copied_row role m s (seen_in v) o) (places 0 (permitted s g d o.entry.table))
    reader_rows o is =
        all_permitted z h e (at o) (ap (λ p. p.filter) (reader_is o is))
        (subst (λ k. Ascends (columns_cmp k) (table_rows e (at o))) (sym (ap (λ x. x.key) (table_at role m s (at o) o is.place)))
        (subst (Ascends (columns_cmp (copied_key role m s o))) (sym (rows_are o is)) (rows_ascend o is)))
        ∙ rows_are o is

    -- a row of the copy stands at the position of the row that it is made of
    row_is : (o : Source) → IsSource role m o → (i : ℕ) (row : Row) → slice_get (permitted z h e (at o)) i ≡ Some row
        → (x : Row) × (slice_get (permitted s g d o.entry.table) i ≡ Some x) × (row ≡ copied_row role m s (seen_in v) o i)
    row_is o is i row got =
        let xs : List Row = permitted s g d o.entry.table in
        let f : ℕ → Row = copied_row role m s (seen_in v) o in
        let here : option_map f (option_map (λ x. i) (slice_get xs i)) ≡ Some row =
        sym (ap (λ l. slice_get l i) (reader_rows o is) ∙ got_map f (places 0 xs) i ∙ ap (option_map f) (at_0 (λ j x. j) xs i)) ∙ got in
        let go : (w : Option Row) → slice_get xs i ≡ w → option_map f (option_map (λ x. i) w) ≡ Some row → (x : Row) × (slice_get xs i ≡ Some x) × (row ≡ f i) =
        elim [ None ↦ λ a b. cc | Some x ↦ λ a b. let same : f i ≡ row = cc in (x, a, sym same) ] in
        go (slice_get xs i) refl here

    -- ---- what makes it a copy

    counts_are : (o : Source) → IsSource role m o → length (view_rows v o.entry.table) ≡ length (permitted z h e (at o))
    counts_are o is =
        ap length (seen_rows s g d o.entry.table) ∙ map_length _ (permitted s g d o.entry.table)
        ∙ sym (ap length (reader_rows o is) ∙ map_length (copied_row role m s (seen_in v) o) (places 0 (permitted s g d o.entry.table)) ∙ places_length 0 (permitted s g d o.entry.table))

    cells_are : (o : Source) → IsSource role m o → (c i : ℕ) (row : Row) → ok.column o.entry.table c ≡ true → slice_get (permitted z h e (at o)) i ≡ Some row
        → (seen_in v).cell o.entry.table i c ≡ shown z h e (at o) row (n.column o.entry.table c)
    cells_are o is c i row a got =
        let r = row_is o is i row got in
        let here : list_any (λ k. k == c) o.permission.columns ≡ true = permitted_is (permission role m o.entry.table) o.permission c is.seen a in
        seen_cell s g d o.entry.table c i r.0 (granted_column o is c here) r.1
        ∙ sym (cell_is o is c i r.0 here r.1)
        ∙ sym (ap (λ p. shown_under p z e (at o) row (n.column o.entry.table c)) (reader_is o is)
        ∙ ap (λ w. row_cell w (n.column o.entry.table c)) r.2
        ∙ ap (λ p. row_cell (copied_row role m s (seen_in v) o i) (place_in (permitted_columns p) c)) is.seen)

    -- the relationship of the copy
    rel_is : (o : Source) → IsSource role m o → (r : ℕ) → list_any (λ q. q == r) (kept_relationships role m s o.entry.table) ≡ true
        → rel z (at o) (n.relationship o.entry.table r) ≡ copied_rel role m s o.entry.table r
    rel_is o is r kept =
        let qs : List ℕ = kept_relationships role m s o.entry.table in
        ap (λ l. slice_index_or l (place_in qs r) no_rel) (rels_at role m s (at o) o is.place)
        ∙ present (map (copied_rel role m s o.entry.table) qs) (place_in qs r) no_rel (copied_rel role m s o.entry.table r)
        (got_map (copied_rel role m s o.entry.table) qs (place_in qs r) ∙ ap (option_map (copied_rel role m s o.entry.table)) (place_holds qs r kept))

    links_are : (o : Source) → IsSource role m o → (r : ℕ) → ok.relationship o.entry.table r ≡ true → (w : Source) → IsSource role m w → w.entry.table ≡ (rel s o.entry.table r).remote
        → (i j : ℕ) (row far : Row) → slice_get (permitted z h e (at o)) i ≡ Some row → slice_get (permitted z h e (at w)) j ≡ Some far
        → (seen_in v).linked o.entry.table r i j ≡ linked_by (rel z (at o) (n.relationship o.entry.table r)).pairs row far
    links_are o is r a w isw remote i j row far got gotw =
        let t : ℕ = o.entry.table in
        let x = row_is o is i row got in
        let y = row_is w isw j far gotw in
        let kept = kept_relationship role m s t r a in
        let there = and_parts _ _ a in
        let gotfar : slice_get (permitted s g d (rel s t r).remote) j ≡ Some y.0 = subst (λ u. slice_get (permitted s g d u) j ≡ Some y.0) remote y.1 in
        sym (view_numbered s g d t r there.0 i j (among_positions s g d t i x.0 x.1) (among_positions s g d (rel s t r).remote j y.0 gotfar))
        ∙ sym (numbers_as_cells role m s (seen_in v) o is r kept w isw (sym remote) i j)
        ∙ ap₂ (linked_by (copied_pair role m s t r ∷ [])) (sym x.2) (sym y.2)
        ∙ ap (λ k. linked_by k.pairs row far) (sym (rel_is o is r kept))

    keys_are : (o : Source) → IsSource role m o → UsesColumns (table s o.entry.table).key ok o.entry.table → (table z (at o)).key ≡ columns_over (table s o.entry.table).key n o.entry.table
    keys_are o is used =
        let key : List ℕ = (table s o.entry.table).key in
        let kept : keeps_key o.permission key ≡ true = all_kept key used in
        ap (λ x. x.key) (table_at role m s (at o) o is.place)
        ∙ ap (λ b. cond b (map (place_in o.permission.columns) key) ((length o.permission.columns + length (ends_of role m s o.entry.table)) ∷ [])) kept
        ∙ ap (λ p. map (place_in (permitted_columns p)) key) (sym is.seen)
      where
        all_kept : (cs : List ℕ) → UsesColumns cs ok o.entry.table → keeps_key o.permission cs ≡ true
        all_kept [] u = refl
        all_kept (c ∷ cs) u = and_from _ _ (permitted_is (permission role m o.entry.table) o.permission c is.seen u.0) (all_kept cs u.1)

    pub is_copy : IsCopy s z n v ok h e
    is_copy = record {
      counts = by_source role m (λ t. length (view_rows v t) ≡ length (permitted z h e (n.table t))) counts_are;
      cells =
          λ t c i row a q. by_source role m (λ u. ok.column u c ≡ true → slice_get (permitted z h e (n.table u)) i ≡ Some row → (seen_in v).cell u i c ≡ shown z h e (n.table u) row (n.column u c))
          (λ o is b got. cells_are o is c i row b got) t q.0 a q.1;
      links = λ t r i row j far a q k.
          by_source role m
          (λ u. ok.relationship u r ≡ true → slice_get (permitted z h e (n.table u)) i ≡ Some row → StandsAt z n ok h e (rel s u r).remote j far
          → (seen_in v).linked u r i j ≡ linked_by (rel z (n.table u) (n.relationship u r)).pairs row far)
          (λ o is b got w. by_source role m
          (λ u. u ≡ (rel s o.entry.table r).remote → slice_get (permitted z h e (n.table u)) j ≡ Some far → (seen_in v).linked o.entry.table r i j ≡ linked_by
          (rel z (at o) (n.relationship o.entry.table r)).pairs row far)
          (λ x isx same gotx. links_are o is r b x isx same i j row far got gotx) (rel s o.entry.table r).remote w.0 refl w.1)
          t q.0 a q.1 k;
      remotes = λ t r a. (and_parts _ _ a).1;
      leads = λ t r q a. by_source role m (λ u. ok.relationship u r ≡ true → (rel z (n.table u) (n.relationship u r)).remote ≡ n.table (rel s u r).remote)
          (λ o is b. ap (λ k. k.remote) (rel_is o is r (kept_relationship role m s o.entry.table r b))) t q a;
      keys = λ t q u. by_source role m (λ w. UsesColumns (table s w).key ok w → (table z (n.table w)).key ≡ columns_over (table s w).key n w) keys_are t q u;
    }

    -- the same limits
    pub limits_are : LimitsAlike n ok (limits g) h
    limits_are = by_source role m (λ t. limits g t ≡ limits h (n.table t))
        (λ o is. ap (λ p. p.limit) (granted_is o is) ∙ (kept_is o is).limit ∙ sym (ap (λ p. p.limit) (reader_is o is)))
