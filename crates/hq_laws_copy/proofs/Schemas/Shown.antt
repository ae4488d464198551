-- What a copy's reader sees of its tables is what the role sees of the original's, in other numbers.
use Rattle.std.proofs.Common.{◌≡◌, ℕ, zero, suc, ◌+◌, List, [], ◌∷◌, map, length, Bool, true, false, cond, not, ◌&&◌, ◌||◌, ◌==◌, Option, Some, None, refl, sym, ap, ap₂, ◌∙◌, subst, arith, slice_get, is_some}
use Rattle.std.proofs.lemmas.Bool.{eq-eqb}
use Rattle.std.proofs.lemmas.Option.{slice_get-get_or}
use Rattle.std.specs.List.{cons_option, filter_map, list_all, list_any, position_or_len}
use Rattle.std.specs.Prelude.{option_and_then, option_map, slice_index_or}
use Rattle.hq_base.specs.Lists.{Each}
use Rattle.hq_base.proofs.Lists.{each_weaken}
use Rattle.hq_schema_of_role.specs.Shown.{is_masked, under_name, shown_columns, shown_key, shown_table, shown_entry, shown_tables}
use Rattle.hq_schema_of_role.specs.declared.shown.ShownColumn.{ShownColumn}
use Rattle.hq_schema_of_role.specs.declared.shown.ShownTable.{ShownTable}
use Rattle.hq_model.specs.Fits.{fits}
use Rattle.hq_model.specs.Laws.{HasColumn}
use Rattle.hq_model.specs.Meta.{MetaTree, TrackedTree}
use Rattle.hq_model.specs.Permission.{Mask, Permission, permission}
use Rattle.hq_model.specs.Schema.{Schema, schema_of, table, column, numbered}
use Rattle.hq_model.specs.SchemaNames.{scalar_of}
use Rattle.hq_model.specs.declared.meta.Rel.{Rel}
use Rattle.hq_model.specs.declared.role.Role.{Role}
use Rattle.hq_model.specs.declared.role.Role.TheVariants.{Named}
use Rattle.hq_model.specs.declared.table.Table.{Table}
use Rattle.hq_request_tree.specs.Allowed.{permitted_columns}
use Rattle.hq_copy_definition.specs.Extras.{ends_of, extras_of, extra_name, extra_column}
use Rattle.hq_copy_definition.specs.Metadata.{reader, places, copied_rel, copied_entry, copied_meta}
use Rattle.hq_copy_definition.specs.Sources.{Source, with_source, sources_in, sources, place_in, kept_relationships, keeps_key, has_mask}
use Rattle.hq_copy_definition.specs.Tables.{copied_column, copied_table, copied_tables}
use Rattle.hq_copy_definition.proofs.Apart.{Apart}
use Rattle.hq_copy_definition.proofs.Lists.{all_each, each_at, each_both, each_map, each_none, each_of, got_front, got_map, got_within}
use Rattle.hq_copy_definition.proofs.Places.{place_beyond, place_holds, place_within}
use Rattle.hq_copy_definition.proofs.Reader.{reader_sees}
use Rattle.hq_laws_renumbered.specs.Resolving.Renumbering.{Renumbering}
use Rattle.hq_laws_copy.specs.Views.Laws.{numbers}
use Rattle.hq_laws_copy.proofs.Fits.Columns.{column_there}
use Rattle.hq_laws_copy.proofs.Fits.Entries.{rels_are}
use Rattle.hq_laws_copy.proofs.Fits.Held.{Held, columns_apart, tables_differ, all_held}
use Rattle.hq_laws_copy.proofs.Schemas.Types.{column_over, columns_over, table_over}

-- ---- lists

-- what is given of items that are numbered from k on
given_numbered : {A B C : Type 0} (F : B → Option C) (f : ℕ → A → B) (G : A → Option C) (Q : A → Type 0) (zs : List A) → ((u : ℕ) (x : A) → slice_get zs u ≡ Some x → Q x → F (f u x) ≡ G x)
    → (k : ℕ) (xs : List A) → ((j : ℕ) → slice_get zs (k + j) ≡ slice_get xs j) → Each Q xs → filter_map F (numbered f k xs) ≡ filter_map G xs
given_numbered F f G Q zs on k [] at h = refl
given_numbered F f G Q zs on k (x ∷ xs) at h =
    let here : k + 0 ≡ k = omega arith in
    ap₂ cons_option (on k x (subst (λ i. slice_get zs i ≡ Some x) here (at 0)) h.0)
    (given_numbered F f G Q zs on (suc k) xs (λ j. let next : k + suc j ≡ suc k + j = omega arith in subst (λ i. slice_get zs i ≡ slice_get xs j) next (at (suc j))) h.1)

given_mapped : {A C D : Type 0} (k : C → D) (f : A → Option C) (xs : List A) → filter_map (λ x. option_map k (f x)) xs ≡ map k (filter_map f xs)
given_mapped k f [] = refl
given_mapped {A} {C} {D} k f (x ∷ xs) = ap (cons_option (option_map k (f x))) (given_mapped k f xs) ∙ joined (f x)
  where
    joined : (o : Option C) → cons_option (option_map k o) (map k (filter_map f xs)) ≡ map k (cons_option o (filter_map f xs))
    joined None = refl
    joined (Some y) = refl

given_images : {A B C : Type 0} (F : B → Option C) (f : A → B) (G : A → Option C) (xs : List A) → Each (λ x. F (f x) ≡ G x) xs → filter_map F (map f xs) ≡ filter_map G xs
given_images F f G [] h = refl
given_images F f G (x ∷ xs) h = ap₂ cons_option h.0 (given_images F f G xs h.1)

from_zero : {A : Type 0} (xs : List A) (j : ℕ) → slice_get xs (0 + j) ≡ slice_get xs j
from_zero xs j = let zeroth : 0 + j ≡ j = omega arith in ap (slice_get xs) zeroth

-- an item of different ones stands at its place
place_is : {A : Type 0} (key : A → ℕ) (xs : List A) → Apart (λ a b. key a == key b) xs → (u : ℕ) (x : A) → slice_get xs u ≡ Some x → position_or_len (λ y. key y == key x) xs ≡ u
place_is key [] h u x e = cc
place_is key (y ∷ ys) h zero x e =
    let same : y ≡ x = cc in
    let here : (key y == key x) ≡ true = eq-eqb (key y) (key x) (ap key same) in
    ap (λ b. cond (not b) (1 + position_or_len (λ z. key z == key x) ys) 0) here
place_is key (y ∷ ys) h (suc u) x e =
    let other : (key y == key x) ≡ false = each_at (λ z. (key y == key z) ≡ false) ys u x h.0 e in
    let rest = place_is key ys h.1 u x e in
    ap (λ b. cond (not b) (1 + position_or_len (λ z. key z == key x) ys) 0) other ∙ omega (arith, rest)

or_turn : (a b : Bool) → (false || (a || b)) ≡ (b || a)
or_turn true true = refl
or_turn true false = refl
or_turn false true = refl
or_turn false false = refl

-- ---- tables

module _ (tables : List Table) (m : MetaTree) (role : Role) (fit : fits tables m ≡ true) where
  abbrev s : Schema
  s = schema_of tables m

  abbrev os : List Source
  os = sources role m

  abbrev pub n : Renumbering
  n = numbers role m s

  -- the relationships of the copy of a table
  abbrev pub rels_over : ℕ → List Rel
  rels_over t = map (copied_rel role m s t) (kept_relationships role m s t)

  -- what the role sees of a source
  abbrev source_shown : Source → Option ShownTable
  source_shown o = option_map (λ x. shown_table o.entry x o.permission) (slice_get tables o.entry.table)

  shown_sources : (ks : List TrackedTree) → filter_map (shown_entry tables m role) ks ≡ filter_map source_shown (sources_in role m ks)
  shown_sources [] = refl
  shown_sources (k ∷ ks) =
      let later = shown_sources ks in
      let none : (w : Option Table) → option_and_then (λ t. option_map (shown_table k t) None) w ≡ None = elim [ None ↦ refl | Some t ↦ refl ] in
      let some : (p : Permission) (w : Option Table) → option_and_then (λ t. option_map (shown_table k t) (Some p)) w ≡ option_map (λ t. shown_table k t p) w =
      λ p. elim [ None ↦ refl | Some t ↦ refl ] in
      let go : (o : Option Permission) → cons_option (option_and_then (λ t. option_map (shown_table k t) o) (slice_get tables k.table)) (filter_map (shown_entry tables m role) ks)
      ≡ filter_map source_shown (with_source k o (sources_in role m ks)) =
      elim [
        | None ↦ ap (λ w. cons_option w (filter_map (shown_entry tables m role) ks)) (none (slice_get tables k.table)) ∙ later
        | Some p ↦ ap₂ cons_option (some p (slice_get tables k.table)) later
      ] in
      go (permission role m k.table)

  -- ---- columns

  -- a permitted column's place in the copy
  column_place : (o : Source) → Held tables m role o → (j c : ℕ) → slice_get o.permission.columns j ≡ Some c → n.column o.entry.table c ≡ j
  column_place o h j c e =
      ap (λ p. place_in (permitted_columns p) c) h.is.seen
      ∙ place_is (λ d. d) o.permission.columns (columns_apart tables m role o h) j c e

  -- its GraphQL name
  name_there : (o : Source) → Held tables m role o → (c : ℕ) → HasColumn s o.entry.table c → slice_get o.entry.column_names c ≡ Some (slice_index_or o.entry.column_names c [])
  name_there o h c has =
      let inside = got_within (table s o.entry.table).columns c (column s o.entry.table c) (column_there s o.entry.table c has) in
      let long = h.entry.long in
      slice_get-get_or o.entry.column_names c [] (omega (arith, inside, long))

  -- the column in the original
  own_column : (o : Source) (h : Held tables m role o) → (masks : List Mask) (c : ℕ) → HasColumn s o.entry.table c
      → under_name masks c (slice_get h.origin.columns c) (slice_get o.entry.column_names c)
      ≡ Some
      (record {
        name = slice_index_or o.entry.column_names c [];
        ty = (column s o.entry.table c).ty;
        scalar = scalar_of (column s o.entry.table c);
        nullable = is_masked masks c
            || (column s o.entry.table c).nullable;
        col = c;
      })
  own_column o h masks c has =
      ap₂ (under_name masks c) (ap (λ x. slice_get x.columns c) (sym h.table_is) ∙ column_there s o.entry.table c has) (name_there o h c has)

  -- the column in the copy, at a place where it stands
  there_column : (o : Source) → Held tables m role o → (u j c : ℕ) → slice_get o.permission.columns j ≡ Some c
      → under_name [] j (slice_get (copied_table role m s o).columns j) (slice_get (copied_entry role m s u o).column_names j)
      ≡ Some
      (record {
        name = slice_index_or o.entry.column_names c [];
        ty = (column s o.entry.table c).ty;
        scalar = scalar_of (column s o.entry.table c);
        nullable = (column s o.entry.table c).nullable
            || has_mask o.permission c;
        col = j;
      })
  there_column o h u j c e =
      ap₂ (under_name [] j)
      (got_front (map (copied_column s o.permission o.entry.table) o.permission.columns) (map extra_column (extras_of role m s o)) j (copied_column s o.permission o.entry.table c)
      (got_map (copied_column s o.permission o.entry.table) o.permission.columns j ∙ ap (option_map (copied_column s o.permission o.entry.table)) e))
      (got_front (map (λ d. slice_index_or o.entry.column_names d []) o.permission.columns) (map extra_name (extras_of role m s o)) j (slice_index_or o.entry.column_names c [])
      (got_map (λ d. slice_index_or o.entry.column_names d []) o.permission.columns j ∙ ap (option_map (λ d. slice_index_or o.entry.column_names d [])) e))

  -- one is the other renumbered, with these masks
  one_column : (o : Source) (h : Held tables m role o) → (u j c : ℕ) (masks : List Mask) → HasColumn s o.entry.table c → slice_get o.permission.columns j ≡ Some c
      → (is_masked masks c || (column s o.entry.table c).nullable) ≡ ((column s o.entry.table c).nullable || has_mask o.permission c)
      → under_name [] j (slice_get (copied_table role m s o).columns j) (slice_get (copied_entry role m s u o).column_names j)
      ≡ option_map (column_over n o.entry.table) (under_name masks c (slice_get h.origin.columns c) (slice_get o.entry.column_names c))
  one_column o h u j c masks has e same =
      there_column o h u j c e
      ∙ ap₂
      (λ b i. Some
      (record {
        name = slice_index_or o.entry.column_names c [];
        ty = (column s o.entry.table c).ty;
        scalar = scalar_of (column s o.entry.table c);
        nullable = b;
        col = i;
      }))
      (sym same) (sym (column_place o h j c e))
      ∙ ap (option_map (column_over n o.entry.table)) (sym (own_column o h masks c has))

  columns_are : (o : Source) (h : Held tables m role o) → (u : ℕ)
      → shown_columns (copied_table role m s o) (copied_entry role m s u o) [] (places 0 o.permission.columns)
      ≡ columns_over n o.entry.table (shown_columns h.origin o.entry o.permission.masks o.permission.columns)
  columns_are o h u =
      given_numbered (λ j. under_name [] j (slice_get (copied_table role m s o).columns j) (slice_get (copied_entry role m s u o).column_names j)) (λ i c. i)
      (λ c. option_map (column_over n o.entry.table) (under_name o.permission.masks c (slice_get h.origin.columns c) (slice_get o.entry.column_names c)))
      (HasColumn s o.entry.table) o.permission.columns
      (λ j c e has. one_column o h u j c o.permission.masks has e (sym (or_turn (column s o.entry.table c).nullable (has_mask o.permission c)))) 0 o.permission.columns
      (from_zero o.permission.columns) h.allowed.columns
      ∙ given_mapped (column_over n o.entry.table) (λ c. under_name o.permission.masks c (slice_get h.origin.columns c) (slice_get o.entry.column_names c)) o.permission.columns

  -- ---- the key

  module _ (unmasked : (o : Source) → Held tables m role o → keeps_key o.permission (table s o.entry.table).key ≡ true → list_any (has_mask o.permission) (table s o.entry.table).key ≡ false) where
    or_nothing : (a b : Bool) → b ≡ false → (false || a) ≡ (a || b)
    or_nothing true b e = refl
    or_nothing false b e = sym e

    -- a permitted column has its type
    permitted_there : (o : Source) → Held tables m role o → (c : ℕ) → list_any (λ d. d == c) o.permission.columns ≡ true → HasColumn s o.entry.table c
    permitted_there o h c a = each_at (HasColumn s o.entry.table) o.permission.columns (place_in o.permission.columns c) c h.allowed.columns (place_holds o.permission.columns c a)

    key_is : (o : Source) (h : Held tables m role o) → (u : ℕ)
        → shown_key (copied_table role m s o) (copied_entry role m s u o) (places 0 o.permission.columns)
        ≡ option_map (columns_over n o.entry.table) (shown_key h.origin o.entry o.permission.columns)
    key_is o h u =
        let p : Permission = o.permission in
        let t : ℕ = o.entry.table in
        let key : List ℕ = (table s t).key in
        let f : ℕ → ℕ = place_in p.columns in
        let q : ℕ = length p.columns + length (ends_of role m s t) in
        let inside : List ℕ → Bool = list_all (λ c. list_any (λ d. d == c) (places 0 p.columns)) in
        let new : List ℕ → List ShownColumn = shown_columns (copied_table role m s o) (copied_entry role m s u o) [] in
        let old : List ℕ → List ShownColumn = shown_columns h.origin o.entry [] in
        let go : (b : Bool) → keeps_key p key ≡ b
        → cond (inside (cond b (map f key) (q ∷ []))) (Some (new (cond b (map f key) (q ∷ [])))) None ≡ option_map (columns_over n t) (cond b (Some (old key)) None) =
        elim [
          | true ↦ λ kept.
              let members : Each (λ c. list_any (λ d. d == c) p.columns ≡ true) key = each_of (λ c. list_any (λ d. d == c) p.columns) key kept in
              let open_key : Each (λ c. has_mask p c ≡ false) key = each_none (has_mask p) key (unmasked o h kept) in
              let within : inside (map f key) ≡ true =
              all_each (λ c. list_any (λ d. d == c) (places 0 p.columns)) (map f key) (each_map (λ c. list_any (λ d. d == c) (places 0 p.columns) ≡ true) f key
              (each_weaken _ (λ c. list_any (λ d. d == f c) (places 0 p.columns) ≡ true)
              (λ c a. let short = got_within p.columns (f c) c (place_holds p.columns c a) in place_within 0 p.columns (f c) (omega arith) (omega (arith, short))) key members)) in
              let columns : new (map f key) ≡ columns_over n t (old key) =
              given_images (λ j. under_name [] j (slice_get (copied_table role m s o).columns j) (slice_get (copied_entry role m s u o).column_names j)) f
              (λ c. option_map (column_over n t) (under_name [] c (slice_get h.origin.columns c) (slice_get o.entry.column_names c))) key
              (each_both (λ c. list_any (λ d. d == c) p.columns ≡ true) (λ c. has_mask p c ≡ false) _
              (λ c a b. one_column o h u (f c) c [] (permitted_there o h c a) (place_holds p.columns c a) (or_nothing (column s t c).nullable (has_mask p c) b)) key members open_key)
              ∙ given_mapped (column_over n t) (λ c. under_name [] c (slice_get h.origin.columns c) (slice_get o.entry.column_names c)) key in
              ap (λ b. cond b (Some (new (map f key))) None) within ∙ ap Some columns
          | false ↦ λ lost.
              let beyond : list_any (λ d. d == q) (places 0 p.columns) ≡ false = place_beyond 0 p.columns q (omega arith) in
              ap (λ b. cond (b && true) (Some (new (q ∷ []))) None) beyond
        ] in
        go (keeps_key p key) refl
        ∙ ap (λ k. option_map (columns_over n t) (cond (keeps_key p k) (Some (old k)) None)) (ap (λ x. x.key) h.table_is)

    -- ---- all tables

    entry_is : (u : ℕ) (o : Source) → slice_get os u ≡ Some o → Held tables m role o
        → shown_entry (copied_tables role m s) (copied_meta role m s) (Named reader) (copied_entry role m s u o) ≡ option_map (table_over n rels_over) (source_shown o)
    entry_is u o at h =
        let t : ℕ = o.entry.table in
        let there : slice_get (copied_tables role m s) u ≡ Some (copied_table role m s o) = got_map (copied_table role m s) os u ∙ ap (option_map (copied_table role m s)) at in
        let made : ℕ → List ShownColumn → Option (List ShownColumn) → ShownTable =
        λ place columns key. record { table = place; name = o.entry.name; roots = o.entry.roots; columns = columns; key = key; aggregates = o.permission.aggregations; rels = rels_over t } in
        let place : u ≡ n.table t = sym (place_is (λ (x : Source). x.entry.table) os (tables_differ tables m role fit) u o at) in
        ap₂ (λ w p. option_and_then (λ x. option_map (shown_table (copied_entry role m s u o) x) p) w) there (reader_sees role m s o h.is.columns u at)
        ∙ ap Some (ap (λ i. made i (shown_columns (copied_table role m s o) (copied_entry role m s u o) [] (places 0 o.permission.columns))
        (shown_key (copied_table role m s o) (copied_entry role m s u o) (places 0 o.permission.columns))) place
        ∙ ap₂ (made (n.table t)) (columns_are o h u) (key_is o h u))
        ∙ ap (λ w. option_map (table_over n rels_over) (option_map (λ x. shown_table o.entry x o.permission) w)) (sym h.stands)

    pub tables_are : shown_tables (copied_tables role m s) (copied_meta role m s) (Named reader) ≡ map (table_over n rels_over) (shown_tables tables m role)
    tables_are =
        given_numbered (shown_entry (copied_tables role m s) (copied_meta role m s) (Named reader)) (copied_entry role m s) (λ o. option_map (table_over n rels_over) (source_shown o))
        (Held tables m role) os
        entry_is 0 os (from_zero os) (all_held tables m role fit)
        ∙ given_mapped (table_over n rels_over) source_shown os
        ∙ ap (map (table_over n rels_over)) (sym (shown_sources m.tracked))

  -- ---- what is known of the shown tables of the original

  -- something of it is permitted, and its relationships are those of the schema
  abbrev pub IsSeen : ShownTable → Type 0
  IsSeen x = (is_some (permission role m x.table) ≡ true) × (x.rels ≡ (table s x.table).rels)

  pub shown_seen : Each IsSeen (shown_tables tables m role)
  shown_seen = subst (Each IsSeen) (sym (shown_sources m.tracked)) (each_given os (all_held tables m role fit))
    where
      each_given : (xs : List Source) → Each (Held tables m role) xs → Each IsSeen (filter_map source_shown xs)
      each_given [] h = tt
      each_given (o ∷ xs) h =
          let is : IsSeen (shown_table o.entry h.0.origin o.permission) = (ap is_some h.0.is.seen, sym (rels_are tables m role fit o h.0)) in
          subst (λ w. Each IsSeen (cons_option (option_map (λ x. shown_table o.entry x o.permission) w) (filter_map source_shown xs))) (sym h.0.stands) (is, each_given xs h.1)
