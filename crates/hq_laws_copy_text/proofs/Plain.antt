-- The metadata of a copy is read back as it is written.
use Rattle.std.proofs.Common.{◌≡◌, ℕ, suc, ◌+◌, ◌-◌, List, [], ◌∷◌, ◌++◌, map, length, true, false, ◌||◌, Option, Some, None, inl, inr, refl, sym, ap, ◌∙◌, subst, arith, slice_get}
use Rattle.std.proofs.lemmas.Bool.{and_parts, cases_lt, false≢true}
use Rattle.std.specs.List.{list_all}
use Rattle.std.specs.Str.{is_utf8, chars}
use lib.Utf8.{encode}
use Rattle.std.specs.Prelude.{option_map, slice_index_or}
use Rattle.hq_base.specs.Lists.{Each}
use Rattle.hq_copy_definition.specs.Extras.{Extra, extra_column, extra_name, extras_of}
use Rattle.hq_copy_definition.specs.Metadata.{copied_entry, copied_meta, copied_names, copied_rel, places, reader, reader_permission}
use Rattle.hq_copy_definition.specs.Sources.{Source, kept_relationships, sources}
use Rattle.hq_copy_definition.specs.Tables.{copied_column, copied_columns, copied_table, copied_tables}
use Rattle.hq_copy_definition.proofs.Lists.{got_back, got_map, map_length}
use Rattle.hq_copy_definition.proofs.Places.{front_places, place_within}
use Rattle.hq_copy_text.specs.Clean.{is_clean_entry}
use Rattle.hq_laws_written.specs.Catalog.Written.{has_clean_names, name_at, name_in}
use Rattle.hq_laws_written.specs.Json.ReadBack.{is_clean}
use Rattle.hq_laws_written.specs.Metadata.Plain.{IsPlain, IsPlainPerm, IsPlainRel, IsPlainTable}
use Rattle.hq_laws_written.specs.Metadata.Written.{is_shown}
use Rattle.hq_laws_written.proofs.Metadata.Lists.{numbered_each}
use Rattle.hq_load_meta.specs.Permitted.{all_columns, chosen}
use Rattle.hq_load_meta_tables.specs.Found.{columns_in, columns_of}
use Rattle.hq_model.specs.Catalog.{is_catalog}
use Rattle.hq_model.specs.Fits.{fits}
use Rattle.hq_model.specs.Meta.{MetaTree}
use Rattle.hq_model.specs.Schema.{Schema, numbered}
use Rattle.hq_model.specs.declared.meta.Rel.{Rel}
use Rattle.hq_model.specs.declared.role.Role.{Role}
use Rattle.hq_model.specs.declared.table.Column.{Column}
use Rattle.hq_model.specs.declared.table.Table.{Table}
use Rattle.hq_model.proofs.Places.{present}

-- the reader's name
clean_reader : is_clean reader ≡ true
unfolding is_utf8 chars encode
clean_reader = refl

-- an image behind those of another list
back_at : {A B C : Type 0} (f : A → C) (g : B → C) (xs : List A) (ys : List B) (n : ℕ) → slice_get (map f xs ++ map g ys) (length xs + n) ≡ option_map g (slice_get ys n)
back_at f g xs ys n = ap (λ k. slice_get (map f xs ++ map g ys) (k + n)) (sym (map_length f xs)) ∙ got_back (map f xs) (map g ys) n ∙ got_map g ys n

module _ (role : Role) (m : MetaTree) (s : Schema) where
  abbrev os : List Source
  os = sources role m

  abbrev ts : List Table
  ts = copied_tables role m s

  -- the columns of the table at a place
  columns_at : (i : ℕ) (o : Source) → slice_get os i ≡ Some o → columns_of ts i ≡ copied_columns role m s o
  columns_at i o at = ap columns_in (got_map (copied_table role m s) os i ∙ ap (option_map (copied_table role m s)) at)

  -- a column that the reader does not see is an added one, under its own name
  added_name : (o : Source) (n : ℕ) (x : Column) → slice_get (copied_columns role m s o) (length o.permission.columns + n) ≡ Some x
      → slice_index_or (copied_names role m s o) (length o.permission.columns + n) [] ≡ name_at (copied_columns role m s o) (length o.permission.columns + n)
  added_name o n x here =
      let cs : List ℕ = o.permission.columns in
      let es : List Extra = extras_of role m s o in
      let column = back_at (copied_column s o.permission o.entry.table) extra_column cs es n in
      let name = back_at (λ c. slice_index_or o.entry.column_names c []) extra_name cs es n in
      let go : (w : Option Extra) → slice_get es n ≡ w → slice_index_or (copied_names role m s o) (length cs + n) [] ≡ name_at (copied_columns role m s o) (length cs + n) =
      elim [
        | None ↦ λ e. let none : ◌≡◌ {A = Option Column} (Some x) None = sym here ∙ column ∙ ap (option_map extra_column) e in cc
        | Some a ↦ λ e.
            present (copied_names role m s o) (length cs + n) [] (extra_name a) (name ∙ ap (option_map extra_name) e)
            ∙ sym (ap name_in (column ∙ ap (option_map extra_column) e))
      ] in
      go (slice_get es n) refl

  own_at : (i : ℕ) (o : Source) (j : ℕ) (x : Column) → slice_get (copied_columns role m s o) j ≡ Some x → is_shown (copied_entry role m s i o) j ≡ false
      → slice_index_or (copied_names role m s o) j [] ≡ name_at (copied_columns role m s o) j
  own_at i o j x here hidden =
      let cs : List ℕ = o.permission.columns in
      elim (cases_lt j (length cs)) [
        | inl less ↦ absurd (false≢true (sym hidden ∙ ap (λ b. b || false) (place_within 0 cs j (omega arith) (omega arith))))
        | inr least ↦
            let is : length cs + (j - length cs) ≡ j = omega arith in
            subst (λ k. slice_index_or (copied_names role m s o) k [] ≡ name_at (copied_columns role m s o) k) is
            (added_name o (j - length cs) x (ap (slice_get (copied_columns role m s o)) is ∙ here))
      ]

  own_names : (i : ℕ) (o : Source)
      → Each (λ c. is_shown (copied_entry role m s i o) c ≡ false → slice_index_or (copied_names role m s o) c [] ≡ name_at (copied_columns role m s o) c) (all_columns (copied_columns role m s o))
  own_names i o =
      numbered_each (λ c. is_shown (copied_entry role m s i o) c ≡ false → slice_index_or (copied_names role m s o) c [] ≡ name_at (copied_columns role m s o) c) 0 (copied_columns role m s o)
      (λ j x e. let zeroth : 0 + j ≡ j = omega arith in own_at i o (0 + j) x (ap (slice_get (copied_columns role m s o)) zeroth ∙ e))

  -- a relationship has one pair
  rels_plain : (i t : ℕ) (rs : List ℕ) → list_all (λ (r : Rel). is_clean r.name) (map (copied_rel role m s t) rs) ≡ true
      → Each (λ (r : Rel). IsPlainRel (columns_of ts i) (columns_of ts r.remote) r) (map (copied_rel role m s t) rs)
  rels_plain i t [] h = tt
  rels_plain i t (r ∷ rs) h =
      let both = and_parts _ _ h in
      (record { ascending = (tt, tt); differ = refl; clean = both.0 }, rels_plain i t rs both.1)

  -- the reader's permission has no filter, and the first columns
  perm_plain : (i : ℕ) (o : Source) → slice_get os i ≡ Some o → IsPlainPerm (columns_of ts i) (reader_permission o.permission)
  perm_plain i o at = record {
    unfiltered = refl;
    ordered = ap (chosen (places 0 o.permission.columns)) (columns_at i o at)
        ∙ front_places o.permission.columns (map (copied_column s o.permission o.entry.table) o.permission.columns) (map extra_column (extras_of role m s o)) (map_length _ o.permission.columns);
    clean = clean_reader;
  }

  entry_plain : (i : ℕ) (o : Source) → slice_get os i ≡ Some o → is_clean_entry (copied_entry role m s i o) ≡ true → IsPlainTable ts (copied_entry role m s i o)
  entry_plain i o at h =
      let rels = and_parts _ _ h in
      let roots = and_parts _ _ rels.0 in record {
        own = subst (λ cs. Each (λ c. is_shown (copied_entry role m s i o) c ≡ false → slice_index_or (copied_names role m s o) c [] ≡ name_at cs c) (all_columns cs)) (sym (columns_at i o at))
            (own_names i o);
        rels = rels_plain i o.entry.table (kept_relationships role m s o.entry.table) rels.1;
        perms = (perm_plain i o at, tt);
        clean = roots.0;
        roots = roots.1;
      }

  entries_plain : (k : ℕ) (xs : List Source) → ((j : ℕ) → slice_get os (k + j) ≡ slice_get xs j) → list_all is_clean_entry (numbered (copied_entry role m s) k xs) ≡ true
      → Each (IsPlainTable ts) (numbered (copied_entry role m s) k xs)
  entries_plain k [] at h = tt
  entries_plain k (x ∷ xs) at h =
      let both = and_parts _ _ h in
      let here : k + 0 ≡ k = omega arith in (
        entry_plain k x (subst (λ i. slice_get os i ≡ Some x) here (at 0)) both.0,
        entries_plain (suc k) xs (λ j. let next : k + suc j ≡ suc k + j = omega arith in subst (λ i. slice_get os i ≡ slice_get xs j) next (at (suc j))) both.1,
      )

  pub metadata_plain : list_all is_clean_entry (copied_meta role m s).tracked ≡ true → has_clean_names ts ≡ true → is_catalog ts ≡ true → fits ts (copied_meta role m s) ≡ true
      → IsPlain ts (copied_meta role m s)
  metadata_plain entries names whole fit = record {
    catalog = whole;
    clean = names;
    fits = fit;
    own = refl;
    tracked = entries_plain 0 os (λ j. let zeroth : 0 + j ≡ j = omega arith in ap (slice_get os) zeroth) entries;
  }
