-- The names that a copy's metadata gives in the schema of admin differ.
use Rattle.std.proofs.Common.{◌≡◌, ℕ, suc, ◌+◌, List, [], ◌∷◌, ◌++◌, map, filter, Bool, true, false, cond, not, ◌&&◌, ◌||◌, ◌==◌, Option, Some, None, inl, refl, sym, ap, ap₂, ◌∙◌, subst, arith, is_some, append_assoc}
use Rattle.std.proofs.lemmas.Bool.{and_parts, and_from, or_parts, false≢true}
use Rattle.std.proofs.lemmas.List.Folds.{list_any-append}
use Rattle.std.specs.List.{list_all, list_any}
use Rattle.std.specs.Prelude.{bytes_eq, codes, flat_map, slice_index_or}
use Rattle.hq_base.specs.Lists.{Each}
use Rattle.hq_base.proofs.Lists.{each_weaken, each_all, filter_all}
use Rattle.hq_model.specs.Fits.{fits}
use Rattle.hq_model.specs.Meta.{MetaTree, TrackedTree}
use Rattle.hq_model.specs.Permission.{Permission, permission, named_columns}
use Rattle.hq_model.specs.Schema.{Schema, schema_of, table, column, rel, no_rel}
use Rattle.hq_model.specs.SchemaNames.{all_names_differ, all_types, column_names_of, fields_of, fixed_inputs, fixed_types, in_schema, inputs_of, is_in_schema, names_differ, rel_fields, rels_in_schema, roots_of, types_of, is_unlike, scalar_of, scalars_differ}
use Rattle.hq_model.specs.View.{places_from}
use Rattle.hq_model.specs.declared.meta.Rel.{Rel}
use Rattle.hq_model.specs.declared.role.Role.{Role}
use Rattle.hq_model.specs.declared.table.Table.{Table}
use Rattle.hq_model.proofs.Places.{present}
use Rattle.hq_copy_definition.specs.Extras.{Extra, extras_of, extra_name}
use Rattle.hq_copy_definition.specs.Metadata.{copied_rel, places, copied_names, copied_entry, copied_meta}
use Rattle.hq_copy_definition.specs.Refusals.{is_kept_name, or_else, first_of, like_type, scalar_refusal, repeated_after, schema_name_refusal}
use Rattle.hq_copy_definition.specs.declared.refusal.CopyRefusal.TheVariants.{NameTaken}
use Rattle.hq_copy_definition.specs.Sources.{Source, sources, table_place, kept_relationships}
use Rattle.hq_copy_definition.proofs.BySource.{by_source, something}
use Rattle.hq_copy_definition.proofs.Found.{copied_schema, entry_at, StandsFor, stands_for}
use Rattle.hq_copy_definition.proofs.Names.{all_named, has_columns as columns_of}
use Rattle.hq_copy_definition.proofs.Reader.{names_free}
use Rattle.hq_laws_copy.proofs.Views.Refused.{neither, none_of, not_refused}
use Rattle.hq_laws_copy.proofs.Fits.Entries.{each_numbered, from_zero, kept_facts, rels_are}
use Rattle.hq_laws_copy.proofs.Fits.Held.{Held, filtered, all_held, names_of_fit}
use Rattle.hq_laws_copy.proofs.Fits.Texts.{unkept_differs, unkept_differs_back, aggregate_differs}
use Rattle.hq_laws_copy.proofs.Fits.Unkept.{Unkept}
use Rattle.hq_copy_definition.proofs.Apart.{Apart, differ_apart, apart_differ, apart_map, Sub, sub_keep, sub_same, sub_append, sub_filter, apart_sub, sub_map, sub_made, apart_between}
use Rattle.hq_copy_definition.proofs.Lists.{each_map, found_each, each_of, all_each, each_made}
use Rattle.hq_laws_copy.proofs.Fits.Texts.{bytes_turn}

-- ---- names of which none is refused

-- no scalar is named as one of these types
unlike : (types : List (List ℕ)) (o : Option (List ℕ)) → like_type types o ≡ None → is_unlike types o ≡ true
unlike types None h = refl
unlike types (Some n) h = ap not (not_refused (list_any (λ t. bytes_eq t n) types) (NameTaken n) h)

none_like : (z : Schema) (types : List (List ℕ)) (ks : List TrackedTree) → first_of (scalar_refusal z types) ks ≡ None → list_all (scalars_differ z types) ks ≡ true
none_like z types ks h =
    all_each (scalars_differ z types) ks
    (each_weaken (λ k. scalar_refusal z types k ≡ None) (λ k. scalars_differ z types k ≡ true)
    (λ k g. all_each (λ c. is_unlike types (scalar_of (column z k.table c))) (named_columns k)
    (each_weaken (λ c. like_type types (scalar_of (column z k.table c)) ≡ None) (λ c. is_unlike types (scalar_of (column z k.table c)) ≡ true)
    (λ c e. unlike types (scalar_of (column z k.table c)) e) (named_columns k) (none_of (λ c. like_type types (scalar_of (column z k.table c))) (named_columns k) g)))
    ks (none_of (scalar_refusal z types) ks h))

-- no name stands among those before it
not_repeated : (known names : List (List ℕ)) → repeated_after known names ≡ None → Each (λ n. list_any (bytes_eq n) known ≡ false) names × Apart bytes_eq names
not_repeated known [] h = (tt, tt)
not_repeated known (n ∷ ns) h =
    let both = neither _ (repeated_after (known ++ n ∷ []) ns) h in
    let here = not_refused _ _ both.0 in
    let later = not_repeated (known ++ n ∷ []) ns both.1 in
    let apart : Each (λ x. (list_any (bytes_eq x) known ≡ false) × (bytes_eq x n ≡ false)) ns =
    each_weaken (λ x. list_any (bytes_eq x) (known ++ n ∷ []) ≡ false) _
    (λ x g. let parts = or_parts (list_any (bytes_eq x) known) (bytes_eq x n || false) (sym (list_any-append (bytes_eq x) known (n ∷ [])) ∙ g) in
    (parts.0, (or_parts (bytes_eq x n) false parts.1).0)) ns later.0 in
    ((here, each_weaken _ (λ x. list_any (bytes_eq x) known ≡ false) (λ x g. g.0) ns apart), (each_weaken _ (λ x. bytes_eq n x ≡ false) (λ x g. bytes_turn x n g.1) ns apart, later.1))

-- ---- lists by their places

by_places : {A : Type 0} (d : A) (zs xs : List A) (k : ℕ) → ((j : ℕ) → slice_index_or zs (k + j) d ≡ slice_index_or xs j d) → map (λ c. slice_index_or zs c d) (places k xs) ≡ xs
by_places d zs [] k at = refl
by_places d zs (x ∷ xs) k at =
    let same : k ≡ k + 0 = omega arith in
    ap₂ (λ a l. a ∷ l) (ap (λ i. slice_index_or zs i d) same ∙ at 0)
    (by_places d zs xs (suc k) (λ j. let next : suc k + j ≡ k + suc j = omega arith in ap (λ i. slice_index_or zs i d) next ∙ at (suc j)))

-- what stands at the places at which a test is true
at_places : {A : Type 0} (test : A → Bool) (d : A) (zs : List A) (k : ℕ) (xs : List A) → ((j : ℕ) → slice_index_or zs (k + j) d ≡ slice_index_or xs j d)
    → map (λ r. slice_index_or zs r d) (places_from test k xs) ≡ filter test xs
at_places test d zs k [] at = refl
at_places test d zs k (x ∷ xs) at =
    let same : k ≡ k + 0 = omega arith in
    let here : slice_index_or zs k d ≡ x = ap (λ i. slice_index_or zs i d) same ∙ at 0 in
    let later = at_places test d zs (suc k) xs (λ j. let next : suc k + j ≡ k + suc j = omega arith in ap (λ i. slice_index_or zs i d) next ∙ at (suc j)) in
    let go : (b : Bool) → map (λ r. slice_index_or zs r d) (cond b (k ∷ places_from test (suc k) xs) (places_from test (suc k) xs)) ≡ cond b (x ∷ filter test xs) (filter test xs) =
    elim [ true ↦ ap₂ (λ a l. a ∷ l) here later | false ↦ later ] in
    go (test x)

-- a test that passes less keeps some of what one that passes more keeps
sub_filters : {A : Type 0} (p q : A → Bool) → ((x : A) → p x ≡ true → q x ≡ true) → (xs : List A) → Sub (filter p xs) (filter q xs)
sub_filters p q step [] = refl
sub_filters p q step (x ∷ xs) = by (p x) (q x) (step x) (sub_filters p q step xs)
  where
    by : (b c : Bool) → (b ≡ true → c ≡ true) → Sub (filter p xs) (filter q xs) → Sub (cond b (x ∷ filter p xs) (filter p xs)) (cond c (x ∷ filter q xs) (filter q xs))
    by true true f later = sub_keep x (filter p xs) (filter q xs) later
    by true false f later = absurd (false≢true (f refl))
    by false true f later = inl later
    by false false f later = later

-- ---- the names of a table's fields and inputs

module _ (tables : List Table) (m : MetaTree) (role : Role) (fit : fits tables m ≡ true) where
  abbrev s : Schema
  s = schema_of tables m

  abbrev os : List Source
  os = sources role m

  abbrev z : Schema
  z = copied_schema role m s

  abbrev k : MetaTree
  k = copied_meta role m s

  -- a table of which something is permitted stands in the schema of admin
  seen_in_schema : (t : ℕ) → is_some (permission role m t) ≡ true → is_in_schema m t ≡ true
  seen_in_schema t h =
      let there = something (permission role m t) h in
      let p : Permission = there.0 in
      let at : StandsFor role m t p = stands_for role m t p there.1 in
      let columns = columns_of role m.inherited at.entry p at.permitted in
      let kept = filtered role m.inherited at.entry p at.permitted in
      ap in_schema at.tracked ∙ some_named (named_columns at.entry) kept.0 columns.first columns.rest (sym kept.1 ∙ columns.columns)
    where
      some_named : (ns : List ℕ) (q : ℕ → Bool) (c : ℕ) (cs : List ℕ) → filter q ns ≡ c ∷ cs → list_any (λ n. true) ns ≡ true
      some_named [] q c cs e = cc
      some_named (n ∷ ns) q c cs e = refl

  -- the names of the columns of the copy
  names_are : (u : ℕ) (o : Source) → Held tables m role o → column_names_of (copied_entry role m s u o) ≡ copied_names role m s o
  names_are u o h =
      let names : List (List ℕ) = copied_names role m s o in
      ap (map (λ c. slice_index_or names c [])) (all_named 0 names (names_free role m s o h.is.columns))
      ∙ by_places [] names names 0 (λ j. let zeroth : 0 + j ≡ j = omega arith in ap (λ i. slice_index_or names i []) zeroth)

  -- a copied table stands in the schema of admin
  copy_in_schema : (t : ℕ) → is_some (permission role m t) ≡ true → is_in_schema k (table_place os t) ≡ true
  copy_in_schema = by_source role m (λ t. is_in_schema k (table_place os t) ≡ true)
      (λ o is.
      let u : ℕ = table_place os o.entry.table in
      ap in_schema (entry_at role m s u o is.place)
      ∙ ap (list_any (λ n. true)) (all_named 0 (copied_names role m s o) (names_free role m s o is.columns))
      ∙ ap (λ cs. list_any (λ n. true) (places 0 (map (λ c. slice_index_or o.entry.column_names c []) cs ++ map extra_name (extras_of role m s o)))) is.columns.columns)

  -- the relationships of the copy that stand there: all
  rels_stand : (u : ℕ) (o : Source) → Held tables m role o → rels_in_schema k (copied_entry role m s u o) ≡ map (copied_rel role m s o.entry.table) (kept_relationships role m s o.entry.table)
  rels_stand u o h =
      let t : ℕ = o.entry.table in
      let qs : List ℕ = kept_relationships role m s t in
      filter_all (λ (r : Rel). is_in_schema k r.remote) (map (copied_rel role m s t) qs)
      (each_map (λ (r : Rel). is_in_schema k r.remote ≡ true) (copied_rel role m s t) qs
      (each_weaken _ (λ r. is_in_schema k (table_place os (rel s t r).remote) ≡ true)
      (λ r g. copy_in_schema (rel s t r).remote (ap (λ (x : Rel). is_some (permission role m x.remote)) (present (table s t).rels r no_rel g.0 g.1) ∙ g.2)) qs (kept_facts tables m role fit o h)))

  -- the kept relationships of the original
  kept_are : (t : ℕ) → map (rel s t) (kept_relationships role m s t) ≡ filter (λ (r : Rel). is_some (permission role m r.remote)) (table s t).rels
  kept_are t =
      at_places (λ (r : Rel). is_some (permission role m r.remote)) no_rel (table s t).rels 0 (table s t).rels
      (λ j. let zeroth : 0 + j ≡ j = omega arith in ap (λ i. slice_index_or (table s t).rels i no_rel) zeroth)

  -- they keep their names
  fields_kept : (t : ℕ) (qs : List ℕ) → flat_map rel_fields (map (copied_rel role m s t) qs) ≡ flat_map rel_fields (map (rel s t) qs)
  fields_kept t [] = refl
  fields_kept t (q ∷ qs) = ap (λ l. rel_fields (rel s t q) ++ l) (fields_kept t qs)

  inputs_kept : (t : ℕ) (qs : List ℕ) → map (λ (r : Rel). r.name) (map (copied_rel role m s t) qs) ≡ map (λ (r : Rel). r.name) (map (rel s t) qs)
  inputs_kept t [] = refl
  inputs_kept t (q ∷ qs) = ap (λ l. (rel s t q).name ∷ l) (inputs_kept t qs)

  -- the original's relationships that are kept are some of those that stand in its schema
  rels_some : (o : Source) → Held tables m role o → Sub (map (rel s o.entry.table) (kept_relationships role m s o.entry.table)) (rels_in_schema m o.entry)
  rels_some o h =
      let t : ℕ = o.entry.table in
      let P : List Rel → Type 0 = λ l. Sub l (rels_in_schema m o.entry) in
      subst P (sym (kept_are t ∙ ap (filter (λ (r : Rel). is_some (permission role m r.remote))) (rels_are tables m role fit o h)))
      (sub_filters (λ (r : Rel). is_some (permission role m r.remote)) (λ (r : Rel). is_in_schema m r.remote) (λ r g. seen_in_schema r.remote g) o.entry.rels)

  -- the names of permitted columns are some of those of all columns
  abbrev own_names : Source → List (List ℕ)
  own_names o = map (λ c. slice_index_or o.entry.column_names c []) o.permission.columns

  names_some : (o : Source) → Held tables m role o → Sub (own_names o) (column_names_of o.entry)
  names_some o h =
      let P : List ℕ → Type 0 = λ l. Sub (map (λ c. slice_index_or o.entry.column_names c []) l) (column_names_of o.entry) in
      subst P (sym h.filtered_by.1) (sub_map (λ c. slice_index_or o.entry.column_names c []) _ _ (sub_filter h.filtered_by.0 (named_columns o.entry)))

  -- names of the original's table differ
  abbrev AllDiffer : TrackedTree → Type 0
  AllDiffer j = Apart bytes_eq (fields_of m j) × Apart bytes_eq (inputs_of m j)

  originals_differ : Each AllDiffer m.tracked
  originals_differ =
      each_weaken (λ j. (all_names_differ (fields_of m j) && all_names_differ (inputs_of m j)) ≡ true) AllDiffer
      (λ j g. let both = and_parts _ _ g in (differ_apart bytes_eq (fields_of m j) both.0, differ_apart bytes_eq (inputs_of m j) both.1)) m.tracked
      (each_of (λ j. all_names_differ (fields_of m j) && all_names_differ (inputs_of m j)) m.tracked (and_parts _ _ (and_parts _ _ (names_of_fit tables m role fit)).0).1)

  original_differs : (o : Source) → Held tables m role o → AllDiffer o.entry
  original_differs o h = found_each AllDiffer (λ j. j.table == o.entry.table) m.tracked o.entry originals_differ h.is.tracked

  module _ (unkept : (o : Source) → Held tables m role o → Unkept role m s o) (extras_differ : (o : Source) → Apart (λ e f. bytes_eq (extra_name e) (extra_name f)) (extras_of role m s o)) where
    -- names of columns are no added column's
    own_unlike : (o : Source) → Held tables m role o → Each (λ x. Each (λ y. bytes_eq x y ≡ false) (map extra_name (extras_of role m s o))) (own_names o)
    own_unlike o h =
        let es : List Extra = extras_of role m s o in
        each_map (λ x. Each (λ y. bytes_eq x y ≡ false) (map extra_name es)) (λ c. slice_index_or o.entry.column_names c []) o.permission.columns
        (each_weaken _ _ (λ c g. each_map (λ y. bytes_eq (slice_index_or o.entry.column_names c []) y ≡ false) extra_name es
        (each_all _ (λ e. unkept_differs (slice_index_or o.entry.column_names c []) e g.1) es)) o.permission.columns (unkept o h).columns)

    -- nor are those of a relationship's fields
    fields_unlike : (e : Extra) (r : Rel) → is_kept_name r.name ≡ false → Each (λ y. bytes_eq (extra_name e) y ≡ false) (rel_fields r)
    fields_unlike e r h =
        let go : (b : Bool) → Each (λ y. bytes_eq (extra_name e) y ≡ false) (r.name ∷ cond b ((r.name ++ codes "_aggregate") ∷ []) []) =
        elim [ true ↦ (unkept_differs_back e r.name h, (aggregate_differs r.name e, tt)) | false ↦ (unkept_differs_back e r.name h, tt) ] in
        go r.many

    rels_unlike : (o : Source) → Held tables m role o
        → Each (λ x. Each (λ y. bytes_eq x y ≡ false) (flat_map rel_fields (map (rel s o.entry.table) (kept_relationships role m s o.entry.table)))) (map extra_name (extras_of role m s o))
    rels_unlike o h =
        let t : ℕ = o.entry.table in
        let qs : List ℕ = kept_relationships role m s t in
        let es : List Extra = extras_of role m s o in
        each_map _ extra_name es (each_all _ (λ e. each_made (λ y. bytes_eq (extra_name e) y ≡ false) rel_fields (map (rel s t) qs)
        (each_map (λ r. Each (λ y. bytes_eq (extra_name e) y ≡ false) (rel_fields r)) (rel s t) qs (each_weaken _ _ (λ q g. fields_unlike e (rel s t q) g) qs (unkept o h).rels))) es)

    names_unlike : (o : Source) → Held tables m role o
        → Each (λ x. Each (λ y. bytes_eq x y ≡ false) (map (λ (r : Rel). r.name) (map (rel s o.entry.table) (kept_relationships role m s o.entry.table)))) (map extra_name (extras_of role m s o))
    names_unlike o h =
        let t : ℕ = o.entry.table in
        let qs : List ℕ = kept_relationships role m s t in
        let es : List Extra = extras_of role m s o in
        each_map _ extra_name es (each_all _ (λ e. each_map (λ y. bytes_eq (extra_name e) y ≡ false) (λ (r : Rel). r.name) (map (rel s t) qs)
        (each_map (λ (r : Rel). bytes_eq (extra_name e) r.name ≡ false) (rel s t) qs (each_weaken _ _ (λ q g. unkept_differs_back e (rel s t q).name g) qs (unkept o h).rels))) es)

    -- the fields of the copy's table
    fields_differ : (u : ℕ) (o : Source) → Held tables m role o → all_names_differ (fields_of k (copied_entry role m s u o)) ≡ true
    fields_differ u o h =
        let t : ℕ = o.entry.table in
        let qs : List ℕ = kept_relationships role m s t in
        let es : List (List ℕ) = map extra_name (extras_of role m s o) in
        let rs : List (List ℕ) = flat_map rel_fields (map (rel s t) qs) in
        let are : fields_of k (copied_entry role m s u o) ≡ (own_names o ++ es) ++ rs =
        ap₂ (λ a b. a ++ flat_map rel_fields b) (names_are u o h) (rels_stand u o h) ∙ ap (λ l. (own_names o ++ es) ++ l) (fields_kept t qs) in
        let original : Apart bytes_eq (own_names o ++ rs) =
        apart_sub bytes_eq (own_names o ++ rs) (fields_of m o.entry)
        (sub_append (own_names o) (column_names_of o.entry) rs (flat_map rel_fields (rels_in_schema m o.entry)) (names_some o h) (sub_made rel_fields _ _ (rels_some o h)))
        (original_differs o h).0 in
        ap all_names_differ are
        ∙ apart_differ bytes_eq ((own_names o ++ es) ++ rs)
        (apart_between bytes_eq (own_names o) es rs original (apart_map bytes_eq extra_name (extras_of role m s o) (extras_differ o)) (own_unlike o h) (rels_unlike o h))

    -- its inputs
    inputs_differ : (u : ℕ) (o : Source) → Held tables m role o → all_names_differ (inputs_of k (copied_entry role m s u o)) ≡ true
    inputs_differ u o h =
        let t : ℕ = o.entry.table in
        let qs : List ℕ = kept_relationships role m s t in
        let extras : List Extra = extras_of role m s o in
        let es : List (List ℕ) = map extra_name extras in
        let rs : List (List ℕ) = map (λ (r : Rel). r.name) (map (rel s t) qs) in
        let are : inputs_of k (copied_entry role m s u o) ≡ ((fixed_inputs ++ own_names o) ++ es) ++ rs =
        ap₂ (λ a b. fixed_inputs ++ a ++ map (λ (r : Rel). r.name) b) (names_are u o h) (rels_stand u o h)
        ∙ ap (λ l. fixed_inputs ++ (own_names o ++ es) ++ l) (inputs_kept t qs)
        ∙ sym (append_assoc fixed_inputs (own_names o ++ es) rs) ∙ ap (λ l. l ++ rs) (sym (append_assoc fixed_inputs (own_names o) es)) in
        let original : Apart bytes_eq ((fixed_inputs ++ own_names o) ++ rs) =
        subst (Apart bytes_eq) (sym (append_assoc fixed_inputs (own_names o) rs))
        (apart_sub bytes_eq (fixed_inputs ++ (own_names o ++ rs)) (inputs_of m o.entry)
        (sub_append fixed_inputs fixed_inputs (own_names o ++ rs) (column_names_of o.entry ++ map (λ (r : Rel). r.name) (rels_in_schema m o.entry)) (sub_same fixed_inputs)
        (sub_append (own_names o) (column_names_of o.entry) rs (map (λ (r : Rel). r.name) (rels_in_schema m o.entry)) (names_some o h) (sub_map (λ (r : Rel). r.name) _ _ (rels_some o h))))
        (original_differs o h).1) in
        let fixed : (name : List ℕ) → is_kept_name name ≡ false → Each (λ y. bytes_eq name y ≡ false) es =
        λ name g. each_map (λ y. bytes_eq name y ≡ false) extra_name extras (each_all _ (λ e. unkept_differs name e g) extras) in
        ap all_names_differ are
        ∙ apart_differ bytes_eq (((fixed_inputs ++ own_names o) ++ es) ++ rs)
        (apart_between bytes_eq (fixed_inputs ++ own_names o) es rs original (apart_map bytes_eq extra_name extras (extras_differ o))
        (fixed (codes "_and") refl, (fixed (codes "_not") refl, (fixed (codes "_or") refl, own_unlike o h))) (names_unlike o h))

    pub copy_names_differ : schema_name_refusal z k ≡ None → names_differ z k ≡ true
    copy_names_differ none =
        let parts = neither (or_else (repeated_after [] (all_types z k)) (repeated_after [] (flat_map (roots_of z) k.tracked))) (first_of (scalar_refusal z (all_types z k)) k.tracked) none in
        let both = neither (repeated_after [] (all_types z k)) (repeated_after [] (flat_map (roots_of z) k.tracked)) parts.0 in
        and_from _ _ (and_from _ _ (and_from _ _
        (apart_differ bytes_eq (fixed_types ++ flat_map (types_of z) k.tracked) (not_repeated [] (fixed_types ++ flat_map (types_of z) k.tracked) both.0).1)
        (apart_differ bytes_eq (flat_map (roots_of z) k.tracked) (not_repeated [] (flat_map (roots_of z) k.tracked) both.1).1))
        (all_each (λ j. all_names_differ (fields_of k j) && all_names_differ (inputs_of k j)) k.tracked
        (each_numbered (copied_entry role m s) (λ j. (all_names_differ (fields_of k j) && all_names_differ (inputs_of k j)) ≡ true) (Held tables m role) os
        (λ u o at h. and_from _ _ (fields_differ u o h) (inputs_differ u o h)) 0 os (from_zero os) (all_held tables m role fit))))
        (none_like z (all_types z k) k.tracked parts.1)
