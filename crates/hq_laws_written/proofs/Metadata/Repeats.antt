-- Where no name stands twice in the schema of admin, none is refused.
use Rattle.std.proofs.Common.{◌≡◌, ◌∙◌, ℕ, ◌+◌, ◌&&◌, ◌++◌, List, [], ◌∷◌, map, filter, flat_map, Bool, true, false, cond, Ok, bytes_eq, codes, refl, sym, ap, ap₂, subst, append_assoc, append-nil}
use Rattle.std.proofs.lemmas.Bool.{and_parts}
use Rattle.std.proofs.lemmas.List.{take-append-drop}
use Rattle.hq_base.specs.Due.{and_then}
use Rattle.hq_base.specs.Lists.{Each, all_differ}
use Rattle.hq_base.specs.Path.{member_path, item_path}
use Rattle.hq_model.specs.Meta.{TrackedTree, MetaTree}
use Rattle.hq_model.specs.Schema.{Schema}
use Rattle.hq_model.specs.SchemaNames.{fixed_types, fixed_inputs, types_of, roots_of, column_names_of, is_in_schema, rels_in_schema, rel_fields, fields_of, inputs_of, all_types, all_names_differ, scalars_differ, names_differ}
use Rattle.hq_model.specs.declared.meta.Rel.{Rel}
use Rattle.hq_load_meta_names.specs.Added.{added}
use Rattle.hq_load_meta_names.specs.Repeats.{with_rel, with_shown_rel, with_rels, object_count, objects_of, arrays_of, with_all_rels, with_columns, own_names, with_table, with_tables, scalars_due, names_due}
use Rattle.hq_load_meta_names.specs.declared.known.Own.{Own}
use Rattle.hq_load_meta_names.specs.declared.known.Shared.{Shared}
use Rattle.hq_laws_written.proofs.Catalog.Lists.{each_true, none_before}
use Rattle.hq_laws_written.proofs.Metadata.Lists.{front_differ}

-- names that differ from the known ones and from each other are added
all_added : (path : List ℕ) (known names : List (List ℕ)) → all_differ bytes_eq (known ++ names) ≡ true → added path known names ≡ Ok (known ++ names)
all_added path known [] h = ap Ok (sym (append-nil known))
all_added path known (n ∷ ns) h =
    rw (none_before bytes_eq known ns n h) (all_added path (known ++ n ∷ []) ns (rw (append_assoc known (n ∷ []) ns) h) ∙ ap Ok (append_assoc known (n ∷ []) ns))

-- ---- a table's own names

-- the names of relationships that stand in the schema, behind the known ones
abbrev shown : MetaTree → List Rel → List Rel
shown m rs = filter (λ r. is_in_schema m r.remote) rs

abbrev grown : MetaTree → Own → List Rel → Own
grown m own rs = record { fields = own.fields ++ flat_map rel_fields (shown m rs); inputs = own.inputs ++ map (λ r. r.name) (shown m rs) }

-- the names do not stand twice
abbrev Differ : Own → Type 0
Differ own = (all_differ bytes_eq own.fields ≡ true) × (all_differ bytes_eq own.inputs ≡ true)

-- one more that is shown, and the rest
one_more : (m : MetaTree) (own : Own) (r : Rel) (rs : List Rel) → grown m (record { fields = own.fields ++ rel_fields r; inputs = own.inputs ++ r.name ∷ [] }) rs
    ≡ record { fields = own.fields ++ (rel_fields r ++ flat_map rel_fields (shown m rs)); inputs = own.inputs ++ r.name ∷ map (λ q. q.name) (shown m rs) }
one_more m own r rs =
    rw (append_assoc own.fields (rel_fields r) (flat_map rel_fields (shown m rs)), append_assoc own.inputs (r.name ∷ []) (map (λ q. q.name) (shown m rs))) refl

-- the names behind the known ones, where the first relationship is shown or not
abbrev grown_by : MetaTree → Own → Rel → List Rel → Bool → Own
grown_by m own r rs b = record { fields = own.fields ++ flat_map rel_fields (cond b (r ∷ shown m rs) (shown m rs)); inputs = own.inputs ++ map (λ q. q.name) (cond b (r ∷ shown m rs) (shown m rs)) }

-- one relationship, and then the rest
one_rel : (m : MetaTree) (path : List ℕ) (n : ℕ) (own : Own) (r : Rel) (rs : List Rel) (b : Bool) → is_in_schema m r.remote ≡ b
    → ((next : Own) → Differ (grown m next rs) → with_rels m path (n + 1) next rs ≡ Ok (grown m next rs)) → Differ (grown_by m own r rs b)
    → with_rels m path n own (r ∷ rs) ≡ Ok (grown_by m own r rs b)
unfolding with_shown_rel with_rel
one_rel m path n own r rs true e later h =
    let more : Own = record { fields = own.fields ++ rel_fields r; inputs = own.inputs ++ r.name ∷ [] } in
    let here = member_path (item_path path n) (codes "name") in
    let all : Differ (grown m more rs) = subst Differ (sym (one_more m own r rs)) h in
    let fields = all_added here own.fields (rel_fields r) (front_differ bytes_eq more.fields (flat_map rel_fields (shown m rs)) all.0) in
    let inputs = all_added here own.inputs (r.name ∷ []) (front_differ bytes_eq more.inputs (map (λ (q : Rel). q.name) (shown m rs)) all.1) in
    rw (e, fields, inputs) (later more all ∙ ap Ok (one_more m own r rs))
one_rel m path n own r rs false e later h = rw e (later own h)

-- the names of relationships are added
rels_added : (m : MetaTree) (path : List ℕ) (n : ℕ) (own : Own) (rs : List Rel) → Differ (grown m own rs) → with_rels m path n own rs ≡ Ok (grown m own rs)
rels_added m path n own [] h = rw (append-nil own.fields, append-nil own.inputs) refl
rels_added m path n own (r ∷ rs) h = one_rel m path n own r rs (is_in_schema m r.remote) refl (λ next k. rels_added m path (n + 1) next rs k) h

-- relationships in two parts
filter_append : {A : Type 0} (p : A → Bool) (xs ys : List A) → filter p (xs ++ ys) ≡ filter p xs ++ filter p ys
filter_append p [] ys = refl
filter_append p (x ∷ xs) ys =
    let later = filter_append p xs ys in
    let go : (b : Bool) → cond b (x ∷ filter p (xs ++ ys)) (filter p (xs ++ ys)) ≡ cond b (x ∷ filter p xs) (filter p xs) ++ filter p ys = elim [ true ↦ ap (λ l. x ∷ l) later | false ↦ later ] in
    go (p x)

flat_append : {A B : Type 0} (f : A → List B) (xs ys : List A) → flat_map f (xs ++ ys) ≡ flat_map f xs ++ flat_map f ys
flat_append f [] ys = refl
flat_append f (x ∷ xs) ys = ap (λ l. f x ++ l) (flat_append f xs ys) ∙ sym (append_assoc (f x) (flat_map f xs) (flat_map f ys))

map_append : {A B : Type 0} (f : A → B) (xs ys : List A) → map f (xs ++ ys) ≡ map f xs ++ map f ys
map_append f [] ys = refl
map_append f (x ∷ xs) ys = ap (λ l. f x ∷ l) (map_append f xs ys)

twice_grown : (m : MetaTree) (own : Own) (xs ys : List Rel) → grown m (grown m own xs) ys ≡ grown m own (xs ++ ys)
twice_grown m own xs ys =
    let parts = filter_append (λ r. is_in_schema m r.remote) xs ys in
    let fields : (own.fields ++ flat_map rel_fields (shown m xs)) ++ flat_map rel_fields (shown m ys) ≡ own.fields ++ flat_map rel_fields (shown m (xs ++ ys)) =
    append_assoc own.fields (flat_map rel_fields (shown m xs)) (flat_map rel_fields (shown m ys))
    ∙ ap (λ l. own.fields ++ l) (sym (flat_append rel_fields (shown m xs) (shown m ys)) ∙ ap (flat_map rel_fields) (sym parts)) in
    let inputs : (own.inputs ++ map (λ r. r.name) (shown m xs)) ++ map (λ r. r.name) (shown m ys) ≡ own.inputs ++ map (λ r. r.name) (shown m (xs ++ ys)) =
    append_assoc own.inputs (map (λ (r : Rel). r.name) (shown m xs)) (map (λ (r : Rel). r.name) (shown m ys))
    ∙ ap (λ l. own.inputs ++ l) (sym (map_append (λ (r : Rel). r.name) (shown m xs) (shown m ys)) ∙ ap (map (λ r. r.name)) (sym parts)) in
    let make : List (List ℕ) → List (List ℕ) → Own = λ fs is. record { fields = fs; inputs = is } in
    ap₂ make fields inputs

all_rels_added : (m : MetaTree) (path : List ℕ) (own : Own) (rs : List Rel) → Differ (grown m own rs) → with_all_rels m path own rs ≡ Ok (grown m own rs)
unfolding with_all_rels object_count
all_rels_added m path own rs h =
    let whole : objects_of rs ++ arrays_of rs ≡ rs = take-append-drop (object_count rs) rs in
    let both : grown m (grown m own (objects_of rs)) (arrays_of rs) ≡ grown m own rs = twice_grown m own (objects_of rs) (arrays_of rs) ∙ ap (grown m own) whole in
    let all : Differ (grown m (grown m own (objects_of rs)) (arrays_of rs)) = subst Differ (sym both) h in
    let first : Differ (grown m own (objects_of rs)) = (
      front_differ bytes_eq (grown m own (objects_of rs)).fields (flat_map rel_fields (shown m (arrays_of rs))) all.0,
      front_differ bytes_eq (grown m own (objects_of rs)).inputs (map (λ r. r.name) (shown m (arrays_of rs))) all.1,
    ) in
    ap (and_then (λ o. with_rels m (member_path path (codes "array_relationships")) 0 o (arrays_of rs))) (rels_added m (member_path path (codes "object_relationships")) 0 own (objects_of rs) first)
    ∙ rels_added m (member_path path (codes "array_relationships")) 0 (grown m own (objects_of rs)) (arrays_of rs) all
    ∙ ap Ok both

-- the names of the columns, before any relationship's
abbrev columns_alone : TrackedTree → Own
columns_alone k = record { fields = column_names_of k; inputs = fixed_inputs ++ column_names_of k }

own_added : (m : MetaTree) (path : List ℕ) (k : TrackedTree) → (all_names_differ (fields_of m k) && all_names_differ (inputs_of m k)) ≡ true
    → own_names m path k ≡ Ok (grown m (columns_alone k) k.rels)
unfolding own_names with_columns
own_added m path k h =
    let p = and_parts _ _ h in
    let shape = append_assoc fixed_inputs (column_names_of k) (map (λ r. r.name) (rels_in_schema m k)) in
    let all : Differ (grown m (columns_alone k) k.rels) = (p.0, ap (all_differ bytes_eq) shape ∙ p.1) in
    let fields = all_added path [] (column_names_of k) (front_differ bytes_eq (column_names_of k) (flat_map rel_fields (rels_in_schema m k)) all.0) in
    let inputs = all_added path fixed_inputs (column_names_of k) (front_differ bytes_eq (fixed_inputs ++ column_names_of k) (map (λ r. r.name) (rels_in_schema m k)) all.1) in
    rw (fields, inputs) (all_rels_added m path (columns_alone k) k.rels all)

-- ---- the names of types and root fields

abbrev shared_by : Schema → Shared → List TrackedTree → Shared
shared_by s shared ks = record { types = shared.types ++ flat_map (types_of s) ks; roots = shared.roots ++ flat_map (roots_of s) ks }

tables_added : (s : Schema) (m : MetaTree) (path : List ℕ) (n : ℕ) (shared : Shared) (ks : List TrackedTree) → all_differ bytes_eq (shared.types ++ flat_map (types_of s) ks) ≡ true
    → all_differ bytes_eq (shared.roots ++ flat_map (roots_of s) ks) ≡ true → Each (λ k. (all_names_differ (fields_of m k) && all_names_differ (inputs_of m k)) ≡ true) ks
    → with_tables s m path n shared ks ≡ Ok (shared_by s shared ks)
unfolding with_table
tables_added s m path n shared [] types roots own = rw (append-nil shared.types, append-nil shared.roots) refl
tables_added s m path n shared (k ∷ ks) types roots own =
    let here = item_path path n in
    let more : Shared = record { types = shared.types ++ types_of s k; roots = shared.roots ++ roots_of s k } in
    let type_shape = append_assoc shared.types (types_of s k) (flat_map (types_of s) ks) in
    let root_shape = append_assoc shared.roots (roots_of s k) (flat_map (roots_of s) ks) in
    let all_types = ap (all_differ bytes_eq) type_shape ∙ types in
    let all_roots = ap (all_differ bytes_eq) root_shape ∙ roots in
    let new_types = all_added here shared.types (types_of s k) (front_differ bytes_eq more.types (flat_map (types_of s) ks) all_types) in
    let new_roots = all_added here shared.roots (roots_of s k) (front_differ bytes_eq more.roots (flat_map (roots_of s) ks) all_roots) in
    rw (new_types, new_roots, own_added m here k own.0)
    (tables_added s m path (n + 1) more ks all_types all_roots own.1 ∙ rw (type_shape, root_shape) refl)

-- no scalar is refused
scalars_passed : (s : Schema) (types : List (List ℕ)) (path : List ℕ) (n : ℕ) (ks : List TrackedTree) → Each (λ k. scalars_differ s types k ≡ true) ks → scalars_due s types path n ks ≡ Ok tt
scalars_passed s types path n [] h = refl
scalars_passed s types path n (k ∷ ks) h = rw h.0 (scalars_passed s types path (n + 1) ks h.1)

-- no name is refused
pub no_repeat : (s : Schema) (m : MetaTree) (path : List ℕ) → names_differ s m ≡ true → names_due s m path ≡ Ok tt
unfolding names_due
no_repeat s m path h =
    let last = and_parts _ _ h in
    let p = and_parts _ _ last.0 in
    let q = and_parts _ _ p.0 in
    let first : Shared = record { types = fixed_types; roots = [] } in
    ap (and_then (λ (shared : Shared). scalars_due s shared.types path 0 m.tracked))
    (tables_added s m path 0 first m.tracked q.0 q.1
    (each_true (λ (k : TrackedTree). all_names_differ (fields_of m k) && all_names_differ (inputs_of m k)) m.tracked p.1))
    ∙ scalars_passed s (all_types s m) path 0 m.tracked (each_true (scalars_differ s (all_types s m)) m.tracked last.1)
