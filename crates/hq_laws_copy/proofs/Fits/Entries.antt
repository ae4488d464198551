-- The entries of a copy's metadata fit its catalog.
use Rattle.std.proofs.Common.{◌≡◌, ℕ, zero, suc, ◌+◌, ◌≤◌, ◌<◌, ◌^◌, List, [], ◌∷◌, ◌++◌, map, length, Bool, true, false, cond, ◌==◌, max, Option, Some, None, refl, sym, ap, ap₂, ◌∙◌, subst, arith, is_some, slice_get, nat_lt, length-append}
use Rattle.std.proofs.lemmas.Bool.{and_parts, and_from, eq-eqb, ne_eqb, lt-ltb, ltb-true}
use Rattle.std.proofs.lemmas.List.Folds.{find_at}
use Rattle.std.proofs.lemmas.Option.{slice_get-get_or}
use Rattle.std.specs.List.{find, list_all, list_any, position_or_len}
use Rattle.std.specs.Prelude.{bytes_eq, option_and_then, option_map, slice_index_or, unwrap_or}
use Rattle.hq_base.specs.Lists.{Each, all_differ}
use Rattle.hq_base.specs.declared.value.Ty.TheVariants.{Bigint}
use Rattle.hq_base.proofs.Lists.{each_weaken}
use Rattle.hq_model.specs.Bexp.{always}
use Rattle.hq_model.specs.Catalog.{can_pair}
use Rattle.hq_model.specs.Filters.{column_ty}
use Rattle.hq_model.specs.Fits.{fits, is_rel_name, fits_rel, fits_perm, fits_tracked, limit_fits, objects_first}
use Rattle.hq_model.specs.Meta.{MetaTree, PermTree, TrackedTree, tracked_table}
use Rattle.hq_model.specs.Permission.{Permission, permission, permission_in, with_columns, own_permission, told_permission, permissions_of, option_list, set_of, or_inherited, columns_of_any, either, filters_of, limit_of, largest, larger, some_aggregate, masks_for, named_columns}
use Rattle.hq_model.specs.Schema.{Schema, schema_of, numbered, table, rel, no_rel, no_column}
use Rattle.hq_model.specs.View.{places_from}
use Rattle.hq_model.specs.declared.meta.Inherited.{Inherited}
use Rattle.hq_model.specs.declared.meta.Rel.{Rel}
use Rattle.hq_model.specs.declared.role.Role.{Role}
use Rattle.hq_model.specs.declared.role.Role.TheVariants.{Admin, Named}
use Rattle.hq_model.specs.declared.table.Column.{Column}
use Rattle.hq_model.specs.declared.table.Table.{Table}
use Rattle.hq_model.proofs.Places.{present}
use Rattle.hq_copy_definition.specs.Extras.{Extra, row_position, ends_of, extras_of, is_from_end, is_to_end, extra_name, extra_column}
use Rattle.hq_copy_definition.specs.Metadata.{to_place, copied_pair, copied_rel, places, reader_permission, copied_names, copied_entry, copied_meta}
use Rattle.hq_copy_definition.specs.Sources.{Source, sources, table_place, kept_relationships, keeps_key, Link, links}
use Rattle.hq_copy_definition.specs.Tables.{copied_column, copied_columns, copied_table, copied_tables}
use Rattle.hq_copy_definition.proofs.BySource.{IsSource, by_source}
use Rattle.hq_copy_definition.proofs.Found.{copied_schema, entry_at, table_at}
use Rattle.hq_copy_definition.proofs.Places.{places_within}
use Rattle.hq_laws_copy.proofs.Views.Cells.{link_there, from_there, to_there, width_is}
use Rattle.hq_laws_copy.proofs.Fits.Columns.{extra_at}
use Rattle.hq_laws_copy.proofs.Fits.Held.{Held, all_held}
use Rattle.hq_copy_definition.proofs.Apart.{Apart, apart_differ}
use Rattle.hq_copy_definition.proofs.Found.{schema_long}
use Rattle.hq_copy_definition.proofs.Lists.{each_map, got_front, map_length, found_there, got_within, found_each, each_member, all_each, each_both}

-- ---- limits

larger_fits : (a b : Option ℕ) → limit_fits a ≡ true → limit_fits b ≡ true → limit_fits (larger a b) ≡ true
larger_fits None b h g = refl
larger_fits (Some a) None h g = refl
larger_fits (Some a) (Some b) h g =
    let low = ltb-true a (2 ^ 63) h in
    let high = ltb-true b (2 ^ 63) g in
    lt-ltb (max a b) (2 ^ 63) (omega arith)

largest_fits : (l : Option ℕ) (ps : List Permission) → limit_fits l ≡ true → Each (λ p. limit_fits p.limit ≡ true) ps → limit_fits (largest l ps) ≡ true
largest_fits l [] h g = h
largest_fits l (p ∷ ps) h g = largest_fits (larger l p.limit) ps (larger_fits l p.limit h g.0) g.1

limit_of_fits : (ps : List Permission) → Each (λ p. limit_fits p.limit ≡ true) ps → limit_fits (limit_of ps) ≡ true
limit_of_fits [] h = refl
limit_of_fits (p ∷ ps) h = largest_fits p.limit ps h.0 h.1

with_limit : (base p : Permission) (cs : List ℕ) → with_columns base cs ≡ Some p → p.limit ≡ base.limit
with_limit base p [] e = cc
with_limit base p (c ∷ cs) e = let is : record base { columns = c ∷ cs } ≡ p = cc in sym (ap (λ (q : Permission). q.limit) is)

module _ (k : TrackedTree) (perms : Each (λ (q : PermTree). limit_fits q.limit ≡ true) k.perms) where
  own_limit : (name : List ℕ) (p : Permission) → own_permission k name ≡ Some p → limit_fits p.limit ≡ true
  own_limit name p e =
      let go : (o : Option PermTree) → find (λ q. bytes_eq q.role name) k.perms ≡ o → option_and_then (told_permission k) o ≡ Some p → limit_fits p.limit ≡ true =
      elim [
        | None ↦ λ f g. cc
        | Some q ↦ λ f g.
            ap limit_fits (with_limit (record { columns = []; filter = q.filter; limit = q.limit; aggregations = q.aggregations; masks = [] }) p _ g)
            ∙ found_each (λ (q : PermTree). limit_fits q.limit ≡ true) (λ q. bytes_eq q.role name) k.perms q perms f
      ] in
      go (find (λ q. bytes_eq q.role name) k.perms) refl e

  set_limits : (rs : List (List ℕ)) → Each (λ p. limit_fits p.limit ≡ true) (permissions_of k rs)
  set_limits [] = tt
  set_limits (r ∷ rs) =
      let go : (o : Option Permission) → own_permission k r ≡ o → Each (λ p. limit_fits p.limit ≡ true) (option_list o ++ permissions_of k rs) =
      elim [ None ↦ λ e. set_limits rs | Some p ↦ λ e. (own_limit r p e, set_limits rs) ] in
      go (own_permission k r) refl

  limit_is : (role : Role) (is : List Inherited) (p : Permission) → permission_in role is k ≡ Some p → limit_fits p.limit ≡ true
  limit_is Admin is p e = ap limit_fits (with_limit (record { columns = []; filter = always; limit = None; aggregations = true; masks = [] }) p (named_columns k) e)
  limit_is (Named name) is p e =
      let ps : List Permission = permissions_of k (set_of is name) in
      let go : (o : Option Permission) → own_permission k name ≡ o → or_inherited o k (set_of is name) ≡ Some p → limit_fits p.limit ≡ true =
      elim [
        | None ↦ λ f g.
            ap limit_fits (with_limit
            (record { columns = []; filter = either (filters_of ps); limit = limit_of ps; aggregations = some_aggregate ps; masks = masks_for ps (columns_of_any k ps) }) p (columns_of_any k ps) g)
            ∙ limit_of_fits ps (set_limits (set_of is name))
        | Some q ↦ λ f g. own_limit name p (f ∙ g)
      ] in
      go (own_permission k name) refl e

-- ---- places

-- items that are numbered from k on, and where they stand
pub each_numbered : {A B : Type 0} (f : ℕ → A → B) (P : B → Type 0) (Q : A → Type 0) (zs : List A) → ((i : ℕ) (x : A) → slice_get zs i ≡ Some x → Q x → P (f i x)) → (k : ℕ) (xs : List A)
    → ((j : ℕ) → slice_get zs (k + j) ≡ slice_get xs j) → Each Q xs → Each P (numbered f k xs)
each_numbered f P Q zs on k [] at h = tt
each_numbered f P Q zs on k (x ∷ xs) at h =
    let here : k + 0 ≡ k = omega arith in (
      on k x (subst (λ i. slice_get zs i ≡ Some x) here (at 0)) h.0,
      each_numbered f P Q zs on (suc k) xs (λ j. let next : k + suc j ≡ suc k + j = omega arith in subst (λ i. slice_get zs i ≡ slice_get xs j) next (at (suc j))) h.1,
    )

-- what stands at the places at which a test is true
pub places_facts : {A : Type 0} (test : A → Bool) (P : A → Type 0) (zs : List A) (k : ℕ) (xs : List A) → ((j : ℕ) → slice_get zs (k + j) ≡ slice_get xs j) → Each P xs
    → Each (λ r. (x : A) × (slice_get zs r ≡ Some x) × (test x ≡ true) × P x) (places_from test k xs)
places_facts test P zs k [] at h = tt
places_facts test P zs k (x ∷ xs) at h =
    let here : k + 0 ≡ k = omega arith in
    let stands : slice_get zs k ≡ Some x = subst (λ i. slice_get zs i ≡ Some x) here (at 0) in
    let later = places_facts test P zs (suc k) xs (λ j. let next : k + suc j ≡ suc k + j = omega arith in subst (λ i. slice_get zs i ≡ slice_get xs j) next (at (suc j))) h.1 in
    let go : (b : Bool) → test x ≡ b → Each (λ r. (x : _) × (slice_get zs r ≡ Some x) × (test x ≡ true) × P x) (cond b (k ∷ places_from test (suc k) xs) (places_from test (suc k) xs)) =
    elim [ true ↦ λ e. ((x, stands, e, h.0), later) | false ↦ λ e. later ] in
    go (test x) refl

pub from_zero : {A : Type 0} (xs : List A) (j : ℕ) → slice_get xs (0 + j) ≡ slice_get xs j
from_zero xs j = let zeroth : 0 + j ≡ j = omega arith in ap (slice_get xs) zeroth

-- object relationships stay first
many_later : (f : ℕ → Rel) (test : Rel → Bool) (k : ℕ) (xs : List Rel) → ((j : ℕ) → slice_get (map (λ r. r.many) xs) j ≡ option_map (λ x. (f (k + j)).many) (slice_get xs j))
    → list_all (λ q. q.many) xs ≡ true → list_all (λ q. q.many) (map f (places_from test k xs)) ≡ true
many_later f test k [] at h = refl
many_later f test k (x ∷ xs) at h =
    let both = and_parts x.many (list_all (λ q. q.many) xs) h in
    let same : k + 0 ≡ k = omega arith in
    let here : x.many ≡ (f k).many = let first = at 0 in let is : x.many ≡ (f (k + 0)).many = cc in is ∙ ap (λ i. (f i).many) same in
    let later = many_later f test (suc k) xs (λ j. let next : k + suc j ≡ suc k + j = omega arith in at (suc j) ∙ ap (λ i. option_map (λ x. (f i).many) (slice_get xs j)) next) both.1 in
    let go : (b : Bool) → list_all (λ q. q.many) (map f (cond b (k ∷ places_from test (suc k) xs) (places_from test (suc k) xs))) ≡ true =
    elim [ true ↦ and_from _ _ (sym here ∙ both.0) later | false ↦ later ] in
    go (test x)

order_kept : (f : ℕ → Rel) (test : Rel → Bool) (k : ℕ) (xs : List Rel) → ((j : ℕ) → slice_get (map (λ r. r.many) xs) j ≡ option_map (λ x. (f (k + j)).many) (slice_get xs j))
    → objects_first xs ≡ true → objects_first (map f (places_from test k xs)) ≡ true
order_kept f test k [] at h = refl
order_kept f test k (x ∷ xs) at h =
    let same : k + 0 ≡ k = omega arith in
    let here : x.many ≡ (f k).many = let first = at 0 in let is : x.many ≡ (f (k + 0)).many = cc in is ∙ ap (λ i. (f i).many) same in
    let next : (j : ℕ) → slice_get (map (λ r. r.many) xs) j ≡ option_map (λ x. (f (suc k + j)).many) (slice_get xs j) =
    λ j. let step : k + suc j ≡ suc k + j = omega arith in at (suc j) ∙ ap (λ i. option_map (λ x. (f i).many) (slice_get xs j)) step in
    let cases : (c : Bool) → x.many ≡ c → cond c (list_all (λ q. q.many) xs) (objects_first xs) ≡ true → (b : Bool) → objects_first
    (map f (cond b (k ∷ places_from test (suc k) xs) (places_from test (suc k) xs))) ≡ true =
    elim [
      | true ↦ λ e g. elim [
        | true ↦ ap (λ c. cond c (list_all (λ q. q.many) (map f (places_from test (suc k) xs))) (objects_first (map f (places_from test (suc k) xs)))) (sym here ∙ e)
            ∙ many_later f test (suc k) xs next g
        | false ↦ order_kept f test (suc k) xs next (all_first xs g)
      ]
      | false ↦ λ e g. elim [
        | true ↦ ap (λ c. cond c (list_all (λ q. q.many) (map f (places_from test (suc k) xs))) (objects_first (map f (places_from test (suc k) xs)))) (sym here ∙ e)
            ∙ order_kept f test (suc k) xs next g
        | false ↦ order_kept f test (suc k) xs next g
      ]
    ] in
    cases x.many refl h (test x)
  where
    all_first : (xs : List Rel) → list_all (λ q. q.many) xs ≡ true → objects_first xs ≡ true
    all_first [] h = refl
    all_first (x ∷ xs) h = let both = and_parts x.many (list_all (λ q. q.many) xs) h in ap (λ c. cond c (list_all (λ q. q.many) xs) (objects_first xs)) both.0 ∙ both.1

-- ---- entries

module _ (tables : List Table) (m : MetaTree) (role : Role) (fit : fits tables m ≡ true) where
  abbrev s : Schema
  s = schema_of tables m

  abbrev os : List Source
  os = sources role m

  abbrev z : Schema
  z = copied_schema role m s

  abbrev k : MetaTree
  k = copied_meta role m s

  -- the relationships of a source's table are those of its entry
  pub rels_are : (o : Source) → Held tables m role o → (table s o.entry.table).rels ≡ o.entry.rels
  rels_are o h = ap (λ x. x.rels) h.table_is ∙ ap (λ e. unwrap_or (option_map (λ (j : TrackedTree). j.rels) e) []) h.is.tracked

  -- kept relationships: each is there, leads to a copied table, and fits
  pub kept_facts : (o : Source) → Held tables m role o
      → Each (λ r. (x : Rel) × (slice_get (table s o.entry.table).rels r ≡ Some x) × (is_some (permission role m x.remote) ≡ true) × (fits_rel s m o.entry.table x ≡ true))
      (kept_relationships role m s o.entry.table)
  kept_facts o h =
      let rels : List Rel = (table s o.entry.table).rels in
      places_facts (λ (r : Rel). is_some (permission role m r.remote)) (λ x. fits_rel s m o.entry.table x ≡ true) rels 0 rels (from_zero rels)
      (subst (Each (λ x. fits_rel s m o.entry.table x ≡ true)) (sym (rels_are o h)) h.entry.rels)

  -- the type of an added column
  extra_ty : (u : ℕ) (o : Source) → slice_get os u ≡ Some o → (j : ℕ) (e : Extra) → slice_get (extras_of role m s o) j ≡ Some e → column_ty z u (length o.permission.columns + j) ≡ Some Bigint
  extra_ty u o at j e a =
      ap (λ (cs : List Column). option_map (λ (c : Column). c.ty) (slice_get cs (length o.permission.columns + j))) (ap (λ x. x.columns) (table_at role m s u o at))
      ∙ ap (option_map (λ (c : Column). c.ty)) (extra_at role m s o j e a)

  -- the two ends of a kept relationship are whole numbers
  from_ty : (u : ℕ) (o : Source) → slice_get os u ≡ Some o → Held tables m role o → (r : ℕ) → list_any (λ q. q == r) (kept_relationships role m s o.entry.table) ≡ true
      → column_ty z u (copied_pair role m s o.entry.table r).own ≡ Some Bigint
  from_ty u o at h r kept =
      let t : ℕ = o.entry.table in
      let l : Link = record { table = t; relationship = r } in
      let found = found_there (is_from_end l) (ends_of role m s t) (from_there role m s t l refl 1 (links role m s) (link_there role m s o h.is r kept)) in
      let place : ℕ = position_or_len (is_from_end l) (ends_of role m s t) in
      ap (λ w. column_ty z u (w + place)) (width_is role m s o h.is)
      ∙ extra_ty u o at place found.0
      (got_front (ends_of role m s t) (cond (keeps_key o.permission (table s t).key) [] (row_position ∷ [])) place found.0 (sym (find_at (is_from_end l) (ends_of role m s t)) ∙ found.1))

  to_ty : (o : Source) → Held tables m role o → (r : ℕ) → list_any (λ q. q == r) (kept_relationships role m s o.entry.table) ≡ true
      → (w : Source) → IsSource role m w → (rel s o.entry.table r).remote ≡ w.entry.table → column_ty z (table_place os w.entry.table) (copied_pair role m s o.entry.table r).remote ≡ Some Bigint
  to_ty o h r kept w isw far =
      let u : ℕ = w.entry.table in
      let l : Link = record { table = o.entry.table; relationship = r } in
      let found = found_there (is_to_end l) (ends_of role m s u) (to_there role m s u l far 1 (links role m s) (link_there role m s o h.is r kept)) in
      let place : ℕ = position_or_len (is_to_end l) (ends_of role m s u) in
      ap (λ v. column_ty z (table_place os u) (to_place role m s v l)) far
      ∙ ap (λ v. column_ty z (table_place os u) (v + place)) (width_is role m s w isw)
      ∙ extra_ty (table_place os u) w isw.place place found.0
      (got_front (ends_of role m s u) (cond (keeps_key w.permission (table s u).key) [] (row_position ∷ [])) place found.0 (sym (find_at (is_to_end l) (ends_of role m s u)) ∙ found.1))

  -- a kept relationship fits the copy
  rel_fits : (u : ℕ) (o : Source) → slice_get os u ≡ Some o → Held tables m role o → (r : ℕ) (x : Rel) → slice_get (table s o.entry.table).rels r ≡ Some x
      → is_some (permission role m x.remote) ≡ true → fits_rel s m o.entry.table x ≡ true
      → list_any (λ q. q == r) (kept_relationships role m s o.entry.table) ≡ true → fits_rel z k u (copied_rel role m s o.entry.table r) ≡ true
  rel_fits u o at h r x there seen fits_x kept =
      let t : ℕ = o.entry.table in
      let is : rel s t r ≡ x = present (table s t).rels r no_rel x there in
      let name : is_rel_name (rel s t r) ≡ true = ap is_rel_name is ∙ (and_parts _ _ (and_parts _ _ (and_parts _ _ fits_x).0).0).0 in
      let far : is_some (permission role m (rel s t r).remote) ≡ true = ap (λ (y : Rel). is_some (permission role m y.remote)) is ∙ seen in
      let copied : is_some (tracked_table k (table_place os (rel s t r).remote)) ≡ true =
      by_source role m (λ v. is_some (tracked_table k (table_place os v)) ≡ true) (λ w isw. ap is_some (entry_at role m s (table_place os w.entry.table) w isw.place)) (rel s t r).remote far in
      let ends : can_pair (column_ty z u (copied_pair role m s t r).own) (column_ty z (table_place os (rel s t r).remote) (copied_pair role m s t r).remote) ≡ true =
      ap₂ can_pair (from_ty u o at h r kept)
      (by_source role m (λ v. (rel s t r).remote ≡ v → column_ty z (table_place os v) (copied_pair role m s t r).remote ≡ Some Bigint) (λ w isw e. to_ty o h r kept w isw e)
      (rel s t r).remote far refl) in
      and_from _ _ (and_from _ _ (and_from _ _ name copied) refl) (and_from _ _ ends refl)

  rels_fit : (u : ℕ) (o : Source) → slice_get os u ≡ Some o → Held tables m role o
      → Each (λ x. fits_rel z k u x ≡ true) (map (copied_rel role m s o.entry.table) (kept_relationships role m s o.entry.table))
  rels_fit u o at h =
      let t : ℕ = o.entry.table in
      let kept : List ℕ = kept_relationships role m s t in
      each_map (λ x. fits_rel z k u x ≡ true) (copied_rel role m s t) kept
      (each_both (λ r. list_any (λ q. q == r) kept ≡ true) (λ r. (x : Rel) × (slice_get (table s t).rels r ≡ Some x) × (is_some (permission role m x.remote) ≡ true) × (fits_rel s m t x ≡ true)) _
      (λ r a b. rel_fits u o at h r b.0 b.1 b.2 b.3 a) kept (each_member kept) (kept_facts o h))

  -- the reader's permission fits
  perm_fits : (u : ℕ) (o : Source) → slice_get os u ≡ Some o → Held tables m role o → fits_perm z k u (reader_permission o.permission) ≡ true
  perm_fits u o at h =
      let p : Permission = o.permission in
      let t : ℕ = o.entry.table in
      let cs : List Column = copied_columns role m s o in
      let columns : Each (λ c. is_some (column_ty z u c) ≡ true) (places 0 p.columns) =
      each_weaken (λ c. (0 ≤ c) × (c < 0 + length p.columns)) (λ c. is_some (column_ty z u c) ≡ true)
      (λ c g. let most = g.1 in
      let inside : c < length cs = omega (arith, length-append (map (copied_column s p t) p.columns) (map extra_column (extras_of role m s o)), map_length (copied_column s p t) p.columns) in
      ap (λ x. is_some (option_map (λ (y : Column). y.ty) (slice_get x.columns c))) (table_at role m s u o at)
      ∙ ap (λ w. is_some (option_map (λ (y : Column). y.ty) w)) (slice_get-get_or cs c no_column inside)) (places 0 p.columns) (places_within 0 p.columns) in
      let limits : Each (λ (q : PermTree). limit_fits q.limit ≡ true) o.entry.perms =
      each_weaken (λ q. fits_perm s m t q ≡ true) (λ (q : PermTree). limit_fits q.limit ≡ true) (λ q g. (and_parts _ _ (and_parts _ _ g).0).1) o.entry.perms h.entry.perms in
      and_from _ _ (and_from _ _ (and_from _ _ (and_from _ _ (and_from _ _ refl (all_each (λ c. is_some (column_ty z u c)) (places 0 p.columns) columns)) refl) refl)
      (limit_is o.entry limits role m.inherited p h.given)) refl

  entry_fits : (u : ℕ) (o : Source) → slice_get os u ≡ Some o → Held tables m role o → fits_tracked z k (copied_entry role m s u o) ≡ true
  entry_fits u o at h =
      let p : Permission = o.permission in
      let t : ℕ = o.entry.table in
      let es : List Extra = extras_of role m s o in
      let inside : nat_lt u (length z) ≡ true = lt-ltb u (length z) (omega (arith, got_within os u o at, schema_long k 0 (copied_tables role m s), map_length (copied_table role m s) os)) in
      let names : length (copied_names role m s o) ≡ length (copied_columns role m s o) =
      omega (
        arith,
        length-append (map (λ c. slice_index_or o.entry.column_names c []) p.columns) (map extra_name es),
        length-append (map (copied_column s p t) p.columns)
            (map extra_column es),
        map_length (λ c. slice_index_or o.entry.column_names c []) p.columns,
        map_length extra_name es,
        map_length (copied_column s p t) p.columns,
        map_length extra_column es,
      ) in
      let long : (length (copied_names role m s o) == length (table z u).columns) ≡ true = eq-eqb _ _ (names ∙ sym (ap (λ x. length x.columns) (table_at role m s u o at))) in
      let order : objects_first (map (copied_rel role m s t) (kept_relationships role m s t)) ≡ true =
      order_kept (copied_rel role m s t) (λ (r : Rel). is_some (permission role m r.remote)) 0 (table s t).rels
      (λ j. let zeroth : 0 + j ≡ j = omega arith in many_at (table s t).rels j ∙ ap (λ i. option_map (λ x. (rel s t i).many) (slice_get (table s t).rels j)) (sym zeroth))
      (ap objects_first (rels_are o h) ∙ h.entry.order) in
      and_from _ _ (and_from _ _ (and_from _ _ (and_from _ _ (and_from _ _ (and_from _ _ (and_from _ _ inside h.entry.name) long) h.entry.roots)
      (all_each (fits_rel z k u) (map (copied_rel role m s t) (kept_relationships role m s t)) (rels_fit u o at h))) order) refl) (and_from _ _ (perm_fits u o at h) refl)
    where
      many_at : (xs : List Rel) (j : ℕ) → slice_get (map (λ r. r.many) xs) j ≡ option_map (λ x. (slice_index_or xs j no_rel).many) (slice_get xs j)
      many_at [] j = refl
      many_at (x ∷ xs) zero = refl
      many_at (x ∷ xs) (suc j) = many_at xs j

  pub entries_fit : list_all (fits_tracked z k) k.tracked ≡ true
  entries_fit =
      all_each (fits_tracked z k) k.tracked
      (each_numbered (copied_entry role m s) (λ e. fits_tracked z k e ≡ true) (Held tables m role) os entry_fits 0 os (from_zero os) (all_held tables m role fit))

  -- each table is tracked once
  pub tracked_once : all_differ (λ (i j : TrackedTree). i.table == j.table) k.tracked ≡ true
  tracked_once = apart_differ (λ (i j : TrackedTree). i.table == j.table) k.tracked (numbers_apart 0 os)
    where
      least : (i : ℕ) (xs : List Source) → Each (λ (e : TrackedTree). i ≤ e.table) (numbered (copied_entry role m s) i xs)
      least i [] = tt
      least i (x ∷ xs) =
          let here : i ≤ i =
          omega arith in (
            here,
            each_weaken (λ (e : TrackedTree). suc i ≤ e.table) (λ (e : TrackedTree). i ≤ e.table) (λ e h. omega arith) (numbered (copied_entry role m s) (suc i) xs)
                (least (suc i) xs),
          )

      numbers_apart : (i : ℕ) (xs : List Source) → Apart (λ (a b : TrackedTree). a.table == b.table) (numbered (copied_entry role m s) i xs)
      numbers_apart i [] = tt
      numbers_apart i (x ∷ xs) = (
        each_weaken (λ (e : TrackedTree). suc i ≤ e.table) (λ (e : TrackedTree). (i == e.table) ≡ false) (λ e h. ne_eqb i e.table (omega arith)) (numbered (copied_entry role m s) (suc i) xs)
            (least (suc i) xs),
        numbers_apart (suc i) xs,
      )
