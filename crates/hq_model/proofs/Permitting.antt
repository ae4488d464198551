-- What a role may see of a table is there, where the metadata fits the catalog.
use Rattle.std.proofs.Common.{◌≡◌, ℕ, suc, ◌+◌, ◌<◌, ◌≤◌, List, [], ◌∷◌, ◌++◌, length, filter, find, Bool, true, false, cond, ◌==◌, Option, Some, None, is_some, refl, ap, subst, ◌∙◌, arith}
use Rattle.std.specs.List.{list_any, list_all}
use Rattle.std.specs.Prelude.{bytes_eq, option_map, option_and_then}
use Rattle.std.proofs.lemmas.Bool.{and_parts, and_from, eqb-true, ltb-true, leb-true}
use Rattle.std.proofs.lemmas.Option.{slice_get-get_or}
use Rattle.hq_base.specs.Lists.{Each}
use Rattle.hq_base.proofs.Lists.{each_weaken, each_filter}
use Rattle.hq_model.specs.Bexp.{BexpTree, always, bexps_of, depth}
use Rattle.hq_model.specs.Filters.{is_filter, are_filters}
use Rattle.hq_model.specs.Fits.{fits, fits_perm, fits_tracked}
use Rattle.hq_model.specs.Laws.{HasColumn, IsLowFilter, IsMask, IsPermission, PermissionsFit}
use Rattle.hq_model.specs.Meta.{MetaTree, TrackedTree, PermTree, tracked_table}
use Rattle.hq_model.specs.Names.{is_free_name}
use Rattle.hq_model.specs.Permission.{Mask, Permission, with_columns, named_from, named_columns, told_permission, own_permission, permissions_of, either, permits, filters_of, filters_for, limit_of, some_aggregate, masks_for, columns_of_any, combined, set_of, or_inherited, permission_in}
use Rattle.hq_model.specs.Schema.{Schema, schema_of, table, no_column}
use Rattle.hq_model.specs.declared.meta.Inherited.{Inherited}
use Rattle.hq_model.specs.declared.role.Role.{Role}
use Rattle.hq_model.specs.declared.role.Role.TheVariants.{Admin, Named}
use Rattle.hq_model.specs.declared.table.Table.{Table}
use Rattle.hq_model.proofs.Together.{permission_holds, either_low}

-- ---- columns

-- a column that may stand in a schema has a name
named_within : (k : ℕ) (ns : List (List ℕ)) → Each (λ c. c < k + length ns) (named_from k ns)
named_within k [] = tt
named_within k (n ∷ ns) =
    let later : Each (λ c. c < k + length (n ∷ ns)) (named_from (suc k) ns) =
    each_weaken (λ c. c < suc k + length ns) (λ c. c < k + length (n ∷ ns)) (λ c h. omega arith) (named_from (suc k) ns) (named_within (suc k) ns) in
    let here : k < k + length (n ∷ ns) = omega arith in
    let by : (b : Bool) → Each (λ c. c < k + length (n ∷ ns)) (cond b (k ∷ named_from (suc k) ns) (named_from (suc k) ns)) = elim [ true ↦ (here, later) | false ↦ later ] in
    by (is_free_name n)

-- a column of an entry
abbrev Within : TrackedTree → ℕ → Type 0
Within k c = c < length k.column_names

all_within : (k : TrackedTree) → Each (Within k) (named_columns k)
all_within k = each_weaken (λ c. c < 0 + length k.column_names) (Within k) (λ c h. omega arith) (named_columns k) (named_within 0 k.column_names)

-- columns, and those of masks
abbrev AreWithin : TrackedTree → Permission → Type 0
AreWithin k p = Each (Within k) p.columns × Each (λ m. Within k m.column) p.masks

-- what a permission with some columns has
columns_within : (k : TrackedTree) (p q : Permission) (cs : List ℕ) → Each (Within k) cs → Each (λ m. Within k m.column) p.masks → with_columns p cs ≡ Some q → AreWithin k q
columns_within k p q [] h masks e = cc
columns_within k p q (c ∷ cs) h masks e = let same : record p { columns = c ∷ cs } ≡ q = cc in subst (AreWithin k) same (h, masks)

masks_within : (k : TrackedTree) (ps : List Permission) (cs : List ℕ) → Each (Within k) cs → Each (λ m. Within k m.column) (masks_for ps cs)
masks_within k ps [] h = tt
masks_within k ps (c ∷ cs) h =
    let later = masks_within k ps cs h.1 in
    let go : (b : Bool) → Each (λ m. Within k m.column) (cond b [] (record { column = c; shown = either (filters_for c ps) } ∷ []) ++ masks_for ps cs) = elim [ true ↦ later | false ↦ (h.0, later) ] in
    go (list_all (permits c) ps)

own_within : (k : TrackedTree) (name : List ℕ) (q : Permission) → own_permission k name ≡ Some q → AreWithin k q
own_within k name q e = by (find (λ p. bytes_eq p.role name) k.perms) e
  where
    by : (o : Option PermTree) → option_and_then (told_permission k) o ≡ Some q → AreWithin k q
    by None f = cc
    by (Some p) f =
        columns_within k (record { columns = []; filter = p.filter; limit = p.limit; aggregations = p.aggregations; masks = [] }) q _
        (each_filter (Within k) (λ c. list_any (λ d. d == c) p.cols) (named_columns k) (all_within k)) tt f

set_within : (k : TrackedTree) (ps : List Permission) (q : Permission) → combined k ps ≡ Some q → AreWithin k q
set_within k ps q e =
    let cs : Each (Within k) (columns_of_any k ps) = each_filter (Within k) (λ c. list_any (permits c) ps) (named_columns k) (all_within k) in
    columns_within k (record { columns = []; filter = either (filters_of ps); limit = limit_of ps; aggregations = some_aggregate ps; masks = masks_for ps (columns_of_any k ps) }) q _
    cs (masks_within k ps (columns_of_any k ps) cs) e

permission_within : (role : Role) (is : List Inherited) (k : TrackedTree) (q : Permission) → permission_in role is k ≡ Some q → AreWithin k q
permission_within Admin is k q e = columns_within k (record { columns = []; filter = always; limit = None; aggregations = true; masks = [] }) q _ (all_within k) tt e
permission_within (Named name) is k q e = by (own_permission k name) refl e
  where
    by : (o : Option Permission) → own_permission k name ≡ o → or_inherited o k (set_of is name) ≡ Some q → AreWithin k q
    by None at f = set_within k (permissions_of k (set_of is name)) q f
    by (Some p) at f = own_within k name q (at ∙ f)

-- ---- filters

-- a filter as an entry has it
abbrev IsEntryFilter : Schema → ℕ → BexpTree → Type 0
IsEntryFilter s t b = (is_filter b s t ≡ true) × (depth b ≤ 300)

all_filters : (s : Schema) (t : ℕ) (bs : List BexpTree) → Each (IsEntryFilter s t) bs → are_filters (bexps_of bs) s t ≡ true
all_filters s t [] h = refl
all_filters s t (b ∷ bs) h = and_from (is_filter b s t) (are_filters (bexps_of bs) s t) h.0.0 (all_filters s t bs h.1)

one_filter : (s : Schema) (t : ℕ) (bs : List BexpTree) → Each (IsEntryFilter s t) bs → is_filter (either bs) s t ≡ true
one_filter s t [] h = refl
one_filter s t (b ∷ []) h = h.0.0
one_filter s t (b ∷ (c ∷ bs)) h = all_filters s t (b ∷ (c ∷ bs)) h

joined_low : (s : Schema) (t : ℕ) (bs : List BexpTree) → Each (IsEntryFilter s t) bs → IsLowFilter s t (either bs)
joined_low s t bs h = (one_filter s t bs h, either_low 300 bs (each_weaken (IsEntryFilter s t) (λ b. depth b ≤ 300) (λ b f. f.1) bs h))

-- ---- what fits

each_of : {A : Type 0} (p : A → Bool) (xs : List A) → list_all p xs ≡ true → Each (λ x. p x ≡ true) xs
each_of p [] h = tt
each_of p (x ∷ xs) h = let parts = and_parts (p x) (list_all p xs) h in (parts.0, each_of p xs parts.1)

-- an item that is found passes the test, and has what all items have
found : {A : Type 0} (P : A → Type 0) (p : A → Bool) (xs : List A) (x : A) → Each P xs → find p xs ≡ Some x → P x × (p x ≡ true)
found P p [] x all is = cc
found P p (y ∷ ys) x all is =
    let here : Some y ≡ Some x → p y ≡ true → P x × (p x ≡ true) = λ f e. let same : y ≡ x = cc in subst (λ z. P z × (p z ≡ true)) same (all.0, e) in
    let by : (b : Bool) → p y ≡ b → cond b (Some y) (find p ys) ≡ Some x → P x × (p x ≡ true) = elim [ true ↦ λ e f. here f e | false ↦ λ e f. found P p ys x all.1 f ] in
    by (p y) refl is

module _ (tables : List Table) (m : MetaTree) (fit : fits tables m ≡ true) where
  abbrev s : Schema
  s = schema_of tables m

  entry : (t : ℕ) (k : TrackedTree) → tracked_table m t ≡ Some k → (fits_tracked s m k ≡ true) × (k.table ≡ t)
  entry t k is =
      let all = (and_parts _ _ (and_parts _ _ (and_parts _ _ fit).0).0).1 in
      let both = found (λ j. fits_tracked s m j ≡ true) (λ j. j.table == t) m.tracked k (each_of (fits_tracked s m) m.tracked all) is in
      (both.0, eqb-true k.table t both.1)

  perm_low : (t : ℕ) (p : PermTree) → fits_perm s m t p ≡ true → IsEntryFilter s t p.filter
  perm_low t p h =
      let deep = and_parts _ _ (and_parts _ _ (and_parts _ _ h).0).0 in
      ((and_parts _ _ deep.0).1, leb-true (depth p.filter) 300 deep.1)

  -- what is permitted on the table of an entry that fits
  permitted : (role : Role) (k : TrackedTree) → fits_tracked s m k ≡ true → (p : Permission) → permission_in role m.inherited k ≡ Some p → IsPermission s k.table p
  permitted role k h p e =
      let perms = and_parts _ _ h in
      let names = and_parts _ _ (and_parts _ _ (and_parts _ _ (and_parts _ _ (and_parts _ _ perms.0).0).0).0).0 in
      let there : k.table < length s = ltb-true k.table (length s) (and_parts _ _ names.0).0 in
      let long : length k.column_names ≡ length (table s k.table).columns = eqb-true _ _ names.1 in
      let has : (c : ℕ) → Within k c → HasColumn s k.table c =
      λ c short. let within : c < length (table s k.table).columns = omega arith in ap (λ o. is_some (option_map (λ d. d.ty) o)) (slice_get-get_or (table s k.table).columns c no_column within) in
      let filters : Each (λ q. IsEntryFilter s k.table q.filter) k.perms =
      each_weaken (λ q. fits_perm s m k.table q ≡ true) (λ q. IsEntryFilter s k.table q.filter) (perm_low k.table) k.perms (each_of (fits_perm s m k.table) k.perms perms.1) in
      let low =
      permission_holds (IsEntryFilter s k.table) (IsLowFilter s k.table) (λ b f. (f.0, let small = f.1 in omega arith))
      (refl, omega arith) (joined_low s k.table) k filters role m.inherited p e in
      let within = permission_within role m.inherited k p e in
      record {
        there = there;
        columns = each_weaken (Within k) (HasColumn s k.table) has p.columns within.0;
        filter = low.0;
        masks = both p.masks (each_weaken (λ m. Within k m.column) (λ m. HasColumn s k.table m.column) (λ m. has m.column) p.masks within.1) low.1;
      }
    where
      both : (ms : List Mask) → Each (λ m. HasColumn s k.table m.column) ms → Each (λ m. IsLowFilter s k.table m.shown) ms → Each (IsMask s k.table) ms
      both [] f g = tt
      both (m ∷ ms) f g = ((f.0, g.0), both ms f.1 g.1)

pub permission_fits : (tables : List Table) (m : MetaTree) (role : Role) (t : ℕ) → PermissionsFit tables m role t
permission_fits tables m role t fit p e = by (tracked_table m t) refl e
  where
    by : (o : Option TrackedTree) → tracked_table m t ≡ o → option_and_then (permission_in role m.inherited) o ≡ Some p → IsPermission (schema_of tables m) t p
    by None is f = cc
    by (Some k) is f = let here = entry tables m fit t k is in subst (λ u. IsPermission (schema_of tables m) u p) here.1 (permitted tables m fit role k here.0 p f)
