-- Inherited roles that are read fit.
use Rattle.std.proofs.Common.{◌≡◌, ◌∙◌, refl, sym, ap, subst, ℕ, ◌+◌, List, [], ◌∷◌, ◌++◌, length, Bool, true, false, cond, not, ◌&&◌, ◌||◌, Option, Some, None, Ok}
use Rattle.std.specs.Prelude.{IfOk, position, is_some, nat_lt, option_and_then, bytes_eq}
use Rattle.std.specs.List.{AllZip, list_all, list_any, position_from}
use Rattle.std.proofs.lemmas.Bool.{and_from, and_parts}
use Rattle.std.proofs.lemmas.Iterator.Adapters.{position_from-zero}
use Rattle.hq_base.specs.Due.{and_then}
use Rattle.hq_base.specs.Json.{JsonTree}
use Rattle.hq_base.specs.Lists.{all_differ}
use Rattle.hq_base.specs.Look.{str_in, object_in}
use Rattle.hq_base.specs.Path.{top_path}
use Rattle.hq_model.specs.Fits.{is_inherited, fits_inherited, are_inherited}
use Rattle.hq_model.specs.Names.{is_admin_name}
use Rattle.hq_model.specs.declared.meta.Inherited.{Inherited}
use Rattle.hq_load_meta_tables.specs.declared.field.Field.TheVariants as field
use Rattle.hq_load_meta_tables.specs.declared.refusal.MetaRefusal.TheVariants.{Shape, RepeatedRole}
use Rattle.hq_load_meta_tables.specs.Each.{each, each_after}
use Rattle.hq_load_meta_tables.specs.Node.{checked, at, value_of, object_at, text_at, member_at, text_member, list_member}
use Rattle.hq_load_meta_tables.specs.Top.{is_empty}
use Rattle.hq_load_meta.specs.Inheriting.{is_named, is_entered, inherited_form, unless_at, plain_names, own_roles, new_role, inherited_at, inherited_due}
use Rattle.hq_load_meta.proofs.Lists.{push_differ, list_all-same, positive}
use Rattle.hq_load_meta.proofs.Steps.{ok_weaker, ok_both, ok_and_then, ok_next, ok_found, ok_tested, ok_unless, ok_checked, each_after-keeps, Behind, each_after-Behind}

-- ---- names that are none of these

none_from : (test : List ℕ → Bool) (i : ℕ) (xs : List (List ℕ)) → position_from test i xs ≡ None → list_all (λ x. not (test x)) xs ≡ true
none_from test i [] e = refl
none_from test i (x ∷ xs) e =
    let later : position_from test (i + 1) xs ≡ None → list_all (λ y. not (test y)) xs ≡ true = none_from test (i + 1) xs in
    let by : (b : Bool) → cond b (Some i) (position_from test (i + 1) xs) ≡ None → (not b && list_all (λ y. not (test y)) xs) ≡ true = elim [ true ↦ λ f. cc | false ↦ λ f. later f ] in
    by (test x) e

-- where no place is found, each name fails the test
ok_unless_at : (path : List ℕ) (test : List ℕ → Bool) (xs : List (List ℕ)) → IfOk (unless_at path (position test xs)) (λ u. list_all (λ x. not (test x)) xs ≡ true)
ok_unless_at path test xs = by (position test xs) refl
  where
    by : (o : Option ℕ) → position test xs ≡ o → IfOk (unless_at path o) (λ u. list_all (λ x. not (test x)) xs ≡ true)
    by None e = none_from test 0 xs (sym (position_from-zero test xs) ∙ e)
    by (Some i) e = tt

-- ---- an entry

-- the name that an entry gives
abbrev given : JsonTree → Option (List ℕ)
given j = option_and_then str_in (value_of j field.RoleName)

object_at-same : (path : List ℕ) (j : JsonTree) → IfOk (object_at path j) (λ object. object ≡ j)
unfolding object_at
object_at-same path j = ok_tested (is_some (object_in j)) j (Shape path) (λ object. object ≡ j) (λ h. refl)

text_member-given : (path : List ℕ) (j : JsonTree) → IfOk (text_member path j field.RoleName) (λ role. given j ≡ Some role)
unfolding text_member member_at text_at
text_member-given path j =
    let here = at path field.RoleName in
    ok_and_then (text_at here) (λ v. value_of j field.RoleName ≡ Some v) (λ role. given j ≡ Some role)
    (λ v is. ok_found (str_in v) (Shape here) (λ role. given j ≡ Some role) (λ role h. ap (option_and_then str_in) is ∙ h))
    (member_at path j field.RoleName) (ok_found (value_of j field.RoleName) (Shape here) (λ v. value_of j field.RoleName ≡ Some v) (λ v is. is))

-- the form of an entry has its name
inherited_form-given : (path : List ℕ) (j : JsonTree) → IfOk (inherited_form path j) (λ i. given j ≡ Some i.role)
unfolding inherited_form
inherited_form-given path j =
    let P = λ (i : Inherited). given j ≡ Some i.role in
    let made = λ (role : List ℕ) (set : List (List ℕ)). let i : Inherited = record { role = role; set = set } in Ok i in
    let with_list = λ (role : List ℕ) (list : List JsonTree). and_then (made role) (each text_at (at path field.RoleSet) list) in
    let with_role = λ (object : JsonTree) (role : List ℕ). and_then (with_list role) (list_member path object field.RoleSet) in
    ok_and_then (λ object. and_then (with_role object) (text_member path object field.RoleName)) (λ object. object ≡ j) P
    (λ object same. ok_and_then (with_role object) (λ role. given object ≡ Some role) P
    (λ role is. ok_next (with_list role) P (λ list. ok_next (made role) P (λ set. ap given (sym same) ∙ is) (each text_at (at path field.RoleSet) list)) (list_member path object field.RoleSet))
    (text_member path object field.RoleName) (text_member-given path object))
    (object_at path j) (object_at-same path j)

has_some : (xs : List (List ℕ)) → not (is_empty xs) ≡ true → nat_lt 0 (length xs) ≡ true
has_some [] h = cc
has_some (x ∷ xs) h = positive (length xs)

-- an inherited role as its entry gives it
record Entered (entries : List JsonTree) (j : JsonTree) (i : Inherited) : Type 0 where
  named : given j ≡ Some i.role
  plain : not (is_admin_name i.role) ≡ true
  none_admin : list_all (λ r. not (is_admin_name r)) i.set ≡ true
  some : nat_lt 0 (length i.set) ≡ true
  own : list_all (λ r. not (is_entered entries r)) i.set ≡ true

-- an inherited role of another name than those before it
abbrev New : List Inherited → Inherited → Type 0
New before i = list_any (λ k. bytes_eq k.role i.role) before ≡ false

both_checked : (path : List ℕ) (b : Bool) (places : List ℕ) (test : List ℕ → Bool) (set : List (List ℕ))
    → IfOk (and_then (λ u. unless_at places (position test set)) (checked path b)) (λ u. (b ≡ true) × (list_all (λ x. not (test x)) set ≡ true))
both_checked path b places test set =
    let P = λ (u : Unit {0}). (b ≡ true) × (list_all (λ x. not (test x)) set ≡ true) in
    ok_and_then (λ u. unless_at places (position test set)) (λ u. b ≡ true) P
    (λ u h. ok_weaker (unless_at places (position test set)) (λ v. list_all (λ x. not (test x)) set ≡ true) P (λ v g. (h, g)) (ok_unless_at places test set))
    (checked path b) (ok_checked path b)

new_role-new : (before : List Inherited) (path role : List ℕ) → IfOk (new_role before path role) (λ u. list_any (λ i. bytes_eq i.role role) before ≡ false)
new_role-new before path role = ok_unless (list_any (λ i. bytes_eq i.role role) before) tt (RepeatedRole path) (λ u. list_any (λ i. bytes_eq i.role role) before ≡ false) (λ h. h)

inherited_at-Entered : (entries : List JsonTree) (before : List Inherited) (path : List ℕ) (j : JsonTree) → IfOk (inherited_at entries before path j) (λ i. Entered entries j i × New before i)
unfolding inherited_at
inherited_at-Entered entries before path j =
    let P = λ (i : Inherited). Entered entries j i × New before i in
    let here = at path field.RoleName in
    let behind = at path field.RoleSet in
    ok_and_then (λ i. and_then (λ u. and_then (λ v. and_then (λ w. Ok i) (new_role before here i.role)) (own_roles entries path i)) (plain_names path i)) (λ i. given j ≡ Some i.role) P
    (λ i named. ok_and_then (λ u. and_then (λ v. and_then (λ w. Ok i) (new_role before here i.role)) (own_roles entries path i))
    (λ u. (not (is_admin_name i.role) ≡ true) × (list_all (λ r. not (is_admin_name r)) i.set ≡ true)) P
    (λ u f. ok_and_then (λ v. and_then (λ w. Ok i) (new_role before here i.role)) (λ v. (not (is_empty i.set) ≡ true) × (list_all (λ r. not (is_entered entries r)) i.set ≡ true)) P
    (λ v g. ok_and_then (λ w. Ok i) (λ w. list_any (λ k. bytes_eq k.role i.role) before ≡ false) P
    (λ w new. (record { named = named; plain = f.0; none_admin = f.1; some = has_some i.set g.0; own = g.1 }, new))
    (new_role before here i.role) (new_role-new before here i.role))
    (own_roles entries path i) (both_checked behind (not (is_empty i.set)) behind (is_entered entries) i.set))
    (plain_names path i) (both_checked here (not (is_admin_name i.role)) behind is_admin_name i.set))
    (inherited_form path j) (inherited_form-given path j)

-- ---- all entries

-- inherited roles of different names, beside the entries that give them
record Read (entries : List JsonTree) (is : List Inherited) : Type 0 where
  differ : all_differ (λ i k. bytes_eq i.role k.role) is ≡ true
  beside : AllZip (Entered entries) entries is

inherited_due-Read : (entries : List JsonTree) → IfOk (inherited_due entries) (Read entries)
unfolding inherited_due
inherited_due-Read entries =
    let path = at top_path field.InheritedRoles in
    let Differ = λ (is : List Inherited). all_differ (λ i k. bytes_eq i.role k.role) is ≡ true in
    let all = each_after (inherited_at entries) path 0 [] entries in
    ok_weaker all (λ is. Differ is × Behind (Entered entries) [] entries is) (Read entries)
    (λ is h. record { differ = h.0; beside = subst (AllZip (Entered entries) entries) (sym h.1.are) h.1.beside })
    (ok_both all Differ (Behind (Entered entries) [] entries)
    (each_after-keeps Differ (inherited_at entries)
    (λ before p j differ. ok_weaker (inherited_at entries before p j) (λ i. Entered entries j i × New before i)
    (λ i. Differ (before ++ i ∷ [])) (λ i h. push_differ (λ i k. bytes_eq i.role k.role) before i h.1 differ)
    (inherited_at-Entered entries before p j))
    path 0 [] entries refl)
    (each_after-Behind (Entered entries) (inherited_at entries)
    (λ before p j. ok_weaker (inherited_at entries before p j) (λ i. Entered entries j i × New before i) (Entered entries j) (λ i h. h.0) (inherited_at-Entered entries before p j))
    path 0 [] entries))

-- a name is that of an entry where it is that of an inherited role
entered_same : (entries : List JsonTree) (name : List ℕ) (js : List JsonTree) (is : List Inherited) → AllZip (Entered entries) js is → is_entered js name ≡ is_inherited is name
entered_same entries name [] [] beside = refl
entered_same entries name [] (i ∷ is) beside = absurd beside
entered_same entries name (j ∷ js) [] beside = absurd beside
entered_same entries name (j ∷ js) (i ∷ is) beside =
    ap (λ o. is_named name o || is_entered js name) beside.0.named ∙ ap (λ b. bytes_eq i.role name || b) (entered_same entries name js is beside.1)

three : (a b c : Bool) → a ≡ true → b ≡ true → c ≡ true → (a && b && c) ≡ true
three a b c p q r = cc

-- names that are neither of these
neither : (p q : List ℕ → Bool) (xs : List (List ℕ)) → list_all (λ x. not (p x)) xs ≡ true → list_all (λ x. not (q x)) xs ≡ true → list_all (λ x. not (p x) && not (q x)) xs ≡ true
neither p q [] f g = refl
neither p q (x ∷ xs) f g =
    let a = and_parts (not (p x)) (list_all (λ x. not (p x)) xs) f in
    let b = and_parts (not (q x)) (list_all (λ x. not (q x)) xs) g in
    and_from (not (p x) && not (q x)) (list_all (λ x. not (p x) && not (q x)) xs) (and_from (not (p x)) (not (q x)) a.0 b.0) (neither p q xs a.1 b.1)

each_fits : (entries : List JsonTree) (whole : List Inherited) → ((name : List ℕ) → is_entered entries name ≡ is_inherited whole name)
    → (js : List JsonTree) (is : List Inherited) → AllZip (Entered entries) js is → list_all (fits_inherited whole) is ≡ true
each_fits entries whole same [] [] beside = refl
each_fits entries whole same [] (i ∷ is) beside = absurd beside
each_fits entries whole same (j ∷ js) [] beside = absurd beside
each_fits entries whole same (j ∷ js) (i ∷ is) beside =
    let own : list_all (λ r. not (is_inherited whole r)) i.set ≡ true =
    list_all-same (λ r. not (is_inherited whole r)) (λ r. not (is_entered entries r)) (λ r. ap not (sym (same r))) i.set ∙ beside.0.own in
    and_from (fits_inherited whole i) (list_all (fits_inherited whole) is)
    (three (not (is_admin_name i.role)) (nat_lt 0 (length i.set)) (list_all (λ r. not (is_admin_name r) && not (is_inherited whole r)) i.set) beside.0.plain beside.0.some
    (neither is_admin_name (is_inherited whole) i.set beside.0.none_admin own))
    (each_fits entries whole same js is beside.1)

pub inherited_due-fits : (entries : List JsonTree) → IfOk (inherited_due entries) (λ is. are_inherited is ≡ true)
inherited_due-fits entries =
    ok_weaker (inherited_due entries) (Read entries) (λ is. are_inherited is ≡ true)
    (λ is h. and_from (all_differ (λ i k. bytes_eq i.role k.role) is) (list_all (fits_inherited is) is) h.differ
    (each_fits entries is (λ name. entered_same entries name entries is h.beside) entries is h.beside))
    (inherited_due-Read entries)
