-- JSON values that are of a type of a schema: what is coerced is, and so it is of each type that its own goes with.
use Rattle.std.proofs.Common.{◌≡◌, ◌∙◌, refl, sym, ap, subst, ℕ, ℤ, List, [], ◌∷◌, ◌++◌, Bool, true, false, cond, not, Option, Some, None, is_some, option_map, option_and_then, ◌⊎◌, inl, inr, append-nil}
use Rattle.std.specs.List.{filter_map, list_any}
use Rattle.hq_base.specs.Cells.{cell_of, json_of}
use Rattle.hq_base.specs.Json.{JsonTree, null, bool, int, str, arr, obj, ElementTrees, no_element, element, MemberTrees, no_member, member, elements_of, members_of, names_of}
use Rattle.hq_base.specs.Lists.{Each}
use Rattle.hq_base.specs.Uuids.{spells_uuid, uuid_form}
use Rattle.hq_base.proofs.Uuids.{form_is_read}
use Rattle.hq_base.specs.declared.value.Ty.TheVariants as ty
use Rattle.hq_base.specs.declared.value.Val.TheVariants as val
use Rattle.hq_model.specs.Database.{int_fits}
use Rattle.hq_model.specs.Reading.{whole_number}
use Rattle.hq_model.proofs.Fitting.{whole_fits}
use Rattle.hq_schema.specs.Look.{type_at, input_field_of, enum_value_of}
use Rattle.hq_schema.specs.Schema.{TypeRefTree, named, list_of, non_null, base, ArgTree, TypeTree, SchemaTree}
use Rattle.hq_schema.specs.declared.origin.TypeOrigin.{TypeOrigin}
use Rattle.hq_schema.specs.declared.origin.TypeOrigin.TheVariants as origin
use Rattle.hq_gql_nodes.specs.Known.{element_type, input_at, is_non_null}
use Rattle.hq_request_coerce.specs.Coercion.{leaf_by, leaf_value, in_lists, is_lacking, default_member, object_of, inputs_at, coerced, coerced_elements, coerced_members}
use Rattle.hq_request_coerce.specs.Coercion as coercion
use Rattle.hq_laws_request.proofs.Built.BuildingSteps.{map_some, and_then_some}

-- a value of a type: a null where it may stand, a constant or a name of the type inside the lists, a list at a list, and an object of
-- known members at an input object
abbrev mutual
  pub IsOf : SchemaTree → TypeRefTree → JsonTree → Type 0
  IsOf s r null = is_non_null r ≡ false
  IsOf s r (bool b) = is_some (leaf_value s (base r) (bool b)) ≡ true
  IsOf s r (int n) = is_some (leaf_value s (base r) (int n)) ≡ true
  IsOf s r (str x) = is_some (leaf_value s (base r) (str x)) ≡ true
  IsOf s r (arr js) = (q : TypeRefTree) × (element_type r ≡ Some q) × AreOf s q js
  IsOf s r (obj ms) = (t : ℕ) × (input_at s (base r) ≡ Some t) × MembersOf s t ms

  pub AreOf : SchemaTree → TypeRefTree → ElementTrees → Type 0
  AreOf s r no_element = Unit {0}
  AreOf s r (element j js) = IsOf s r j × AreOf s r js

  pub MembersOf : SchemaTree → (type : ℕ) → MemberTrees → Type 0
  MembersOf s t no_member = Unit {0}
  MembersOf s t (member name j ms) = ((a : ArgTree) × (input_field_of s t name ≡ Some a) × IsOf s a.ty j) × MembersOf s t ms

-- a value that is no null is one of the type without null
pub strict_is : (s : SchemaTree) (r : TypeRefTree) (j : JsonTree) → coercion.is_null j ≡ false → IsOf s r j → IsOf s (non_null r) j
strict_is s r null not is = absurd cc
strict_is s r (bool b) not is = is
strict_is s r (int n) not is = is
strict_is s r (str x) not is = is
strict_is s r (arr js) not is = is
strict_is s r (obj ms) not is = is

-- ---- what is coerced

-- the two tests of a type without null
pub non_null_same : (q : TypeRefTree) → coercion.is_non_null q ≡ is_non_null q
non_null_same (named t) = refl
non_null_same (list_of q) = refl
non_null_same (non_null q) = refl

-- a value that is no null and no list, of each type whose base is this
pub record IsFlat (s : SchemaTree) (t : ℕ) (j : JsonTree) : Type 0 where
  pub of_base : (r : TypeRefTree) → base r ≡ t → IsOf s r j
  pub not_null : coercion.is_null j ≡ false

lists_not_null : (r : TypeRefTree) (j : JsonTree) → coercion.is_null j ≡ false → coercion.is_null (in_lists r j) ≡ false
lists_not_null (named t) j h = h
lists_not_null (list_of r) j h = refl
lists_not_null (non_null r) j h = lists_not_null r j h

in_lists_is : (s : SchemaTree) (r : TypeRefTree) (j : JsonTree) → IsFlat s (base r) j → IsOf s r (in_lists r j)
in_lists_is s (named t) j h = h.of_base (named t) refl
in_lists_is s (list_of r) j h = (r, refl, (in_lists_is s r j h, tt))
in_lists_is s (non_null r) j h = strict_is s r (in_lists r j) (lists_not_null r j h.not_null) (in_lists_is s r j h)

-- a constant as JSON is a constant of its type
bool_kept : (s : SchemaTree) (t : ℕ) (b : Bool) (y : JsonTree) (o : TypeOrigin) → leaf_by s t o (bool b) ≡ Some y → y ≡ bool b
bool_kept s t b y (origin.Scalar ty.Boolean) e = let same : bool b ≡ y = cc in sym same
bool_kept s t b y (origin.Scalar ty.Integer) e = absurd cc
bool_kept s t b y (origin.Scalar ty.Text) e = absurd cc
bool_kept s t b y (origin.Scalar ty.Bigint) e = absurd cc
bool_kept s t b y (origin.Scalar ty.Uuid) e = absurd cc
bool_kept s t b y (origin.Scalar ty.Opaque) e = absurd cc
bool_kept s t b y o e = absurd cc

int_kept : (s : SchemaTree) (t : ℕ) (n : ℤ) (y : JsonTree) (o : TypeOrigin) → leaf_by s t o (int n) ≡ Some y → y ≡ int n
int_kept s t n y (origin.Scalar q) e = by (int_fits q n) e
  where
    by : (b : Bool) → option_map (λ v. json_of (cell_of v)) (cond b (Some (val.Int n)) None) ≡ Some y → y ≡ int n
    by true e = let same : int n ≡ y = cc in sym same
    by false e = absurd cc
int_kept s t n y o e = absurd cc

-- .. a text too, or it is the whole number that it spells, or the one form of the uuid that it is read as
abbrev NumberKept : SchemaTree → (type : ℕ) → JsonTree → TypeOrigin → Type 0
NumberKept s t y o = (n : ℤ) × (y ≡ int n) × (is_some (leaf_by s t o (int n)) ≡ true)

abbrev FormKept : SchemaTree → (type : ℕ) → JsonTree → TypeOrigin → Type 0
FormKept s t y o = (u : List ℕ) × (y ≡ str u) × (is_some (leaf_by s t o (str u)) ≡ true)

abbrev Kept : SchemaTree → (type : ℕ) → (given : JsonTree) → JsonTree → TypeOrigin → Type 0
Kept s t j y o = (y ≡ j) ⊎ (NumberKept s t y o ⊎ FormKept s t y o)

text_by : (s : SchemaTree) (t : ℕ) (x : List ℕ) (y : JsonTree) (o : TypeOrigin) → leaf_by s t o (str x) ≡ Some y → Kept s t (str x) y o
text_by s t x y (origin.Scalar ty.Boolean) e = absurd cc
text_by s t x y (origin.Scalar ty.Integer) e = absurd cc
text_by s t x y (origin.Scalar ty.Text) e = let same : str x ≡ y = cc in inl (sym same)
text_by s t x y (origin.Scalar ty.Bigint) e = by (whole_number ty.Bigint x) refl e
  where
    fitting : (n : ℤ) → int_fits ty.Bigint n ≡ true → is_some (leaf_by s t (origin.Scalar ty.Bigint) (int n)) ≡ true
    fitting n fits = rw fits refl

    by : (o : Option ℤ) → whole_number ty.Bigint x ≡ o → option_map (λ v. json_of (cell_of v)) (option_map val.Int o) ≡ Some y → Kept s t (str x) y (origin.Scalar ty.Bigint)
    by None is e = absurd cc
    by (Some n) is e = let same : int n ≡ y = cc in inr (inl (n, sym same, fitting n (whole_fits n ty.Bigint x is)))
text_by s t x y (origin.Scalar ty.Opaque) e = let same : str x ≡ y = cc in inl (sym same)
text_by s t x y (origin.Scalar ty.Uuid) e = by (uuid_form x) refl e
  where
    again : (u : List ℕ) → spells_uuid u ≡ true → is_some (leaf_by s t (origin.Scalar ty.Uuid) (str u)) ≡ true
    again u spelled = rw spelled refl

    by : (o : Option (List ℕ)) → uuid_form x ≡ o → option_map (λ v. json_of (cell_of v)) (option_map val.Text o) ≡ Some y → Kept s t (str x) y (origin.Scalar ty.Uuid)
    by None is e = absurd cc
    by (Some u) is e = let same : str u ≡ y = cc in inr (inr (u, sym same, again u (form_is_read x u is)))
text_by s t x y o e =
    let found = map_some (λ (place : ℕ). str x) (enum_value_of s t x) y e in
    inl (sym found.2)

-- a leaf that is coerced
leaf_flat : (s : SchemaTree) (t : ℕ) (j y : JsonTree) → ((o : TypeOrigin) → leaf_by s t o j ≡ Some y → Kept s t j y o)
    → (is_some (leaf_value s t j) ≡ true → IsFlat s t j) → leaf_value s t j ≡ Some y → IsFlat s t y
leaf_flat s t j y kept flat e = by (type_at s t) refl e
  where
    number : (n : ℤ) → is_some (leaf_value s t (int n)) ≡ true → IsFlat s t (int n)
    number n h = record { of_base = λ r same. subst (λ u. is_some (leaf_value s u (int n)) ≡ true) (sym same) h; not_null = refl }

    form : (u : List ℕ) → is_some (leaf_value s t (str u)) ≡ true → IsFlat s t (str u)
    form u h = record { of_base = λ r same. subst (λ v. is_some (leaf_value s v (str u)) ≡ true) (sym same) h; not_null = refl }

    by : (o : Option TypeTree) → type_at s t ≡ o → option_and_then (λ d. leaf_by s t d.origin j) o ≡ Some y → IsFlat s t y
    by None is e = absurd cc
    by (Some d) is e' = cases (kept d.origin e')
      where
        cases : Kept s t j y d.origin → IsFlat s t y
        cases (inl same) = subst (IsFlat s t) (sym same) (flat (ap is_some e))
        cases (inr (inl h)) = subst (IsFlat s t) (sym h.1) (number h.0 (ap (λ o. is_some (option_and_then (λ (x : TypeTree). leaf_by s t x.origin (int h.0)) o)) is ∙ h.2))
        cases (inr (inr h)) = subst (IsFlat s t) (sym h.1) (form h.0 (ap (λ o. is_some (option_and_then (λ (x : TypeTree). leaf_by s t x.origin (str h.0)) o)) is ∙ h.2))

bool_flat : (s : SchemaTree) (t : ℕ) (b : Bool) (y : JsonTree) → leaf_value s t (bool b) ≡ Some y → IsFlat s t y
bool_flat s t b y e = leaf_flat s t (bool b) y (λ o e. inl (bool_kept s t b y o e))
    (λ h. record { of_base = λ r same. subst (λ u. is_some (leaf_value s u (bool b)) ≡ true) (sym same) h; not_null = refl }) e

int_flat : (s : SchemaTree) (t : ℕ) (n : ℤ) (y : JsonTree) → leaf_value s t (int n) ≡ Some y → IsFlat s t y
int_flat s t n y e = leaf_flat s t (int n) y (λ o e. inl (int_kept s t n y o e))
    (λ h. record { of_base = λ r same. subst (λ u. is_some (leaf_value s u (int n)) ≡ true) (sym same) h; not_null = refl }) e

text_flat : (s : SchemaTree) (t : ℕ) (x : List ℕ) (y : JsonTree) → leaf_value s t (str x) ≡ Some y → IsFlat s t y
text_flat s t x y e = leaf_flat s t (str x) y (λ o e. text_by s t x y o e) (λ h. record { of_base = λ r same. subst (λ u. is_some (leaf_value s u (str x)) ≡ true) (sym same) h; not_null = refl }) e

-- the types of a schema have no input fields with defaults
abbrev pub NoDefaults : SchemaTree → Type 0
NoDefaults s = (t : ℕ) → Each (λ (a : ArgTree). a.default_false ≡ false) (inputs_at s t)

no_default_members : (given : List (List ℕ)) (inputs : List ArgTree) → Each (λ (a : ArgTree). a.default_false ≡ false) inputs → filter_map (default_member given) inputs ≡ []
no_default_members given [] h = refl
no_default_members given (a ∷ inputs) h = rw h.0 (no_default_members given inputs h.1)

module _ (s : SchemaTree) (plain : NoDefaults s) where
  -- an object of known members
  object_flat : (u t : ℕ) (given : List (List ℕ)) (members : List (List ℕ × JsonTree)) (x : JsonTree) → input_at s u ≡ Some t → MembersOf s t (members_of members)
      → object_of given (inputs_at s t) members ≡ Some x → IsFlat s u x
  object_flat u t given members x at inside e = by (list_any (is_lacking given) (inputs_at s t)) e
    where
      none : members ++ filter_map (default_member given) (inputs_at s t) ≡ members
      none = ap (λ more. members ++ more) (no_default_members given (inputs_at s t) (plain t)) ∙ append-nil members

      by : (b : Bool) → cond b None (Some (obj (members_of (members ++ filter_map (default_member given) (inputs_at s t))))) ≡ Some x → IsFlat s u x
      by true e = absurd cc
      by false e =
          let first : obj (members_of (members ++ filter_map (default_member given) (inputs_at s t))) ≡ x = cc in
          let same : obj (members_of members) ≡ x = ap (λ ys. obj (members_of ys)) (sym none) ∙ first in
          subst (IsFlat s u) same (record { of_base = λ r is. (t, ap (input_at s) is ∙ at, inside); not_null = refl })

  mutual
    -- what is coerced at a type is a value of it
    pub coerced_is : (j : JsonTree) (r : TypeRefTree) (x : JsonTree) → coerced s j r ≡ Some x → IsOf s r x
    coerced_is null r x e = by (coercion.is_non_null r) refl e
      where
        by : (b : Bool) → coercion.is_non_null r ≡ b → cond b None (Some null) ≡ Some x → IsOf s r x
        by true is e = absurd cc
        by false is e = let same : null ≡ x = cc in subst (IsOf s r) same (sym (non_null_same r) ∙ is)
    coerced_is (bool b) r x e = let found = map_some (in_lists r) (leaf_value s (base r) (bool b)) x e in subst (IsOf s r) found.2 (in_lists_is s r found.0 (bool_flat s (base r) b found.0 found.1))
    coerced_is (int n) r x e = let found = map_some (in_lists r) (leaf_value s (base r) (int n)) x e in subst (IsOf s r) found.2 (in_lists_is s r found.0 (int_flat s (base r) n found.0 found.1))
    coerced_is (str t) r x e = let found = map_some (in_lists r) (leaf_value s (base r) (str t)) x e in subst (IsOf s r) found.2 (in_lists_is s r found.0 (text_flat s (base r) t found.0 found.1))
    coerced_is (arr js) r x e =
        let found = map_some (λ xs. arr (elements_of xs)) (option_and_then (λ item. coerced_elements s js item) (element_type r)) x e in
        let two = and_then_some (λ item. coerced_elements s js item) (element_type r) found.0 found.1 in
        subst (IsOf s r) found.2 (two.0, two.1, coerced_are js two.0 found.0 two.2)
    coerced_is (obj ms) r x e =
        let found = map_some (in_lists r) (option_and_then (λ t. option_and_then (object_of (names_of ms) (inputs_at s t)) (coerced_members s ms t)) (input_at s (base r))) x e in
        let two = and_then_some (λ t. option_and_then (object_of (names_of ms) (inputs_at s t)) (coerced_members s ms t)) (input_at s (base r)) found.0 found.1 in
        let three = and_then_some (object_of (names_of ms) (inputs_at s two.0)) (coerced_members s ms two.0) found.0 two.2 in
        let inside : MembersOf s two.0 (members_of three.0) = coerced_have ms two.0 three.0 three.1 in
        subst (IsOf s r) found.2 (in_lists_is s r found.0 (object_flat (base r) two.0 (names_of ms) three.0 found.0 two.1 inside three.2))

    coerced_are : (js : ElementTrees) (r : TypeRefTree) (xs : List JsonTree) → coerced_elements s js r ≡ Some xs → AreOf s r (elements_of xs)
    coerced_are no_element r xs e = let same : [] ≡ xs = cc in subst (λ ys. AreOf s r (elements_of ys)) same tt
    coerced_are (element j js) r xs e =
        let one = and_then_some (λ x. option_map (λ xs. x ∷ xs) (coerced_elements s js r)) (coerced s j r) xs e in
        let two = map_some (λ xs. one.0 ∷ xs) (coerced_elements s js r) xs one.2 in
        subst (λ ys. AreOf s r (elements_of ys)) two.2 (coerced_is j r one.0 one.1, coerced_are js r two.0 two.1)

    coerced_have : (ms : MemberTrees) (t : ℕ) (xs : List (List ℕ × JsonTree)) → coerced_members s ms t ≡ Some xs → MembersOf s t (members_of xs)
    coerced_have no_member t xs e = let same : [] ≡ xs = cc in subst (λ ys. MembersOf s t (members_of ys)) same tt
    coerced_have (member name j ms) t xs e =
        let one = and_then_some (λ x. option_map (λ xs. (name, x) ∷ xs) (coerced_members s ms t)) (option_and_then (λ (a : ArgTree). coerced s j a.ty) (input_field_of s t name)) xs e in
        let two = map_some (λ xs. (name, one.0) ∷ xs) (coerced_members s ms t) xs one.2 in
        let three = and_then_some (λ (a : ArgTree). coerced s j a.ty) (input_field_of s t name) one.0 one.1 in
        subst (λ ys. MembersOf s t (members_of ys)) two.2 ((three.0, three.1, coerced_is j three.0.ty one.0 three.2), coerced_have ms t two.0 two.1)
