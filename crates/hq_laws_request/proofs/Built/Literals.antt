-- The JSON that a literal writes at the place of a type is of the type, where its nodes violate no rule, and the variables in it have
-- values of the types of their places.
use Rattle.std.proofs.Common.{◌≡◌, ◌∙◌, refl, sym, ap, subst, ℕ, ℤ, List, [], ◌∷◌, ◌++◌, pos, negsuc, ◌^◌, arith, Bool, true, false, cond, ◌&&◌, not, Option, Some, None, is_some, is_none, option_map, option_and_then}
use Rattle.std.specs.Option.{option_map_or}
use Rattle.hq_base.specs.Json.{JsonTree, elements_of, members_of}
use Rattle.hq_base.specs.Json as json
use Rattle.hq_base.specs.Lists.{Each}
use Rattle.hq_base.specs.Cells.{cell_of, json_of}
use Rattle.hq_base.specs.Uuids.{spells_uuid}
use Rattle.hq_base.specs.declared.value.Ty.{Ty}
use Rattle.hq_base.specs.declared.value.Ty.TheVariants as ty
use Rattle.hq_base.specs.declared.value.Val.TheVariants as val
use Rattle.std.specs.Str.Parse.{signed_digits_value}
use Rattle.std.proofs.lemmas.Bool.{ltb-true, lt-ltb, not-false, not-true}
use Rattle.hq_model.specs.Reading.{is_whole_number, whole_number}
use Rattle.hq_model.specs.Database.{int_fits}
use Rattle.hq_model.proofs.Fitting.{whole_fits}
use Rattle.hq_schema.specs.Look.{type_at, input_field_of, enum_value_of}
use Rattle.hq_schema.specs.Schema.{TypeRefTree, base, ArgTree, TypeTree, SchemaTree}
use Rattle.hq_schema.specs.declared.origin.TypeOrigin.{TypeOrigin}
use Rattle.hq_schema.specs.declared.origin.TypeOrigin.TheVariants as origin
use Rattle.hq_gql_tree.specs.Documents.{DocumentTree}
use Rattle.hq_gql_tree.specs.Values.{ValueTree, int, float, str, bool, null, enum, list, object, variable, ElementTrees, no_element, element, MemberTrees, no_member, member, PlacedTree}
use Rattle.hq_gql_nodes.specs.Fragments.{fragment_named, spread_target}
use Rattle.hq_gql_nodes.specs.Reach.{has}
use Rattle.hq_gql_nodes.specs.Known.{PlaceTree, place_of_arg, element_type, input_at, is_non_null}
use Rattle.hq_gql_nodes.specs.Nodes.{NodeTree, value_node, nodes_in_value, elements_nodes, members_nodes}
use Rattle.hq_rules_fields.specs.Literals.{leaf_takes, takes}
use Rattle.hq_rules_fields.specs.Literals as literal
use Rattle.hq_rules_fields.specs.declared.rules.NodeRule.TheVariants as rule
use Rattle.hq_rules_reach.specs.Uses.{UseTree, use_of}
use Rattle.hq_request_coerce.specs.Coercion.{leaf_value}
use Rattle.hq_request_coerce.specs.Coercion as coercion
use Rattle.hq_request_coerce.specs.Sources.{int_or_null, number_of, source_of, with_element, with_member, element_sources, member_sources}
use Rattle.hq_request_coerce.specs.Variables.{VarTree, var_value}
use Rattle.hq_laws_request.proofs.Built.Unviolated.{Holds, at_if_none}
use Rattle.hq_laws_request.proofs.Built.Values.{IsOf, AreOf, MembersOf}

-- ---- leaves

-- a whole number of a type is one of 64 bits
wide : (t : Ty) (n : ℤ) → int_fits t n ≡ true → int_fits ty.Bigint n ≡ true
wide ty.Integer (pos k) h = lt-ltb k (2 ^ 63) (omega (arith, ltb-true k (2 ^ 31) h))
wide ty.Integer (negsuc k) h = lt-ltb k (2 ^ 63) (omega (arith, ltb-true k (2 ^ 31) h))
wide ty.Bigint n h = h
wide ty.Text n h = absurd cc
wide ty.Boolean n h = absurd cc
wide ty.Uuid n h = absurd cc
wide ty.Opaque n h = absurd cc

int_wide : (n : ℤ) (t : Ty) (text : List ℕ) → whole_number t text ≡ Some n → whole_number ty.Bigint text ≡ Some n
int_wide n t text e = by (is_whole_number text) (int_fits t (signed_digits_value 10 text)) refl refl e
  where
    by : (b c : Bool) → is_whole_number text ≡ b → int_fits t (signed_digits_value 10 text) ≡ c → cond (b && c) (Some (signed_digits_value 10 text)) None ≡ Some n
        → whole_number ty.Bigint text ≡ Some n
    by true true is fits e = rw (is, wide t (signed_digits_value 10 text) fits) e
    by true false is fits e = absurd cc
    by false c is fits e = absurd cc

module _ (s : SchemaTree) (t : ℕ) where
  -- the type at a place takes a leaf
  leaf_takes_by : (v : ValueTree) → leaf_takes s t v ≡ true → (d : TypeTree) × (type_at s t ≡ Some d) × (literal.leaf_by s t d.origin v ≡ true)
  leaf_takes_by v h = by (type_at s t) refl h
    where
      by : (o : Option TypeTree) → type_at s t ≡ o → option_map_or (λ (d : TypeTree). literal.leaf_by s t d.origin v) o false ≡ true
          → (d : TypeTree) × (type_at s t ≡ Some d) × (literal.leaf_by s t d.origin v ≡ true)
      by None is h = absurd cc
      by (Some d) is h = (d, is, h)

  -- .. and has its JSON
  leaf_has : (d : TypeTree) (j : JsonTree) → type_at s t ≡ Some d → is_some (coercion.leaf_by s t d.origin j) ≡ true → is_some (leaf_value s t j) ≡ true
  leaf_has d j is h = ap (λ o. is_some (option_and_then (λ (x : TypeTree). coercion.leaf_by s t x.origin j) o)) is ∙ h

  str_by : (text : List ℕ) (o : TypeOrigin) → literal.leaf_by s t o (str text) ≡ true → is_some (coercion.leaf_by s t o (json.str text)) ≡ true
  str_by text (origin.Scalar ty.Boolean) h = absurd cc
  str_by text (origin.Scalar ty.Integer) h = absurd cc
  str_by text (origin.Scalar ty.Text) h = refl
  str_by text (origin.Scalar ty.Bigint) h = by (whole_number ty.Bigint text) h
    where
      by : (o : Option ℤ) → is_some o ≡ true → is_some (option_map (λ v. json_of (cell_of v)) (option_map val.Int o)) ≡ true
      by None h = absurd cc
      by (Some n) h = refl
  str_by text (origin.Scalar ty.Opaque) h = absurd cc
  str_by text (origin.Scalar ty.Uuid) h = let spelled : spells_uuid text ≡ true = h in rw spelled refl
  str_by text o h = absurd cc

  bool_by : (b : Bool) (o : TypeOrigin) → literal.leaf_by s t o (bool b) ≡ true → is_some (coercion.leaf_by s t o (json.bool b)) ≡ true
  bool_by b (origin.Scalar ty.Boolean) h = refl
  bool_by b (origin.Scalar ty.Integer) h = absurd cc
  bool_by b (origin.Scalar ty.Text) h = absurd cc
  bool_by b (origin.Scalar ty.Bigint) h = absurd cc
  bool_by b (origin.Scalar ty.Uuid) h = absurd cc
  bool_by b (origin.Scalar ty.Opaque) h = absurd cc
  bool_by b o h = absurd cc

  enum_by : (name : List ℕ) (o : TypeOrigin) → literal.leaf_by s t o (enum name) ≡ true → is_some (coercion.leaf_by s t o (json.str name)) ≡ true
  enum_by name (origin.Scalar ty.Boolean) h = absurd cc
  enum_by name (origin.Scalar ty.Integer) h = absurd cc
  enum_by name (origin.Scalar ty.Text) h = absurd cc
  enum_by name (origin.Scalar ty.Bigint) h = absurd cc
  enum_by name (origin.Scalar ty.Uuid) h = absurd cc
  enum_by name (origin.Scalar ty.Opaque) h = absurd cc
  enum_by name o h = by (enum_value_of s t name) h
    where
      by : (o : Option ℕ) → is_some o ≡ true → is_some (option_map (λ (place : ℕ). json.str name) o) ≡ true
      by None h = absurd cc
      by (Some n) h = refl

  int_by : (text : List ℕ) (o : TypeOrigin) → literal.leaf_by s t o (int text) ≡ true → (n : ℤ) × (whole_number ty.Bigint text ≡ Some n) × (is_some (coercion.leaf_by s t o (json.int n)) ≡ true)
  int_by text (origin.Scalar q) h = by (whole_number q text) refl h
    where
      fitting : (n : ℤ) → int_fits q n ≡ true → is_some (coercion.leaf_by s t (origin.Scalar q) (json.int n)) ≡ true
      fitting n fits = rw fits refl

      by : (o : Option ℤ) → whole_number q text ≡ o → is_some o ≡ true → (n : ℤ) × (whole_number ty.Bigint text ≡ Some n) × (is_some (coercion.leaf_by s t (origin.Scalar q) (json.int n)) ≡ true)
      by None is h = absurd cc
      by (Some n) is h = (n, int_wide n q text is, fitting n (whole_fits n q text is))
  int_by text o h = absurd cc

  int_has : (text : List ℕ) → leaf_takes s t (int text) ≡ true → (n : ℤ) × (number_of text ≡ json.int n) × (is_some (leaf_value s t (json.int n)) ≡ true)
  unfolding number_of
  int_has text h =
      let d = leaf_takes_by (int text) h in
      let n = int_by text d.0.origin d.2 in
      (n.0, ap int_or_null n.1, leaf_has d.0 (json.int n.0) d.1 n.2)

  str_has : (text : List ℕ) → leaf_takes s t (str text) ≡ true → is_some (leaf_value s t (json.str text)) ≡ true
  str_has text h = let d = leaf_takes_by (str text) h in leaf_has d.0 (json.str text) d.1 (str_by text d.0.origin d.2)

  bool_has : (b : Bool) → leaf_takes s t (bool b) ≡ true → is_some (leaf_value s t (json.bool b)) ≡ true
  bool_has b h = let d = leaf_takes_by (bool b) h in leaf_has d.0 (json.bool b) d.1 (bool_by b d.0.origin d.2)

  enum_has : (name : List ℕ) → leaf_takes s t (enum name) ≡ true → is_some (leaf_value s t (json.str name)) ≡ true
  enum_has name h = let d = leaf_takes_by (enum name) h in leaf_has d.0 (json.str name) d.1 (enum_by name d.0.origin d.2)

-- ---- variables at their places

-- the value of a variable is of the type of a place, and where null cannot stand there is one
pub record VarFits (s : SchemaTree) (vars : List VarTree) (name : List ℕ) (p : PlaceTree) : Type 0 where
  pub typed : (j : JsonTree) → var_value vars name ≡ Some j → IsOf s p.ty j
  pub given : is_non_null p.ty ≡ true → p.default_false ≡ false → is_some (var_value vars name) ≡ true

abbrev pub UseFits : SchemaTree → List VarTree → NodeTree → Type 0
UseFits s vars n = (u : UseTree (List ℕ)) → use_of n ≡ Some u → (p : PlaceTree) → u.place ≡ Some p → VarFits s vars u.name p

-- a node that violates no rule, with such variables, of which each fragment is reached that it spreads
pub record Good (s : SchemaTree) (d : DocumentTree) (reach : List ℕ) (vars : List VarTree) (n : NodeTree) : Type 0 where
  pub holds : Holds s d n
  pub used : UseFits s vars n
  pub spread : (q : ℕ) → spread_target (fragment_named d) n ≡ Some q → has reach q ≡ true

pub each_split : {A : Type 0} (P : A → Type 0) (xs ys : List A) → Each P (xs ++ ys) → Each P xs × Each P ys
each_split P [] ys h = (tt, h)
each_split P (x ∷ xs) ys h = let rest = each_split P xs ys h.1 in ((h.0, rest.0), rest.1)

pub some_of : {A : Type 0} (o : Option A) → is_some o ≡ true → (x : A) × (o ≡ Some x)
some_of None h = absurd cc
some_of (Some x) h = (x, refl)

pub not_none : {A : Type 0} (o : Option A) → is_none o ≡ false → (x : A) × (o ≡ Some x)
not_none None h = absurd cc
not_none (Some x) h = (x, refl)

module _ (s : SchemaTree) (d : DocumentTree) (reach : List ℕ) (vars : List VarTree) where
  abbrev Fine : NodeTree → Type 0
  Fine n = Good s d reach vars n

  -- a place takes the value that stands there
  taken : (p : PlaceTree) (v : PlacedTree) → Fine (value_node v (Some p)) → takes s p.ty v.value ≡ true
  taken p v h = not-false (takes s p.ty v.value) (at_if_none (not (takes s p.ty v.value)) v.at (h.holds.fields rule.ValuesOfCorrectType))

  with_are : (p : PlaceTree) (o : Option JsonTree) (js : List JsonTree) → ((j : JsonTree) → o ≡ Some j → IsOf s p.ty j) → AreOf s p.ty (elements_of js) → AreOf s p.ty (elements_of (with_element o js))
  with_are p None js here later = later
  with_are p (Some j) js here later = (here j refl, later)

  with_have : (t : ℕ) (name : List ℕ) (a : ArgTree) → input_field_of s t name ≡ Some a → (o : Option JsonTree) (ms : List (List ℕ × JsonTree)) → ((j : JsonTree) → o ≡ Some j → IsOf s a.ty j)
      → MembersOf s t (members_of ms) → MembersOf s t (members_of (with_member name o ms))
  with_have t name a is None ms here later = later
  with_have t name a is (Some j) ms here later = ((a, is, here j refl), later)

  mutual
    pub literal_is : (v : ValueTree) (at : ℕ) (p : PlaceTree) → Fine (value_node (record { at = at; value = v }) (Some p)) → Each Fine (nodes_in_value s (Some p) v)
        → (j : JsonTree) → source_of vars v ≡ Some j → IsOf s p.ty j
    literal_is (int text) at p h inside j e =
        let n = int_has s (base p.ty) text (taken p (record { at = at; value = int text }) h) in
        let same : number_of text ≡ j = cc in
        subst (IsOf s p.ty) same (subst (IsOf s p.ty) (sym n.1) n.2)
    literal_is (float text) at p h inside j e = let no : false ≡ true = taken p (record { at = at; value = float text }) h in absurd cc
    literal_is (str text) at p h inside j e = let same : json.str text ≡ j = cc in subst (IsOf s p.ty) same (str_has s (base p.ty) text (taken p (record { at = at; value = str text }) h))
    literal_is (bool b) at p h inside j e = let same : json.bool b ≡ j = cc in subst (IsOf s p.ty) same (bool_has s (base p.ty) b (taken p (record { at = at; value = bool b }) h))
    literal_is null at p h inside j e =
        let same : json.null ≡ j = cc in
        subst (IsOf s p.ty) same (not-true (is_non_null p.ty) (taken p (record { at = at; value = null }) h))
    literal_is (enum name) at p h inside j e = let same : json.str name ≡ j = cc in subst (IsOf s p.ty) same (enum_has s (base p.ty) name (taken p (record { at = at; value = enum name }) h))
    literal_is (list vs) at p h inside j e =
        let same : json.arr (elements_of (element_sources vars vs)) ≡ j = cc in
        let q = some_of (element_type p.ty) (taken p (record { at = at; value = list vs }) h) in
        let place : PlaceTree = record { ty = q.0; default_false = false } in
        let nodes : Each Fine (elements_nodes s (Some place) vs) =
        subst (λ (o : Option TypeRefTree). Each Fine (elements_nodes s (option_map (λ (r : TypeRefTree). let x : PlaceTree = record { ty = r; default_false = false } in x) o) vs)) q.1 inside in
        subst (IsOf s p.ty) same (q.0, q.1, elements_are vs place nodes)
    literal_is (object ms) at p h inside j e =
        let same : json.obj (members_of (member_sources vars ms)) ≡ j = cc in
        let t = some_of (input_at s (base p.ty)) (taken p (record { at = at; value = object ms }) h) in
        subst (IsOf s p.ty) same (t.0, t.1, members_have ms t.0 (subst (λ o. Each Fine (members_nodes s o ms)) t.1 inside))
    literal_is (variable name) at p h inside j e = (h.used (record { name = name; at = at; place = Some p }) refl p refl).typed j e

    elements_are : (vs : ElementTrees) (p : PlaceTree) → Each Fine (elements_nodes s (Some p) vs) → AreOf s p.ty (elements_of (element_sources vars vs))
    elements_are no_element p h = tt
    elements_are (element at v vs) p h =
        let parts = each_split Fine (nodes_in_value s (Some p) v) (elements_nodes s (Some p) vs) h.1 in
        with_are p (source_of vars v) (element_sources vars vs) (λ j e. literal_is v at p h.0 parts.0 j e) (elements_are vs p parts.1)

    members_have : (ms : MemberTrees) (t : ℕ) → Each Fine (members_nodes s (Some t) ms) → MembersOf s t (members_of (member_sources vars ms))
    members_have no_member t h = tt
    members_have (member at name value_at v ms) t h =
        let parts = each_split Fine (nodes_in_value s (option_map place_of_arg (input_field_of s t name)) v) (members_nodes s (Some t) ms) h.1.1 in
        let known : is_none (input_field_of s t name) ≡ false = at_if_none (is_none (input_field_of s t name)) at (h.0.holds.fields rule.KnownInputFields) in
        by known (input_field_of s t name) refl h.1.0 parts.0 (λ a here inside j e. literal_is v value_at (place_of_arg a) here inside j e) (members_have ms t parts.1)
      where
        by : is_none (input_field_of s t name) ≡ false → (o : Option ArgTree) → input_field_of s t name ≡ o
            → Fine (value_node (record { at = value_at; value = v }) (option_map place_of_arg o)) → Each Fine (nodes_in_value s (option_map place_of_arg o) v)
            → ((a : ArgTree) → Fine (value_node (record { at = value_at; value = v }) (Some (place_of_arg a))) → Each Fine (nodes_in_value s (Some (place_of_arg a)) v) → (j : JsonTree)
            → source_of vars v ≡ Some j → IsOf s a.ty j)
            → MembersOf s t (members_of (member_sources vars ms)) → MembersOf s t (members_of (with_member name (source_of vars v) (member_sources vars ms)))
        by known None is here inside value later = let no : true ≡ false = ap is_none (sym is) ∙ known in absurd cc
        by known (Some a) is here inside value later = with_have t name a is (source_of vars v) (member_sources vars ms) (λ j e. value a here inside j e) later
