-- The variables that an operation uses have values that go with their places (GraphQL October 2021, 5.8.3, 5.8.5 and 6.1.2).
use Rattle.std.proofs.Common.{◌≡◌, ◌∙◌, refl, sym, ap, subst, ℕ, zero, suc, ◌+◌, ◌<◌, arith, nat_eq, eq-eqb, get_or, inl, inr, List, [], ◌∷◌, map, length, find, Bool, true, false, cond, not, ◌&&◌, ◌||◌, Option, Some, None, Ok, Err, is_some, is_none, option_and_then, slice_get, slice_index_or, bytes_eq}
use Rattle.std.specs.List.{filter_map, list_any, cons_option, position_from}
use Rattle.std.specs.Map.{lookup}
use Rattle.std.proofs.lemmas.Option.{slice_get_within}
use Rattle.std.specs.Option.{option_or}
use Rattle.std.proofs.lemmas.Bool.{and_parts, or_parts, eqb-true, cases_eq, or_left, or_right, not-false}
use Rattle.hq_model.proofs.Names.{names_equal}
use Rattle.hq_overlap_sets.proofs.ValueLemmas.{true_bytes}
use Rattle.hq_base.specs.Due.{mapped}
use Rattle.hq_base.specs.Json.{JsonTree}
use Rattle.hq_base.specs.Lists.{Each}
use Rattle.hq_base.proofs.Lists.{each_weaken}
use Rattle.hq_schema.specs.Schema.{TypeRefTree, named, list_of, non_null, SchemaTree}
use Rattle.hq_gql_tree.specs.Values.{ValueTree, variable}
use Rattle.hq_gql_tree.specs.Documents.{VarDefTree, OperationTree, DefinitionTree, operation, DocumentTree}
use Rattle.hq_gql_nodes.specs.Known.{PlaceTree, is_non_null, resolved}
use Rattle.hq_gql_nodes.specs.Least.{at_if, least_of}
use Rattle.hq_gql_nodes.specs.Names.{NameTree, repeat_behind, least_repeat}
use Rattle.hq_gql_nodes.specs.Nodes.{NodeTree, value_node, spread_node, PartTree, part_of, definition_nodes, document_parts}
use Rattle.hq_gql_nodes.specs.Fragments.{is_fragment_named, fragment_named, spread_target, spread_targets, graph_of}
use Rattle.hq_gql_nodes.specs.Reach.{has, Graph, reached}
use Rattle.hq_gql_nodes.proofs.Grown.{or_split}
use Rattle.hq_rules_reach.specs.Spreads.{least_below, place_at, least_at}
use Rattle.hq_rules_reach.specs.Uses.{UseTree, use_in, use_of, uses_of, all_uses, uses_at}
use Rattle.hq_rules_reach.specs.Variables.{variable_named, nullable, are_compatible, has_default, is_allowed, undefined_use, is_wrong_type, wrong_use, undefined_in, wrong_in, in_operation}
use Rattle.hq_request_coerce.specs.Coercion.{coerced}
use Rattle.hq_request_coerce.specs.Coercion as coercion
use Rattle.hq_request_coerce.specs.Due.{refused, default_value, given_value, checked_value, value_due, value_if_known, variable_due, with_value, values_due}
use Rattle.hq_request_coerce.specs.Required.{required_in, required_of, required_names, required_at, is_required}
use Rattle.hq_request_coerce.specs.Variables.{VarTree, var_value}
use Rattle.hq_rules_doc.specs.Operations.{variable_name, repeated_variable}
use Rattle.hq_laws_request.proofs.Built.BuildingSteps.{mapped_ok, then_ok}
use Rattle.hq_laws_request.proofs.Built.Items.{each_at}
use Rattle.hq_laws_request.proofs.Built.Literals.{VarFits, UseFits, Good, not_none}
use Rattle.hq_laws_request.proofs.Built.Reaching.{reached_closed}
use Rattle.hq_laws_request.proofs.Built.Unviolated.{earlier_parts, at_if_none, least_none, each_unmap, each_both, DocHolds, FieldsHold, Holds, nodes_hold}
use Rattle.hq_laws_request.proofs.Built.Compatible.{compatible_is}
use Rattle.hq_laws_request.proofs.Built.Values.{IsOf, NoDefaults, strict_is, coerced_is, non_null_same}

-- ---- what is not found among some

least_has : (f : ℕ → Option ℕ) (xs : List ℕ) (j : ℕ) → least_of f xs ≡ None → has xs j ≡ true → f j ≡ None
least_has f [] j h in_xs = absurd cc
least_has f (x ∷ xs) j h in_xs =
    let both = earlier_parts (f x) (least_of f xs) h in
    (elim (or_split (nat_eq j x) (has xs j) in_xs) [
      | inl e ↦ let same : j ≡ x = eqb-true j x e in ap f same ∙ both.0
      | inr m ↦ least_has f xs j both.1 m
    ])

-- a fact of what a function gives of each item
each_given : {A B : Type 0} (P : B → Type 0) (f : A → Option B) (xs : List A) → Each P (filter_map f xs) → Each (λ x. (y : B) → f x ≡ Some y → P y) xs
each_given P f [] h = tt
each_given {A = A} {B = B} P f (x ∷ xs) h = by (f x) refl h (λ g. each_given P f xs g)
  where
    by : (o : Option B) → f x ≡ o → Each P (cons_option o (filter_map f xs)) → (Each P (filter_map f xs) → Each (λ x. (y : B) → f x ≡ Some y → P y) xs)
        → Each (λ x. (y : B) → f x ≡ Some y → P y) (x ∷ xs)
    by None is h again = ((λ y e. let no : None ≡ Some y = sym is ∙ e in absurd cc), again h)
    by (Some z) is h again = ((λ y e. let same : z ≡ y = (let s : Some z ≡ Some y = sym is ∙ e in cc) in subst P same h.0), again h.1)

-- what a function gives of two lists one behind the other, at a place
mapped_at : {A B C : Type 0} (g : A → B) (f : B → List C) (xs : List A) (i : ℕ) (x : A) → slice_get xs i ≡ Some x → slice_index_or (map f (map g xs)) i [] ≡ f (g x)
mapped_at g f [] i x e = absurd cc
mapped_at g f (y ∷ xs) zero x e = let same : y ≡ x = cc in ap (λ z. f (g z)) same
mapped_at g f (y ∷ xs) (suc i) x e = mapped_at g f xs i x e

-- the first item that passes, and its place
pub found_at : {A : Type 0} (p : A → Bool) (n : ℕ) (xs : List A) (k : ℕ) → position_from p n xs ≡ Some k
    → (i : ℕ) × (x : A) × (k ≡ n + i) × (slice_get xs i ≡ Some x) × (find p xs ≡ Some x) × (p x ≡ true)
found_at p n [] k e = absurd cc
found_at {A = A} p n (y ∷ xs) k e = by (p y) refl e (λ g. found_at p (n + 1) xs k g)
  where
    by : (b : Bool) → p y ≡ b → cond b (Some n) (position_from p (n + 1) xs) ≡ Some k
        → (position_from p (n + 1) xs ≡ Some k → (i : ℕ) × (x : A) × (k ≡ (n + 1) + i) × (slice_get xs i ≡ Some x) × (find p xs ≡ Some x) × (p x ≡ true))
        → (i : ℕ) × (x : A) × (k ≡ n + i) × (slice_get (y ∷ xs) i ≡ Some x) × (find p (y ∷ xs) ≡ Some x) × (p x ≡ true)
    by true passes e again = let same : n ≡ k = cc in (0, y, omega (arith, same), refl, rw passes refl, passes)
    by false passes e again = let r = again e in (suc r.0, r.1, omega (arith, r.2), r.3, rw passes r.4, r.5)

-- ---- values by name

-- a value of another name is passed over, and one of the name is taken
skipped : (own name : List ℕ) (o : Option JsonTree) (vars : List VarTree) → bytes_eq own name ≡ false → var_value (with_value own o vars) name ≡ var_value vars name
skipped own name None vars other = refl
skipped own name (Some j) vars other = rw other refl

taken : (own name : List ℕ) (o : Option JsonTree) (vars : List VarTree) → bytes_eq own name ≡ true → var_value vars name ≡ None → var_value (with_value own o vars) name ≡ o
taken own name None vars same none = none
taken own name (Some j) vars same none = rw same refl

-- names of which none is repeated differ from those before
unrepeated : (before : List (List ℕ)) (ns : List NameTree) → repeat_behind before ns ≡ None → Each (λ (n : NameTree). list_any (λ x. bytes_eq x n.name) before ≡ false) ns
unrepeated before [] h = tt
unrepeated before (n ∷ ns) h =
    let both = earlier_parts (at_if (list_any (λ x. bytes_eq x n.name) before) n.at) (repeat_behind (n.name ∷ before) ns) h in (
      at_if_none (list_any (λ x. bytes_eq x n.name) before) n.at both.0,
      each_weaken (λ (k : NameTree). list_any (λ x. bytes_eq x k.name) (n.name ∷ before) ≡ false) (λ (k : NameTree). list_any (λ x. bytes_eq x k.name) before ≡ false)
          (λ k h. (or_parts (bytes_eq n.name k.name) (list_any (λ x. bytes_eq x k.name) before) h).1) ns (unrepeated (n.name ∷ before) ns both.1),
    )

-- variables behind one have other names
others_differ : (own name : List ℕ) (before : List (List ℕ)) (vs : List VarDefTree) → bytes_eq own name ≡ true → repeat_behind (own ∷ before) (map variable_name vs) ≡ None
    → Each (λ (v : VarDefTree). bytes_eq v.name name ≡ false) vs
others_differ own name before vs same h =
    each_weaken (λ (v : VarDefTree). list_any (λ x. bytes_eq x v.name) (own ∷ before) ≡ false) (λ (v : VarDefTree). bytes_eq v.name name ≡ false)
    (λ v h. other v (or_parts (bytes_eq own v.name) (list_any (λ x. bytes_eq x v.name) before) h).0) vs
    (each_unmap (λ (n : NameTree). list_any (λ x. bytes_eq x n.name) (own ∷ before) ≡ false) variable_name vs (unrepeated (own ∷ before) (map variable_name vs) h))
  where
    other : (v : VarDefTree) → bytes_eq own v.name ≡ false → bytes_eq v.name name ≡ false
    other v differs = by (bytes_eq v.name name) refl
      where
        by : (b : Bool) → bytes_eq v.name name ≡ b → b ≡ false
        by false is = refl
        by true is =
            let equal : own ≡ v.name = names_equal own name same ∙ sym (names_equal v.name name is) in
            let yes : true ≡ false = sym (true_bytes own v.name equal) ∙ differs in
            absurd cc

-- ---- the value of a variable

module _ (s : SchemaTree) (plain : NoDefaults s) where
  -- a variable without a value was given none, and its type has null; a value is one of its type, and no null where that is required
  data IsValue (required : Bool) (r : TypeRefTree) (given o : Option JsonTree) : Type 0 where
    absent : o ≡ None → given ≡ None → is_non_null r ≡ false → IsValue required r given o
    present : (x : JsonTree) → o ≡ Some x → IsOf s r x → (required ≡ true → coercion.is_null x ≡ false) → IsValue required r given o

  value_is : (at : ℕ) (required : Bool) (r : TypeRefTree) (given o : Option JsonTree) → value_due s at required r given ≡ Ok o → IsValue required r given o
  value_is at required r None o e = by (coercion.is_non_null r) refl e
    where
      by : (b : Bool) → coercion.is_non_null r ≡ b → cond b (Err (refused at)) (Ok None) ≡ Ok o → IsValue required r None o
      by true is e = absurd cc
      by false is e = let same : None ≡ o = cc in absent (sym same) refl (sym (non_null_same r) ∙ is)
  value_is at required r (Some j) o e = by (coerced s j r) refl e
    where
      checked : (x : JsonTree) → coerced s j r ≡ Some x → (b : Bool) → (required && coercion.is_null x) ≡ b → cond b (Err (refused at)) (Ok (Some x)) ≡ Ok o → IsValue required r (Some j) o
      checked x is true test e = absurd cc
      checked x is false test e =
          let same : Some x ≡ o = cc in
          present x (sym same) (coerced_is s plain j r x is) (λ wanted. let now : (true && coercion.is_null x) ≡ false = subst (λ b. (b && coercion.is_null x) ≡ false) wanted test in now)

      by : (c : Option JsonTree) → coerced s j r ≡ c → checked_value at required c ≡ Ok o → IsValue required r (Some j) o
      by None is e = absurd cc
      by (Some x) is e = checked x is (required && coercion.is_null x) refl e

  -- what such a value is at a place that takes the variable
  record AtPlace (p : PlaceTree) (o : Option JsonTree) : Type 0 where
    typed : (j : JsonTree) → o ≡ Some j → IsOf s p.ty j
    given : is_non_null p.ty ≡ true → p.default_false ≡ false → is_some o ≡ true

  without_null : (q : TypeRefTree) (x : JsonTree) → is_non_null q ≡ true → coercion.is_null x ≡ false → IsOf s (nullable q) x → IsOf s q x
  without_null (named t) x is never h = absurd cc
  without_null (list_of q) x is never h = absurd cc
  without_null (non_null q) x is never h = strict_is s q x never h

  module _ (required default : Bool) (r : TypeRefTree) (p : PlaceTree) (given : Option JsonTree) (strict : is_non_null p.ty ≡ true → required ≡ true)
      (has : default ≡ true → is_some given ≡ true) where
    -- where the types go together as they are
    plainly : (o : Option JsonTree) → IsValue required r given o → are_compatible r p.ty ≡ true → (is_non_null p.ty ≡ true → is_non_null r ≡ true) → AtPlace p o
    plainly o (absent out none loose) goes both =
        record { typed = λ j e. let no : None ≡ Some j = sym out ∙ e in absurd cc; given = λ is d. let no : true ≡ false = sym (both is) ∙ loose in absurd cc }
    plainly o (present x out h never) goes both = record {
      typed = λ j e. let same : x ≡ j = (let both : Some x ≡ Some j = sym out ∙ e in cc) in subst (IsOf s p.ty) same (compatible_is s x r p.ty goes h);
      given = λ is d. ap is_some out;
    }

    -- where a default stands for null
    by_default : (o : Option JsonTree) → IsValue required r given o → is_non_null p.ty ≡ true → (default || p.default_false) ≡ true → are_compatible r (nullable p.ty) ≡ true → AtPlace p o
    by_default o (absent out none loose) is one goes = record {
      typed = λ j e. let no : None ≡ Some j = sym out ∙ e in absurd cc;
      given = λ _ d. let both : (default || false) ≡ true = subst (λ b. (default || b) ≡ true) d one in let there : is_some given ≡ true = has (or_false default both) in
          let no : false ≡ true = ap is_some (sym none) ∙ there in absurd cc;
    }
      where
        or_false : (b : Bool) → (b || false) ≡ true → b ≡ true
        or_false true h = refl
        or_false false h = absurd cc
    by_default o (present x out h never) is one goes = record {
      typed = λ j e. let same : x ≡ j = (let both : Some x ≡ Some j = sym out ∙ e in cc) in
          subst (IsOf s p.ty) same (without_null p.ty x is (never (strict is)) (compatible_is s x r (nullable p.ty) goes h));
      given = λ _ d. ap is_some out;
    }

    at_place : (o : Option JsonTree) → IsValue required r given o → is_allowed r default p ≡ true → AtPlace p o
    at_place o h allowed = by (is_non_null p.ty) (is_non_null r) refl refl allowed
      where
        by : (b c : Bool) → is_non_null p.ty ≡ b → is_non_null r ≡ c → cond (b && not c) ((default || p.default_false) && are_compatible r (nullable p.ty)) (are_compatible r p.ty) ≡ true → AtPlace p o
        by false c is loose e = plainly o h e (λ yes. let no : true ≡ false = sym yes ∙ is in absurd cc)
        by true true is loose e = plainly o h e (λ yes. loose)
        by true false is loose e = let parts = and_parts (default || p.default_false) (are_compatible r (nullable p.ty)) e in by_default o h is parts.0 parts.1

  -- ---- the variables of an operation

  module _ (required : List ℕ → Bool) (given : List (List ℕ × JsonTree)) where
    -- no variable of a name has a value where none of that name is defined
    not_defined : (name : List ℕ) (vs : List VarDefTree) (vars : List VarTree) → Each (λ (v : VarDefTree). bytes_eq v.name name ≡ false) vs → values_due s required given vs ≡ Ok vars
        → var_value vars name ≡ None
    not_defined name [] vars other e = let same : [] ≡ vars = cc in subst (λ ws. var_value ws name ≡ None) same refl
    not_defined name (v ∷ vs) vars other e =
        let one = then_ok (λ o. mapped (with_value v.name o) (values_due s required given vs)) (variable_due s required given v) vars e in
        let two = mapped_ok (with_value v.name one.0) (values_due s required given vs) vars one.2 in
        subst (λ ws. var_value ws name ≡ None) two.2 (skipped v.name name one.0 two.0 other.0 ∙ not_defined name vs two.0 other.1 two.1)

    -- the value of a variable is what is due of its definition
    pub value_due_of : (name : List ℕ) (vs : List VarDefTree) (vars : List VarTree) (before : List (List ℕ)) → repeat_behind before (map variable_name vs) ≡ None
        → values_due s required given vs ≡ Ok vars
        → (v : VarDefTree) → find (λ (w : VarDefTree). bytes_eq w.name name) vs ≡ Some v → variable_due s required given v ≡ Ok (var_value vars name)
    value_due_of name [] vars before unique e v is = absurd cc
    value_due_of name (w ∷ vs) vars before unique e v is =
        let one = then_ok (λ o. mapped (with_value w.name o) (values_due s required given vs)) (variable_due s required given w) vars e in
        let two = mapped_ok (with_value w.name one.0) (values_due s required given vs) vars one.2 in
        let rest = earlier_parts (at_if (list_any (λ x. bytes_eq x w.name) before) w.at) (repeat_behind (w.name ∷ before) (map variable_name vs)) unique in
        subst (λ ws. variable_due s required given v ≡ Ok (var_value ws name)) two.2
        (by one.0 two.0 one.1 two.1 rest.1 (bytes_eq w.name name) refl is (λ is. value_due_of name vs two.0 (w.name ∷ before) rest.1 two.1 v is))
      where
        by : (o : Option JsonTree) (more : List VarTree) → variable_due s required given w ≡ Ok o → values_due s required given vs ≡ Ok more
            → repeat_behind (w.name ∷ before) (map variable_name vs) ≡ None
            → (b : Bool) → bytes_eq w.name name ≡ b → cond b (Some w) (find (λ (w : VarDefTree). bytes_eq w.name name) vs) ≡ Some v
            → (find (λ (w : VarDefTree). bytes_eq w.name name) vs ≡ Some v → variable_due s required given v ≡ Ok (var_value more name))
            → variable_due s required given v ≡ Ok (var_value (with_value w.name o more) name)
        by o more due others later true same is again =
            let w_is : w ≡ v = cc in
            let none : var_value more name ≡ None = not_defined name vs more (others_differ w.name name before vs same later) others in
            let value : var_value (with_value w.name o more) name ≡ o = taken w.name name o more same none in
            subst (λ x. variable_due s required given x ≡ Ok (var_value (with_value w.name o more) name)) w_is (due ∙ ap Ok (sym value))
        by o more due others later false other is again = again is ∙ ap Ok (sym (skipped w.name name o more other))

-- ---- each use of a reached definition

-- the place of a definition at which something is violated
below_none : (f : ℕ → Option ℕ) (n i : ℕ) → least_below f n ≡ None → i < n → f i ≡ None
below_none f zero i h less = absurd (omega (arith, less))
below_none f (suc n) i h less =
    let both = earlier_parts (least_below f n) (f n) h in
    (elim (cases_eq i n) [
      | inl same ↦ ap f same ∙ both.1
      | inr other ↦ below_none f n i both.0 (omega (arith, less, other))
    ])

at_none : (f : ℕ → DefinitionTree → Option ℕ) (d : DocumentTree) (i : ℕ) (x : DefinitionTree) → least_at f d ≡ None → slice_get d i ≡ Some x → f i x ≡ None
at_none f d i x h at = ap (option_and_then (f i)) (sym at) ∙ below_none (place_at f d) (length d) i h (slice_get_within d i x at)

-- a test passes at an item
any_has : (p : ℕ → Bool) (xs : List ℕ) (j : ℕ) → has xs j ≡ true → p j ≡ true → list_any p xs ≡ true
any_has p [] j h e = absurd cc
any_has p (x ∷ xs) j h e =
    (elim (or_split (nat_eq j x) (has xs j) h) [
      | inl is ↦ let same : j ≡ x = eqb-true j x is in or_left (p x) (list_any p xs) (ap p (sym same) ∙ e)
      | inr m ↦ or_right (p x) (list_any p xs) (any_has p xs j m e)
    ])

-- each name that a function gives is among those that it gives
each_among : {A : Type 0} (f : A → Option (List ℕ)) (xs : List A) → Each (λ x. (name : List ℕ) → f x ≡ Some name → list_any (λ n. bytes_eq n name) (filter_map f xs) ≡ true) xs
each_among f [] = tt
each_among {A = A} f (x ∷ xs) = by (f x) refl (each_among f xs)
  where
    by : (o : Option (List ℕ)) → f x ≡ o → Each (λ y. (name : List ℕ) → f y ≡ Some name → list_any (λ n. bytes_eq n name) (filter_map f xs) ≡ true) xs
        → Each (λ y. (name : List ℕ) → f y ≡ Some name → list_any (λ n. bytes_eq n name) (cons_option o (filter_map f xs)) ≡ true) (x ∷ xs)
    by None is later = ((λ name e. let no : None ≡ Some name = sym is ∙ e in absurd cc), later)
    by (Some own) is later = (
      (λ name e. let same : own ≡ name = (let both : Some own ≡ Some name = sym is ∙ e in cc) in
          or_left (bytes_eq own name) (list_any (λ n. bytes_eq n name) (filter_map f xs)) (true_bytes own name same)),
      each_weaken (λ y. (name : List ℕ) → f y ≡ Some name → list_any (λ n. bytes_eq n name) (filter_map f xs) ≡ true)
          (λ y. (name : List ℕ) → f y ≡ Some name → list_any (λ n. bytes_eq n name) (own ∷ filter_map f xs) ≡ true)
          (λ y h name e. or_right (bytes_eq own name) (list_any (λ n. bytes_eq n name) (filter_map f xs)) (h name e)) xs later,
    )

-- the same of places
each_place : {A : Type 0} (f : A → Option ℕ) (xs : List A) → Each (λ x. (q : ℕ) → f x ≡ Some q → has (filter_map f xs) q ≡ true) xs
each_place f [] = tt
each_place {A = A} f (x ∷ xs) = by (f x) refl (each_place f xs)
  where
    by : (o : Option ℕ) → f x ≡ o → Each (λ y. (q : ℕ) → f y ≡ Some q → has (filter_map f xs) q ≡ true) xs
        → Each (λ y. (q : ℕ) → f y ≡ Some q → has (cons_option o (filter_map f xs)) q ≡ true) (x ∷ xs)
    by None is later = ((λ q e. let no : None ≡ Some q = sym is ∙ e in absurd cc), later)
    by (Some own) is later = (
      (λ q e. let same : own ≡ q = (let both : Some own ≡ Some q = sym is ∙ e in cc) in or_left (nat_eq q own) (has (filter_map f xs) q) (eq-eqb q own (sym same))),
      each_weaken (λ y. (q : ℕ) → f y ≡ Some q → has (filter_map f xs) q ≡ true) (λ y. (q : ℕ) → f y ≡ Some q → has (own ∷ filter_map f xs) q ≡ true)
          (λ y h q e. or_right (nat_eq q own) (has (filter_map f xs) q) (h q e)) xs later,
    )

-- a use where null cannot stand makes its variable a required one
required_used : (n : NodeTree) (u : UseTree (List ℕ)) (p : PlaceTree) → use_of n ≡ Some u → u.place ≡ Some p → coercion.is_non_null p.ty ≡ true → required_of n ≡ Some u.name
required_used (value_node v place) u p e at strict = by v.value e
  where
    of_variable : (name : List ℕ) (o : Option PlaceTree) → place ≡ o → name ≡ u.name → o ≡ Some p → required_in o (variable name) ≡ Some u.name
    of_variable name None is same_name at = absurd cc
    of_variable name (Some q) is same_name at = let same : p ≡ q = (let both : Some q ≡ Some p = at in cc) in
        rw (subst (λ (x : PlaceTree). coercion.is_non_null x.ty ≡ true) same strict) (ap Some same_name)

    by : (w : ValueTree) → use_in v.at place w ≡ Some u → required_in place w ≡ Some u.name
    by (variable name) e =
        let made : UseTree (List ℕ) = record { name = name; at = v.at; place = place } in
        let same : made ≡ u = (let both : Some made ≡ Some u = e in cc) in
        of_variable name place refl (ap (λ (x : UseTree (List ℕ)). x.name) same) (ap (λ (x : UseTree (List ℕ)). x.place) same ∙ at)
    by w e = absurd cc
required_used n u p e at strict = absurd cc

-- what a fragment's spread leads to
spread_within : (d : DocumentTree) (n : NodeTree) (q : ℕ) → spread_target (fragment_named d) n ≡ Some q → q < length d
spread_within d (spread_node x parent) q e = let r = found_at (is_fragment_named x.name) 0 d q e in let less = slice_get_within d r.0 r.1 r.3 in omega (arith, less, r.2)
spread_within d n q e = absurd cc

pub length_mapped : {A B C : Type 0} (f : B → C) (g : A → B) (xs : List A) → length (map f (map g xs)) ≡ length xs
length_mapped f g [] = refl
length_mapped f g (x ∷ xs) = ap suc (length_mapped f g xs)

-- each default writes a value
abbrev pub DefaultsWrite : List VarDefTree → Type 0
DefaultsWrite vs = Each (λ (v : VarDefTree). has_default v.default ≡ true → is_some (default_value v.default) ≡ true) vs

module _ (s : SchemaTree) (plain : NoDefaults s) (d : DocumentTree) (of_doc : DocHolds s d) (of_fields : FieldsHold s d) (op : ℕ) (o : OperationTree)
    (here : slice_get d op ≡ Some (operation o)) (constants : DefaultsWrite o.vars)
    (given : List (List ℕ × JsonTree)) (vars : List VarTree) (due : values_due s (is_required s d op) given o.vars ≡ Ok vars) where
  abbrev parts : List PartTree
  parts = document_parts s d

  abbrev g : Graph
  g = graph_of (fragment_named d) parts

  abbrev pub reach : List ℕ
  reach = reached g (op ∷ [])

  unique : least_repeat (map variable_name o.vars) ≡ None
  unique = each_at (λ x. repeated_variable x ≡ None) d op (operation o) here (least_none repeated_variable d of_doc.names)

  has_value : (v : VarDefTree) → (has_default v.default ≡ true → is_some (default_value v.default) ≡ true) → has_default v.default ≡ true → is_some (given_value given v) ≡ true
  has_value v writes there = by (lookup (λ n. bytes_eq n v.name) given)
    where
      by : (o : Option JsonTree) → is_some (option_or o (default_value v.default)) ≡ true
      by None = writes there
      by (Some j) = refl

  -- a use of a variable whose type goes with its place
  use_fits : (u : UseTree (List ℕ)) (p : PlaceTree) → u.place ≡ Some p → (coercion.is_non_null p.ty ≡ true → is_required s d op u.name ≡ true) → undefined_use (variable_named o.vars) u ≡ None
      → wrong_use s o.vars (variable_named o.vars) u ≡ None → VarFits s vars u.name p
  use_fits u p at strict defined allowed =
      let k = not_none (variable_named o.vars u.name) (at_if_none (is_none (variable_named o.vars u.name)) u.at defined) in
      let r = found_at (λ (w : VarDefTree). bytes_eq w.name u.name) 0 o.vars k.0 k.1 in
      let v : VarDefTree = r.1 in
      let there : option_and_then (slice_get o.vars) (variable_named o.vars u.name) ≡ Some v = ap (option_and_then (slice_get o.vars)) k.1
      ∙ (ap (slice_get o.vars) (let place : k.0 ≡ r.0 = omega (arith, r.2) in place) ∙ r.3) in
      let test : at_if (is_wrong_type (resolved s v.ty) (has_default v.default) u.place) u.at ≡ None =
      ap (option_and_then (λ (w : VarDefTree). at_if (is_wrong_type (resolved s w.ty) (has_default w.default) u.place) u.at)) (sym there) ∙ allowed in
      let right : is_wrong_type (resolved s v.ty) (has_default v.default) (Some p) ≡ false =
      ap (is_wrong_type (resolved s v.ty) (has_default v.default)) (sym at) ∙ at_if_none (is_wrong_type (resolved s v.ty) (has_default v.default) u.place) u.at test in
      let value = value_due_of s plain (is_required s d op) given u.name o.vars vars [] unique due v r.4 in
      let named : u.name ≡ v.name = sym (names_equal v.name u.name r.5) in
      by v named (resolved s v.ty) right value (each_at (λ (v : VarDefTree). has_default v.default ≡ true → is_some (default_value v.default) ≡ true) o.vars r.0 v r.3 constants)
    where
      by : (v : VarDefTree) → u.name ≡ v.name → (t : Option TypeRefTree) → is_wrong_type t (has_default v.default) (Some p) ≡ false
          → value_if_known s v.at (is_required s d op v.name) t (given_value given v) ≡ Ok (var_value vars u.name) → (has_default v.default ≡ true → is_some (default_value v.default) ≡ true)
          → VarFits s vars u.name p
      by v same_name None right value writes = absurd cc
      by v same_name (Some r) right value writes =
          let is = value_is s plain v.at (is_required s d op v.name) r (given_value given v) (var_value vars u.name) value in
          let fits = at_place s plain (is_required s d op v.name) (has_default v.default) r p (given_value given v)
          (λ yes. ap (is_required s d op) (sym same_name) ∙ strict (non_null_same p.ty ∙ yes)) (has_value v writes)
          (var_value vars u.name) is (not-false (is_allowed r (has_default v.default) p) right) in
          record { typed = fits.typed; given = fits.given }

  -- the facts of each node of a definition that is reached, or stands at a place
  module _ (i : ℕ) (x : DefinitionTree) (in_reach : has reach i ≡ true) (at : slice_get d i ≡ Some x) where
    abbrev nodes : List NodeTree
    nodes = definition_nodes s x

    abbrev Defined : NodeTree → Type 0
    Defined n = (u : UseTree (List ℕ)) → use_of n ≡ Some u → undefined_use (variable_named o.vars) u ≡ None

    abbrev Allowed : NodeTree → Type 0
    Allowed n = (u : UseTree (List ℕ)) → use_of n ≡ Some u → wrong_use s o.vars (variable_named o.vars) u ≡ None

    abbrev Required : NodeTree → Type 0
    Required n = (name : List ℕ) → required_of n ≡ Some name → is_required s d op name ≡ true

    abbrev Spreads : NodeTree → Type 0
    Spreads n = (q : ℕ) → spread_target (fragment_named d) n ≡ Some q → has reach q ≡ true

    same_uses : uses_at (all_uses parts) i ≡ uses_of nodes
    same_uses = mapped_at (part_of s) (λ (p : PartTree). uses_of p.nodes) d i x at

    all_defined : Each Defined nodes
    all_defined =
        let all = at_none (in_operation (undefined_in (all_uses parts)) g) d op (operation o) of_doc.defined here in
        let one = least_has (λ j. least_of (undefined_use (variable_named o.vars)) (uses_at (all_uses parts) j)) reach i all in_reach in
        each_given (λ u. undefined_use (variable_named o.vars) u ≡ None) use_of nodes
        (least_none (undefined_use (variable_named o.vars)) (uses_of nodes) (ap (least_of (undefined_use (variable_named o.vars))) (sym same_uses) ∙ one))

    all_allowed : Each Allowed nodes
    all_allowed =
        let all = at_none (in_operation (wrong_in s (all_uses parts)) g) d op (operation o) of_doc.allowed here in
        let one = least_has (λ j. least_of (wrong_use s o.vars (variable_named o.vars)) (uses_at (all_uses parts) j)) reach i all in_reach in
        each_given (λ u. wrong_use s o.vars (variable_named o.vars) u ≡ None) use_of nodes
        (least_none (wrong_use s o.vars (variable_named o.vars)) (uses_of nodes) (ap (least_of (wrong_use s o.vars (variable_named o.vars))) (sym same_uses) ∙ one))

    all_required : Each Required nodes
    all_required =
        let same : required_at parts i ≡ required_names nodes = mapped_at (part_of s) (λ (p : PartTree). required_names p.nodes) d i x at in
        each_weaken (λ n. (name : List ℕ) → required_of n ≡ Some name → list_any (λ y. bytes_eq y name) (filter_map required_of nodes) ≡ true) Required
        (λ n h name e. any_has (λ place. list_any (λ y. bytes_eq y name) (required_at parts place)) reach i in_reach (ap (list_any (λ y. bytes_eq y name)) same ∙ h name e)) nodes
        (each_among required_of nodes)

    all_used : Each (UseFits s vars) nodes
    all_used =
        each_both (λ n. Defined n × Allowed n) Required (UseFits s vars) (λ n a b u e p at. use_fits u p at (λ strict. b u.name (required_used n u p e at strict)) (a.0 u e) (a.1 u e)) nodes
        (each_both Defined Allowed (λ n. Defined n × Allowed n) (λ n a b. (a, b)) nodes all_defined all_allowed) all_required

    all_spread : Each Spreads nodes
    all_spread =
        let same : get_or g i [] ≡ spread_targets (fragment_named d) nodes = mapped_at (part_of s) (λ (p : PartTree). spread_targets (fragment_named d) p.nodes) d i x at in
        let long : length g ≡ length d = length_mapped (λ (p : PartTree). spread_targets (fragment_named d) p.nodes) (part_of s) d in
        each_weaken (λ n. (q : ℕ) → spread_target (fragment_named d) n ≡ Some q → has (filter_map (spread_target (fragment_named d)) nodes) q ≡ true) Spreads
        (λ n h q e.
        let less = spread_within d n q e in
        let below : q < length g = omega (arith, less, long) in
        reached_closed g (op ∷ []) i q in_reach (below, ap (λ ys. has ys q) same ∙ h q e)) nodes (each_place (spread_target (fragment_named d)) nodes)

    -- all nodes of a reached definition
    pub nodes_good : Each (Good s d reach vars) nodes
    nodes_good =
        each_both (λ n. Holds s d n × UseFits s vars n) Spreads (Good s d reach vars) (λ n a b. record { holds = a.0; used = a.1; spread = b }) nodes
        (each_both (Holds s d) (UseFits s vars) (λ n. Holds s d n × UseFits s vars n) (λ n a b. (a, b)) nodes (nodes_hold s d of_doc of_fields i x at) all_used) all_spread
