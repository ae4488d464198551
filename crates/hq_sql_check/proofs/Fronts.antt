-- DISTINCT ON: some keys at the front are, as a set, its expressions exactly where those at the front that are among them are.
use Rattle.std.proofs.Common.{◌≡◌, refl, sym, ap, ◌∙◌, suc, List, [], ◌∷◌, map, take, Bool, true, false, ◌&&◌, ◌||◌, if◌then◌else◌}
use Rattle.std.specs.List.{list_all, list_any}
use Rattle.std.proofs.lemmas.List.{take-map}
use Rattle.hq_sql_tree.specs.declared.expr.Expr.{Expr}
use Rattle.hq_sql_tree.specs.declared.expr.Order.{Order}
use Rattle.hq_sql_tree.specs.Tree.{ExprTree, OrderTree}
use Rattle.hq_sql_tree.specs.View.{expr_view, order_view}
use Rattle.hq_sql_tree.specs.WellFormed.{same_expr, is_among, begin_with}
use Rattle.hq_sql_check.specs.Fronts.{key_values, front_among}

-- items put in front, one after the other
abbrev onto : {A : Type 0} → List A → List A → List A
onto [] front = front
onto (x ∷ xs) front = onto xs (x ∷ front)

or_turn : (a b c : Bool) → (a || (b || c)) ≡ ((b || a) || c)
or_turn true true c = refl
or_turn true false c = refl
or_turn false true c = refl
or_turn false false c = refl

or_false : (a : Bool) → (a || false) ≡ a
or_false true = refl
or_false false = refl

-- what some item passes, wherever it stands
any_onto : {A : Type 0} (p : A → Bool) (xs front : List A) → list_any p (onto xs front) ≡ (list_any p xs || list_any p front)
any_onto p [] front = refl
any_onto p (x ∷ xs) front = any_onto p xs (x ∷ front) ∙ or_turn (list_any p xs) (p x) (list_any p front)

all_same : {A : Type 0} (p q : A → Bool) → ((x : A) → p x ≡ q x) → (xs : List A) → list_all p xs ≡ list_all q xs
all_same p q h [] = refl
all_same p q h (x ∷ xs) = let first = h x in let later = all_same p q h xs in cc

or_true : (a b : Bool) → b ≡ true → (a || b) ≡ true
or_true true b h = refl
or_true false b h = h

and_split : (a b : Bool) → (a && b) ≡ true → (a ≡ true) × (b ≡ true)
and_split true b h = (refl, h)
and_split false b h = cc

and_join : (a b : Bool) → a ≡ true → b ≡ true → (a && b) ≡ true
and_join a b g h = rw (g, h) refl

-- more items at the front leave each expression among them
more : (distinct xs front : List ExprTree) → list_all (is_among front) distinct ≡ true → list_all (is_among (onto xs front)) distinct ≡ true
more [] xs front h = refl
more (e ∷ es) xs front h =
    let parts = and_split (is_among front e) (list_all (is_among front) es) h in
    and_join (is_among (onto xs front) e) (list_all (is_among (onto xs front)) es)
    (any_onto (same_expr e) xs front ∙ or_true (list_any (same_expr e) xs) (list_any (same_expr e) front) parts.0)
    (more es xs front parts.1)

weaker : (a b : Bool) → (a ≡ true → b ≡ true) → (a || b) ≡ b
weaker true b h = sym (h refl)
weaker false b h = refl

front_grows : (distinct front : List ExprTree) (keys : List OrderTree) → begin_with distinct front keys ≡ list_all (is_among (onto (key_values (take (front_among distinct keys) keys)) front)) distinct
front_grows distinct front [] = refl
front_grows distinct front (k ∷ ks) =
    let later = front_grows distinct (k.value ∷ front) ks in
    let all = list_all (is_among front) distinct in
    let step : (b : Bool) → b ≡ is_among distinct k.value
    → (all || (b && begin_with distinct (k.value ∷ front) ks))
    ≡ list_all (is_among (onto (key_values (take (if b then suc (front_among distinct ks) else 0) (k ∷ ks))) front)) distinct =
    elim [
      | true ↦ λ e. ap (λ b. all || b) later
          ∙ weaker all (list_all (is_among (onto (key_values (take (front_among distinct ks) ks)) (k.value ∷ front))) distinct)
          (more distinct (key_values (take (suc (front_among distinct ks)) (k ∷ ks))) front)
      | false ↦ λ e. or_false all
    ] in
    step (is_among distinct k.value) refl

-- so it is with no key in front
pub front_is : (distinct : List ExprTree) (keys : List OrderTree) → begin_with distinct [] keys ≡ list_all (is_among (key_values (take (front_among distinct keys) keys))) distinct
front_is distinct keys =
    let front = key_values (take (front_among distinct keys) keys) in
    front_grows distinct [] keys ∙ all_same (is_among (onto front [])) (is_among front) (λ e. any_onto (same_expr e) front [] ∙ or_false (list_any (same_expr e) front)) distinct

-- the same, of the trees of the code
pub begins : (distinct : List Expr) (keys : List Order)
    → begin_with (map expr_view distinct) [] (map order_view keys)
    ≡ list_all (is_among (key_values (map order_view (take (front_among (map expr_view distinct) (map order_view keys)) keys))))
    (map expr_view distinct)
begins distinct keys =
    front_is (map expr_view distinct) (map order_view keys)
    ∙ ap (λ front. list_all (is_among (key_values front)) (map expr_view distinct)) (take-map order_view (front_among (map expr_view distinct) (map order_view keys)) keys)
