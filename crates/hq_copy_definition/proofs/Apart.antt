-- Lists whose items differ, pair by pair.
use Rattle.std.proofs.Common.{◌≡◌, ℕ, zero, suc, ◌+◌, ◌≤◌, ◌<◌, List, [], ◌∷◌, ◌++◌, map, filter, length, Bool, true, false, cond, not, ◌==◌, inl, inr, ◌⊎◌, refl, sym, ap, ◌∙◌, subst, arith}
use Rattle.std.proofs.lemmas.Bool.{and_parts, and_from, not-true, not_from_false, eq-eqb, eqb-true, ne_eqb, false≢true}
use Rattle.std.specs.List.{list_any}
use Rattle.std.specs.Prelude.{flat_map}
use Rattle.hq_base.specs.Lists.{Each, all_differ}
use Rattle.hq_base.proofs.Lists.{each_filter}
use Rattle.hq_copy_definition.proofs.Lists.{each_map, each_append, each_none, none_each, each_both}

-- each item differs from those behind it
abbrev pub Apart : {A : Type 0} → (A → A → Bool) → List A → Type 0
Apart same [] = Unit {0}
Apart same (x ∷ xs) = Each (λ y. same x y ≡ false) xs × Apart same xs

pub differ_apart : {A : Type 0} (same : A → A → Bool) (xs : List A) → all_differ same xs ≡ true → Apart same xs
differ_apart same [] h = tt
differ_apart same (x ∷ xs) h =
    let both = and_parts (not (list_any (same x) xs)) (all_differ same xs) h in
    (each_none (same x) xs (not-true (list_any (same x) xs) both.0), differ_apart same xs both.1)

pub apart_differ : {A : Type 0} (same : A → A → Bool) (xs : List A) → Apart same xs → all_differ same xs ≡ true
apart_differ same [] h = refl
apart_differ same (x ∷ xs) h =
    and_from (not (list_any (same x) xs)) (all_differ same xs) (not_from_false (list_any (same x) xs) (none_each (same x) xs h.0)) (apart_differ same xs h.1)

pub each_split : {A : Type 0} (P : A → Type 0) (xs ys : List A) → Each P (xs ++ ys) → Each P xs × Each P ys
each_split P [] ys h = (tt, h)
each_split P (x ∷ xs) ys h = let both = each_split P xs ys h.1 in ((h.0, both.0), both.1)

pub apart_append : {A : Type 0} (same : A → A → Bool) (xs ys : List A) → Apart same xs → Apart same ys → Each (λ x. Each (λ y. same x y ≡ false) ys) xs → Apart same (xs ++ ys)
apart_append same [] ys h g c = g
apart_append same (x ∷ xs) ys h g c = (each_append (λ y. same x y ≡ false) xs ys h.0 c.0, apart_append same xs ys h.1 g c.1)

-- the two parts of a joined list, and how they differ
pub apart_split : {A : Type 0} (same : A → A → Bool) (xs ys : List A) → Apart same (xs ++ ys) → Apart same xs × Apart same ys × Each (λ x. Each (λ y. same x y ≡ false) ys) xs
apart_split same [] ys h = (tt, h, tt)
apart_split same (x ∷ xs) ys h =
    let rest = apart_split same xs ys h.1 in
    let both = each_split (λ y. same x y ≡ false) xs ys h.0 in
    ((both.0, rest.0), rest.1, (both.1, rest.2))

pub apart_map : {A B : Type 0} (same : B → B → Bool) (f : A → B) (xs : List A) → Apart (λ x y. same (f x) (f y)) xs → Apart same (map f xs)
apart_map same f [] h = tt
apart_map same f (x ∷ xs) h = (each_map (λ y. same (f x) y ≡ false) f xs h.0, apart_map same f xs h.1)

-- items that differ by one test differ by another, where they have something
pub apart_on : {A : Type 0} (P : A → Type 0) (same other : A → A → Bool) → ((x y : A) → P x → P y → same x y ≡ false → other x y ≡ false) → (xs : List A) → Each P xs → Apart same xs
    → Apart other xs
apart_on P same other f [] p h = tt
apart_on P same other f (x ∷ xs) p h =
    (each_both P (λ y. same x y ≡ false) (λ y. other x y ≡ false) (λ y q e. f x y p.0 q e) xs p.1 h.0, apart_on P same other f xs p.1 h.1)

pub apart_filter : {A : Type 0} (same : A → A → Bool) (p : A → Bool) (xs : List A) → Apart same xs → Apart same (filter p xs)
apart_filter same p [] h = tt
apart_filter same p (x ∷ xs) h =
    let later = apart_filter same p xs h.1 in
    let go : (b : Bool) → Apart same (cond b (x ∷ filter p xs) (filter p xs)) = elim [ true ↦ (each_filter (λ y. same x y ≡ false) p xs h.0, later) | false ↦ later ] in
    go (p x)

-- ---- numbers below a bound

all_kept : (n : ℕ) (xs : List ℕ) → Each (λ y. (n == y) ≡ false) xs → length (filter (λ x. not (x == n)) xs) ≡ length xs
all_kept n [] h = refl
all_kept n (x ∷ xs) h =
    let other : (x == n) ≡ false = ne_eqb x n (λ e. false≢true (sym h.0 ∙ eq-eqb n x (sym e))) in
    ap (λ b. length (cond (not b) (x ∷ filter (λ y. not (y == n)) xs) (filter (λ y. not (y == n)) xs))) other ∙ ap suc (all_kept n xs h.1)

-- at most one of different numbers is n
one_out : (n : ℕ) (xs : List ℕ) → Apart (λ x y. x == y) xs → length xs ≤ suc (length (filter (λ x. not (x == n)) xs))
one_out n [] h = omega arith
one_out n (x ∷ xs) h =
    let go : (b : Bool) → (x == n) ≡ b → suc (length xs) ≤ suc (length (cond (not b) (x ∷ filter (λ y. not (y == n)) xs) (filter (λ y. not (y == n)) xs))) =
    elim [
      | true ↦ λ e. let same : length (filter (λ y. not (y == n)) xs) ≡ length xs = all_kept n xs (subst (λ k. Each (λ y. (k == y) ≡ false) xs) (eqb-true x n e) h.0) in omega (arith, same)
      | false ↦ λ e. let less = one_out n xs h.1 in omega (arith, less)
    ] in
    go (x == n) refl

below_last : (n : ℕ) (xs : List ℕ) → Each (λ x. x < suc n) xs → Each (λ x. x < n) (filter (λ x. not (x == n)) xs)
below_last n [] h = tt
below_last n (x ∷ xs) h =
    let later = below_last n xs h.1 in
    let go : (b : Bool) → (x == n) ≡ b → Each (λ y. y < n) (cond (not b) (x ∷ filter (λ y. not (y == n)) xs) (filter (λ y. not (y == n)) xs)) =
    elim [
      | true ↦ λ e. later
      | false ↦ λ e. let differ : x ≡ n → ⊥ = λ g. false≢true (sym e ∙ eq-eqb x n g) in let less = h.0 in let small : x < n = omega (arith, differ) in (small, later)
    ] in
    go (x == n) refl

-- different numbers below n are at most n
pub at_most : (n : ℕ) (xs : List ℕ) → Apart (λ x y. x == y) xs → Each (λ x. x < n) xs → length xs ≤ n
at_most zero [] h b = omega arith
at_most zero (x ∷ xs) h b = let less = b.0 in absurd (omega arith)
at_most (suc n) xs h b =
    let fewer = at_most n (filter (λ x. not (x == n)) xs) (apart_filter (λ x y. x == y) (λ x. not (x == n)) xs h) (below_last n xs b) in
    let one = one_out n xs h in
    omega arith

-- ---- some of the items

-- xs are some of ys, in their order
abbrev pub Sub : {A : Type 0} → (xs ys : List A) → Type 0
Sub xs [] = xs ≡ []
Sub {A} xs (y ∷ ys) = Sub xs ys ⊎ ((rest : List A) × (xs ≡ y ∷ rest) × Sub rest ys)

module _ {A : Type 0} where
  pub sub_nil : (ys : List A) → Sub [] ys
  sub_nil [] = refl
  sub_nil (y ∷ ys) = inl (sub_nil ys)

  pub sub_keep : (x : A) (xs ys : List A) → Sub xs ys → Sub (x ∷ xs) (x ∷ ys)
  sub_keep x xs ys h = inr (xs, refl, h)

  pub sub_same : (xs : List A) → Sub xs xs
  sub_same [] = refl
  sub_same (x ∷ xs) = sub_keep x xs xs (sub_same xs)

  pub sub_skip : (front xs ys : List A) → Sub xs ys → Sub xs (front ++ ys)
  sub_skip [] xs ys h = h
  sub_skip (y ∷ front) xs ys h = inl (sub_skip front xs ys h)

  pub sub_append : (xs ys us vs : List A) → Sub xs ys → Sub us vs → Sub (xs ++ us) (ys ++ vs)
  sub_append xs [] us vs h g = let P : List A → Type 0 = λ l. Sub (l ++ us) vs in subst P (sym h) g
  sub_append xs (y ∷ ys) us vs (inl h) g = inl (sub_append xs ys us vs h g)
  sub_append xs (y ∷ ys) us vs (inr r) g = inr (r.0 ++ us, ap (λ (l : List A). l ++ us) r.1, sub_append r.0 ys us vs r.2 g)

  pub sub_filter : (p : A → Bool) (xs : List A) → Sub (filter p xs) xs
  sub_filter p [] = refl
  sub_filter p (x ∷ xs) =
      let later = sub_filter p xs in
      let by : (b : Bool) → Sub (cond b (x ∷ filter p xs) (filter p xs)) (x ∷ xs) = elim [ true ↦ sub_keep x (filter p xs) xs later | false ↦ inl later ] in
      by (p x)

  each_sub : (P : A → Type 0) (xs ys : List A) → Sub xs ys → Each P ys → Each P xs
  each_sub P xs [] h e = subst (Each P) (sym h) tt
  each_sub P xs (y ∷ ys) (inl h) e = each_sub P xs ys h e.1
  each_sub P xs (y ∷ ys) (inr r) e = subst (Each P) (sym r.1) (e.0, each_sub P r.0 ys r.2 e.1)

  pub apart_sub : (same : A → A → Bool) (xs ys : List A) → Sub xs ys → Apart same ys → Apart same xs
  apart_sub same xs [] h e = subst (Apart same) (sym h) tt
  apart_sub same xs (y ∷ ys) (inl h) e = apart_sub same xs ys h e.1
  apart_sub same xs (y ∷ ys) (inr r) e = subst (Apart same) (sym r.1) (each_sub (λ z. same y z ≡ false) r.0 ys r.2 e.0, apart_sub same r.0 ys r.2 e.1)

pub sub_map : {A B : Type 0} (f : A → B) (xs ys : List A) → Sub xs ys → Sub (map f xs) (map f ys)
sub_map f xs [] h = ap (map f) h
sub_map f xs (y ∷ ys) (inl h) = inl (sub_map f xs ys h)
sub_map f xs (y ∷ ys) (inr r) = inr (map f r.0, ap (map f) r.1, sub_map f r.0 ys r.2)

-- what some items are made into
pub sub_made : {A B : Type 0} (f : A → List B) (xs ys : List A) → Sub xs ys → Sub (flat_map f xs) (flat_map f ys)
sub_made f xs [] h = ap (flat_map f) h
sub_made f xs (y ∷ ys) (inl h) = sub_skip (f y) (flat_map f xs) (flat_map f ys) (sub_made f xs ys h)
sub_made {A} {B} f xs (y ∷ ys) (inr r) =
    let P : List B → Type 0 = λ l. Sub l (f y ++ flat_map f ys) in
    subst P (sym (ap (flat_map f) r.1)) (sub_append (f y) (f y) (flat_map f r.0) (flat_map f ys) (sub_same (f y)) (sub_made f r.0 ys r.2))

-- a list that is put between two others
pub apart_between : {A : Type 0} (same : A → A → Bool) (xs es ys : List A) → Apart same (xs ++ ys) → Apart same es → Each (λ x. Each (λ e. same x e ≡ false) es) xs
    → Each (λ e. Each (λ y. same e y ≡ false) ys) es → Apart same ((xs ++ es) ++ ys)
apart_between same xs es ys h g c k =
    let parts = apart_split same xs ys h in
    apart_append same (xs ++ es) ys (apart_append same xs es parts.0 g c) parts.1 (each_append (λ x. Each (λ y. same x y ≡ false) ys) xs es parts.2 k)
