-- Root fields whose keys differ.
use Rattle.std.proofs.Common.{◌≡◌, ◌∙◌, ap, sym, refl, ℕ, List, [], ◌∷◌, Bool, true, false, not, ◌||◌, bytes_eq, subst}
use Rattle.std.specs.List.{list_any, flat_map}
use Rattle.std.proofs.lemmas.Slice.Eq.{bytes_eq-Decides}
use mathlib.Core.Path.{fun_ext}
use Rattle.hq_rules_doc.specs.RootFields.{RootFieldTree}
use Rattle.hq_rules_doc.specs.Subscriptions.{have_other_keys, is_introspection, are_wrong_root_fields}
use Rattle.hq_rules_reach.proofs.SameMembers.{SameMembers, any_same_flat}

or_none : (a b : Bool) → (a || b) ≡ false → (a ≡ false) × (b ≡ false)
or_none true b h = absurd (cc)
or_none false b h = (refl, h)

or_false : (a b : Bool) → a ≡ false → b ≡ false → (a || b) ≡ false
or_false a b ha hb = ap (λ c. c || b) ha ∙ hb

not_false : (a : Bool) → not a ≡ false → a ≡ true
not_false true h = refl
not_false false h = absurd (cc)

-- equal keys
same_key : (a b : List ℕ) → not (bytes_eq a b) ≡ false → a ≡ b
same_key a b h = (bytes_eq-Decides a b).0 (not_false (bytes_eq a b) h)

-- where all keys are one key, they are the key of each of them
all_alike : (key other : List ℕ) (xs : List RootFieldTree) → key ≡ other → list_any (λ g. not (bytes_eq key g.key)) xs ≡ false → list_any (λ g. not (bytes_eq other g.key)) xs ≡ false
all_alike key other xs e h = subst (λ (k : List ℕ). list_any (λ g. not (bytes_eq k g.key)) xs ≡ false) e h

none_differ : (key : List ℕ) (all xs : List RootFieldTree) → list_any (λ g. not (bytes_eq key g.key)) all ≡ false → list_any (λ g. not (bytes_eq key g.key)) xs ≡ false
    → list_any (λ f. list_any (λ g. not (bytes_eq f.key g.key)) all) xs ≡ false
none_differ key all [] h k = refl
none_differ key all (x ∷ xs) h k =
    let parts = or_none (not (bytes_eq key x.key)) (list_any (λ g. not (bytes_eq key g.key)) xs) k in
    or_false (list_any (λ g. not (bytes_eq x.key g.key)) all) (list_any (λ f. list_any (λ g. not (bytes_eq f.key g.key)) all) xs)
    (all_alike key x.key all (same_key key x.key parts.0) h) (none_differ key all xs h parts.1)

-- the first key differs from another one exactly where two keys differ
pub by_first : (x : RootFieldTree) (xs : List RootFieldTree) → list_any (λ g. not (bytes_eq x.key g.key)) (x ∷ xs) ≡ have_other_keys (x ∷ xs)
by_first x xs = by_test (list_any (λ g. not (bytes_eq x.key g.key)) (x ∷ xs)) refl
  where
    by_test : (b : Bool) → list_any (λ g. not (bytes_eq x.key g.key)) (x ∷ xs) ≡ b → b ≡ have_other_keys (x ∷ xs)
    by_test true e = sym (ap (λ c. c || list_any (λ f. list_any (λ g. not (bytes_eq f.key g.key)) (x ∷ xs)) xs) e)
    by_test false e = sym (none_differ x.key (x ∷ xs) (x ∷ xs) e e)

-- definitions with the same members have the same root fields
pub wrong_same : (f : ℕ → List RootFieldTree) (xs ys : List ℕ) → SameMembers xs ys → are_wrong_root_fields (flat_map f xs) ≡ are_wrong_root_fields (flat_map f ys)
wrong_same f xs ys same =
    let any = λ (p : RootFieldTree → Bool). any_same_flat p f xs ys same in
    let others : have_other_keys (flat_map f xs) ≡ have_other_keys (flat_map f ys) =
    ap (λ (p : RootFieldTree → Bool). list_any p (flat_map f xs)) (fun_ext (λ (h : RootFieldTree). any (λ g. not (bytes_eq h.key g.key))))
    ∙ any (λ h. list_any (λ g. not (bytes_eq h.key g.key)) (flat_map f ys)) in
    ap (λ b. not b || (have_other_keys (flat_map f xs) || list_any is_introspection (flat_map f xs))) (any (λ g. true))
    ∙ ap (λ b. not (list_any (λ (g : RootFieldTree). true) (flat_map f ys)) || (b || list_any is_introspection (flat_map f xs))) others
    ∙ ap (λ b. not (list_any (λ (g : RootFieldTree). true) (flat_map f ys)) || (have_other_keys (flat_map f ys) || b)) (any is_introspection)
