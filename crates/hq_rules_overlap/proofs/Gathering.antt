-- The fields of a group, each two of which stand in sets that are put together.
use Rattle.std.proofs.Common.{◌≡◌, ◌∙◌, ℕ, ◌+◌, ◌<◌, List, [], ◌∷◌, ◌++◌, map, length, take, get_or, ◌⊎◌, inl, inr, sym, ap, subst}
use Rattle.std.specs.List.{All, Contains}
use Rattle.std.specs.List.Sorted.{IsPermutation}
use Rattle.std.proofs.lemmas.List.{take_more}
use Rattle.std.proofs.lemmas.List.Elements.{All-nil, All-append, All-contains, All-weaker, Contains-append_left, Contains-append_right, Contains-push}
use Rattle.std.proofs.lemmas.List.Sorted.{IsPermutation-map, All-permutation, Contains-permutation}
use Rattle.hq_overlap_sets.specs.Sets.{FieldTree, SetTree}
use Rattle.hq_overlap_sets.specs.Pairs.{fields_at}
use Rattle.hq_overlap_sets.proofs.Tests.{no_member, contains_cases}
use Rattle.hq_rules_overlap.specs.Groups.{AreTogether, IsWithin, AreOf, AreMet}
use Rattle.hq_overlap_sets.proofs.Stepping.{all_from}
use Rattle.hq_overlap_sets.proofs.RowLemmas.{split_member}

-- the same field of a larger group
pub within_more : (sets : List SetTree) (group more : List ℕ) (a : FieldTree) → ((s : ℕ) → Contains group s → Contains more s) → IsWithin sets group a → IsWithin sets more a
within_more sets group more a f w = record { set = w.set; of_group = f w.set w.of_group; stands = w.stands }

pub of_none : (sets : List SetTree) → AreOf sets [] []
of_none sets = record { only = All-nil (IsWithin sets []); all = λ a w. absurd (no_member w.set w.of_group) }

-- the fields of one more set
module _ (sets : List SetTree) (group : List ℕ) (i x d : ℕ) (old new : List FieldTree) (h : i < length group) (is : x ≡ get_or group i d) (grown : new ≡ old ++ fields_at sets x) where
  its_group : take (i + 1) group ≡ take i group ++ (x ∷ [])
  its_group = take_more group i d h ∙ ap (λ (y : ℕ). take i group ++ (y ∷ [])) (sym is)

  in_more : (s : ℕ) → Contains (take i group) s → Contains (take (i + 1) group) s
  in_more s m = subst (λ (ys : List ℕ). Contains ys s) (sym its_group) (Contains-append_left (take i group) (x ∷ []) s m)

  last_in : Contains (take (i + 1) group) x
  last_in = subst (λ (ys : List ℕ). Contains ys x) (sym its_group) (Contains-push (take i group) x)

  new_of : AreOf sets (take i group) old → (a : FieldTree) → (s : ℕ) → Contains (fields_at sets s) a → Contains (take i group) s ⊎ Contains (x ∷ []) s → Contains (old ++ fields_at sets x) a
  new_of before a s stands (inl m) = Contains-append_left old (fields_at sets x) a (before.all a (record { set = s; of_group = m; stands = stands }))
  new_of before a s stands (inr m) =
      (elim (contains_cases x [] s m) [
        | inl same ↦ Contains-append_right old (fields_at sets x) a (subst (λ (n : ℕ). Contains (fields_at sets n) a) (sym same) stands)
        | inr none ↦ absurd (no_member s none)
      ])

  pub of_more : AreOf sets (take i group) old → AreOf sets (take (i + 1) group) new
  of_more before = record {
    only = subst (All (IsWithin sets (take (i + 1) group))) (sym grown)
        (All-append (IsWithin sets (take (i + 1) group)) old (fields_at sets x)
        (All-weaker (IsWithin sets (take i group)) (IsWithin sets (take (i + 1) group)) (λ a w. within_more sets (take i group) (take (i + 1) group) a in_more w) old before.only)
        (all_from (IsWithin sets (take (i + 1) group)) (fields_at sets x) (λ a m. record { set = x; of_group = last_in; stands = m })));
    all = λ a w. subst (λ (fs : List FieldTree). Contains fs a) (sym grown)
        (new_of before a w.set w.stands (split_member (take i group) (x ∷ []) w.set (subst (λ (ys : List ℕ). Contains ys w.set) its_group w.of_group)));
  }

-- the same fields in another order
pub of_turned : {X : Type 0} (sets : List SetTree) (group : List ℕ) (f : X → FieldTree) (xs ys : List X) → IsPermutation xs ys → AreOf sets group (map f xs) → AreOf sets group (map f ys)
of_turned sets group f xs ys p before =
    let q = IsPermutation-map f xs ys p in
    record {
      only = All-permutation (IsWithin sets group) (map f xs) (map f ys) q before.only;
      all = λ a w. Contains-permutation (map f xs) (map f ys) a q (before.all a w);
    }

-- each two fields of a group of sets that are put together are met
pub are_met : (sets : List SetTree) (group : List ℕ) (fields : List FieldTree) → AreTogether sets group → AreOf sets group fields → AreMet sets fields
are_met sets group fields together of_group a b here there =
    let x = All-contains (IsWithin sets group) fields a of_group.only here in
    let y = All-contains (IsWithin sets group) fields b of_group.only there in
    record { s = x.set; t = y.set; together = together x.set y.set x.of_group y.of_group; first = x.stands; second = y.stands }
