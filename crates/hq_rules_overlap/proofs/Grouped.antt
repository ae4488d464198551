-- Groups that are done stand for all pairs of sets that are put together.
use Rattle.std.proofs.Common.{◌≡◌, ◌∙◌, ℕ, ◌<◌, ◌≤◌, List, [], length, Option, ◌⊎◌, inl, inr, sym, refl, ap, subst, arith}
use Rattle.std.specs.List.{All, Contains}
use Rattle.std.proofs.lemmas.List.Elements.{All-contains}
use Rattle.std.proofs.lemmas.Option.{slice_get_read}
use Rattle.hq_overlap_sets.specs.Sets.{FieldTree, SetTree}
use Rattle.hq_overlap_sets.specs.Pairs.{fields_at, SameLabel, Violates, later, AtMost, IsFirst}
use Rattle.hq_overlap_sets.specs.Together as walk
use Rattle.hq_overlap_sets.specs.Together.{Together, AreConflicts}
use Rattle.hq_overlap_sets.proofs.Tests.{contains_first}
use Rattle.hq_overlap_sets.proofs.Least.{same_some}
use Rattle.hq_overlap_sets.proofs.Reaching.{in_sets, found_from, label_turned, label_joined, at_most_left, at_most_right}
use Rattle.hq_rules_overlap.specs.Groups.{IsSettled, AreCounted, IsDone, IsExplored, AreExplored, IsCovered}

-- two sets of a group that is done
module _ (sets : List SetTree) (lists : List (List ℕ)) (least : Option ℕ) where
  abbrev InDone : ℕ → ℕ → Type 0
  InDone s t = (group : List ℕ) × IsDone sets lists least group × Contains group s × Contains group t

  module _ (explored : (list : List ℕ) → Contains lists list → IsExplored sets lists least list) (covered : (s : ℕ) → s < length sets → IsCovered sets lists least s) where
    in_done : {s t : ℕ} → Together sets s t → InDone s t
    in_done (walk.alone {s} h) = let x = covered s h in (x.group, x.done, x.has s (contains_first s []), x.has s (contains_first s []))
    in_done (walk.left {s} {t} {u} g c) = let x = in_done g in (x.0, x.1, x.1.closed s u x.2 c, x.3)
    in_done (walk.right {s} {t} {u} g c) = let x = in_done g in (x.0, x.1, x.2, x.1.closed t u x.3 c)
    in_done (walk.below {s} {t} {a} {b} g first second e) =
        let x = in_done g in
        let one = x.1.below a b (record { set = s; of_group = x.2; stands = first }) (record { set = t; of_group = x.3; stands = second }) e in
        let y = explored one.list one.of_lists in
        (y.group, y.done, y.has a.below one.first, y.has b.below one.second)

    counted_in : (a b : FieldTree) (s t : ℕ) → Together sets s t → Contains (fields_at sets s) a → Contains (fields_at sets t) b → Violates a b → AtMost least (later a b)
    counted_in a b s t g first second v =
        let x = in_done g in
        x.1.counted a b (record { set = s; of_group = x.2; stands = first }) (record { set = t; of_group = x.3; stands = second }) v

    pub groups_are_enough : (best : Option ℕ) → best ≡ least → AreConflicts sets best → IsFirst sets best
    groups_are_enough best e conflicts = record {
      found = found_from sets best conflicts;
      least = λ a b reached v. let x = in_sets sets reached in subst (λ (o : Option ℕ). AtMost o (later a b)) (sym e) (counted_in a b x.0 x.1 x.2 x.3 x.4 v);
    }

-- all of a list are explored
pub each_explored : (sets : List SetTree) (lists : List (List ℕ)) (least : Option ℕ) (count : ℕ) → length lists ≤ count → AreExplored sets lists least count
    → (list : List ℕ) → Contains lists list → IsExplored sets lists least list
each_explored sets lists least count all explored list h =
    let inside : h.0 < length lists = h.1 in
    explored h.0 list (omega arith) (slice_get_read lists (length lists) h.0 list refl h.1 (sym h.2))

-- fields that agree with the first ones of their key, or count, are counted
module _ (first : List ℕ → Option FieldTree) (label : List ℕ → ℕ → Option FieldTree) where
  settled_both : (a b : FieldTree) → IsSettled first label a → IsSettled first label b → Violates a b → ⊥
  settled_both a b x y v =
      let one : x.of_key ≡ y.of_key = same_some x.of_key y.of_key (sym x.key ∙ (ap first v.0 ∙ y.key)) in
      (elim v.1 [
        | inl shape ↦ shape (sym x.shape ∙ (ap (λ (f : FieldTree). f.shape) one ∙ y.shape))
        | inr two ↦
            let same : x.of_parent ≡ y.of_parent = same_some x.of_parent y.of_parent (sym x.parent ∙ (ap (λ k. label k a.parent) v.0 ∙ (ap (label b.key) two.0 ∙ y.parent))) in
            two.1 (label_joined a.label x.of_parent.label b.label (label_turned x.of_parent.label a.label x.same) (subst (λ (f : FieldTree). SameLabel f.label b.label) (sym same) y.same))
      ])

  pub settled_are_counted : (fields : List FieldTree) (least : Option ℕ) → All (λ f. IsSettled first label f ⊎ AtMost least f.at) fields → AreCounted fields least
  settled_are_counted fields least all a b here there v =
      let each = λ (f : FieldTree) (h : Contains fields f). All-contains (λ f. IsSettled first label f ⊎ AtMost least f.at) fields f all h in
      (elim (each a here) [
        | inr low ↦ at_most_left least a.at b.at low
        | inl x ↦
            (elim (each b there) [
              | inr low ↦ at_most_right least a.at b.at low
              | inl y ↦ absurd (settled_both a b x y v)
            ])
      ])
