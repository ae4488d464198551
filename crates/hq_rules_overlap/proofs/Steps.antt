-- Steps of the walk.
use Rattle.std.proofs.Common.{◌≡◌, ℕ, ◌+◌, List, [], ◌∷◌, ◌++◌, Bool, true, ◌⊎◌, inl, inr, sym, refl, ap, ◌∙◌, subst, Option, None}
use Rattle.std.specs.Prelude.{is_some, nat_eq, ◌&&◌, ◌||◌, slice_get, slice_index_or}
use Rattle.std.specs.HashMap as hash
use Rattle.std.specs.List.{Contains, All}
use Rattle.std.proofs.lemmas.Bool.{eqb-true, and_parts, or_cases}
use Rattle.std.proofs.lemmas.List.Elements.{All-nil, All-weaker, Contains-push, Contains-push_cases, Contains-append_left}
use Rattle.hq_overlap_sets.specs.declared.sets.Pair.{Pair}
use Rattle.hq_rules_overlap.specs.declared.walk.Walk.{Walk}
use Rattle.hq_overlap_sets.specs.Sets.{FieldTree, SetTree}
use Rattle.hq_overlap_sets.specs.Pairs.{fields_in, spreads_in, fields_at, AtMost, Violates, later}
use Rattle.hq_gql_nodes.specs.Least.{earlier, at_if}
use Rattle.hq_overlap_sets.proofs.Growing.{nothing_more, join_assoc}
use Rattle.hq_overlap_sets.proofs.Least.{low_left, low_right, earlier_cases, at_if_true, at_if_low}
use Rattle.hq_rules_overlap.specs.Walk.{IsSound, IsEmpty, Step, Met, is_marked, Known, Compared, ComparedWith, IsDone}
use Rattle.hq_overlap_sets.specs.Together.{Together, IsConflict, AreConflicts}

-- one more pair
module _ (sets : List SetTree) (p q : Walk) (l r : ℕ) (together : Together sets l r)
    (pushed : q.pairs.items ≡ p.pairs.items ++ (record { left = l; right = r } ∷ [])) (best : q.best ≡ p.best)
    (marks : (s t : ℕ) → is_marked q s t ≡ true → ((l ≡ s) × (r ≡ t)) ⊎ (is_marked p s t ≡ true)) where
  kept_after : (s t : ℕ) → Met p s t → Met q s t
  kept_after s t h = subst (λ (xs : List Pair). Contains xs (record { left = s; right = t })) (sym pushed) (Contains-append_left _ _ _ h)

  pub met_new : Met q l r
  met_new = subst (λ (xs : List Pair). Contains xs (record { left = l; right = r })) (sym pushed) (Contains-push p.pairs.items (record { left = l; right = r }))

  met_cases : (s t : ℕ) → Met q s t → Met p s t ⊎ ((l ≡ s) × (r ≡ t))
  met_cases s t h =
      elim (Contains-push_cases p.pairs.items (record { left = l; right = r }) (record { left = s; right = t }) (subst (λ (xs : List Pair). Contains xs (record { left = s; right = t })) pushed h)) [
        | inl old ↦ inl old
        | inr same ↦ inr (ap (λ (x : Pair). x.left) same, ap (λ (x : Pair). x.right) same)
      ]

  sound_after : IsSound sets p → IsSound sets q
  sound_after sound = record {
    together = λ s t h.
        elim (met_cases s t h) [
          | inl old ↦ sound.together s t old
          | inr same ↦ subst (λ x. Together sets x t) same.0 (subst (λ y. Together sets l y) same.1 together)
        ];
    marked = λ s t h.
        elim (marks s t h) [
          | inl same ↦ subst (λ x. Met q x t) same.0 (subst (λ y. Met q l y) same.1 met_new)
          | inr old ↦ kept_after s t (sound.marked s t old)
        ];
    found = λ n h. sound.found n (sym best ∙ h);
  }

  pub push_step : Step sets p q
  push_step = record {
    kept = kept_after;
    grown = (record { left = l; right = r } ∷ [], pushed);
    lower = λ n h. subst (λ (o : Option ℕ). AtMost o n) (sym best) h;
    sound = sound_after;
  }

-- the pairs and the marks are the same
pub same_step : (sets : List SetTree) (p q : Walk) → q.pairs ≡ p.pairs → q.marks ≡ p.marks → ((n : ℕ) → AtMost p.best n → AtMost q.best n)
    → (AreConflicts sets p.best → AreConflicts sets q.best) → Step sets p q
same_step sets p q pairs marks lower found = record {
  kept = λ s t h. subst (λ ps. Contains ps.items (record { left = s; right = t })) (sym pairs) h;
  grown = ([], ap (λ ps. ps.items) pairs ∙ sym (nothing_more p.pairs.items));
  lower = lower;
  sound = λ sound. record {
    together = λ s t h. sound.together s t (subst (λ ps. Contains ps.items (record { left = s; right = t })) pairs h);
    marked = λ s t h.
        subst (λ ps. Contains ps.items (record { left = s; right = t })) (sym pairs)
        (sound.marked s t (subst (λ m. is_some (hash.get (λ x y. nat_eq x.0 y.0 && nat_eq x.1 y.1) m (s, t)) ≡ true) marks h));
    found = found sound.found;
  };
}

-- a conflict counts, if it is one
found_one : (sets : List SetTree) (o : Option ℕ) (v : Bool) (n : ℕ) → (v ≡ true → IsConflict sets n) → AreConflicts sets o → AreConflicts sets (earlier o (at_if v n))
found_one sets o v n conflict found m h =
    (elim (earlier_cases o (at_if v n) m h) [
      | inl old ↦ found m old
      | inr new ↦ let e = at_if_true v n m new in subst (IsConflict sets) e.1 (conflict e.0)
    ])

pub count_step : (sets : List SetTree) (p q : Walk) (v : Bool) (n : ℕ) → q.pairs ≡ p.pairs → q.marks ≡ p.marks → q.best ≡ earlier p.best (at_if v n)
    → (v ≡ true → IsConflict sets n) → Step sets p q
count_step sets p q v n pairs marks best conflict =
    same_step sets p q pairs marks (λ m h. subst (λ o. AtMost o m) (sym best) (low_left p.best (at_if v n) m h))
    (λ found. subst (AreConflicts sets) (sym best) (found_one sets p.best v n conflict found))

pub counted_now : (o : Option ℕ) (v : Bool) (n : ℕ) → v ≡ true → AtMost (earlier o (at_if v n)) n
counted_now o v n h = low_right o (at_if v n) n (at_if_low v n h)

pub step_refl : (sets : List SetTree) (p : Walk) → Step sets p p
step_refl sets p = same_step sets p p refl refl (λ n h. h) (λ f. f)

pub step_then : (sets : List SetTree) (p q r : Walk) → Step sets p q → Step sets q r → Step sets p r
step_then sets p q r a b = record {
  kept = λ s t h. b.kept s t (a.kept s t h);
  grown = (
    a.grown.0 ++ b.grown.0,
    b.grown.1 ∙ (ap (λ (xs : List Pair). xs ++ b.grown.0) a.grown.1 ∙ join_assoc p.pairs.items a.grown.0 b.grown.0),
  );
  lower = λ n h. b.lower n (a.lower n h);
  sound = λ h. b.sound (a.sound h);
}

pub known_kept : (sets : List SetTree) (p q : Walk) (s t : ℕ) → Step sets p q → Known sets p s t → Known sets q s t
known_kept sets p q s t step (inl h) = inl (step.kept s t h)
known_kept sets p q s t step (inr (inl h)) = inr (inl (step.kept t s h))
known_kept sets p q s t step (inr (inr h)) = inr (inr h)

pub compared_kept : (sets : List SetTree) (p q : Walk) (a b : FieldTree) → Step sets p q → Compared sets p a b → Compared sets q a b
compared_kept sets p q a b step h = record {
  below = λ e. known_kept sets p q a.below b.below step (h.below e);
  counted = λ v. step.lower (later a b) (h.counted v);
}

pub with_kept : (sets : List SetTree) (p q : Walk) (a : FieldTree) (bs : List FieldTree) → Step sets p q → ComparedWith sets p a bs → ComparedWith sets q a bs
with_kept sets p q a bs step h = All-weaker (Compared sets p a) (Compared sets q a) (λ x. compared_kept sets p q a x step) bs h

-- fields of different keys are as good as compared
pub apart : (sets : List SetTree) (q : Walk) (a b : FieldTree) → (a.key ≡ b.key → ⊥) → Compared sets q a b
apart sets q a b h = record { below = λ e. absurd (h e); counted = λ v. absurd (h v.0) }

pub compared_now : (sets : List SetTree) (p q : Walk) (a b : FieldTree) → (Violates a b → AtMost p.best (later a b)) → Step sets p q → Known sets q a.below b.below → Compared sets q a b
compared_now sets p q a b counted step known = record { below = λ _. known; counted = λ v. step.lower (later a b) (counted v) }

-- what a mark tells after one more pair
pub mark_cases : (l r s t : ℕ) (old new : Bool) → new ≡ ((nat_eq l s && nat_eq r t) || old) → new ≡ true → ((l ≡ s) × (r ≡ t)) ⊎ (old ≡ true)
mark_cases l r s t old new e h =
    (elim (or_cases (nat_eq l s && nat_eq r t) old (sym e ∙ h)) [
      | inl two ↦ let both = and_parts (nat_eq l s) (nat_eq r t) two in inl (eqb-true l s both.0, eqb-true r t both.1)
      | inr before ↦ inr before
    ])

-- sets of which one is empty are done
pub done_beside : (sets : List SetTree) (q : Walk) (s t : ℕ) → IsEmpty sets s ⊎ IsEmpty sets t → IsDone sets q s t
done_beside sets q s t (inl e) = record {
  fields = subst (All (λ a. ComparedWith sets q a (fields_at sets t))) (sym e.fields) (All-nil (λ a. ComparedWith sets q a (fields_at sets t)));
  left = subst (All (λ u. Known sets q u t)) (sym e.spreads) (All-nil (λ u. Known sets q u t));
  right = λ k d h. inr (inr (inl e));
}
done_beside sets q s t (inr e) = record {
  fields = λ k d h. subst (ComparedWith sets q (slice_index_or (fields_at sets s) k d)) (sym e.fields) (All-nil (Compared sets q (slice_index_or (fields_at sets s) k d)));
  left = λ k d h. inr (inr (inr e));
  right = subst (All (λ u. Known sets q s u)) (sym e.spreads) (All-nil (λ u. Known sets q s u));
}

-- a number beyond the sets
pub empty_beyond : (sets : List SetTree) (s : ℕ) → slice_get sets s ≡ None → IsEmpty sets s
empty_beyond sets s h = record { fields = ap fields_in h; spreads = ap spreads_in h }
