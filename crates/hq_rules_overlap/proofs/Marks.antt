-- Marks that are set.
use Rattle.std.proofs.Common.{◌≡◌, ◌∙◌, ℕ, zero, suc, ◌+◌, ◌<◌, List, [], ◌∷◌, ◌++◌, length, take, get_or, set, Bool, true, false, ◌⊎◌, inl, inr, sym, refl, ap, subst}
use Rattle.std.specs.Prelude.{replicate}
use Rattle.std.specs.List.{Contains}
use Rattle.std.proofs.lemmas.List.{take_more}
use Rattle.std.proofs.lemmas.List.Elements.{Contains-append_left, Contains-push}
use Rattle.hq_rules_overlap.specs.Exploring.{is_marked}

pub mark_set : (marks : List Bool) (n s : ℕ) → is_marked (set marks n true) s ≡ true → (is_marked marks s ≡ true) ⊎ (n ≡ s)
mark_set [] n s h = inl h
mark_set (m ∷ marks) zero zero h = inr refl
mark_set (m ∷ marks) zero (suc s) h = inl h
mark_set (m ∷ marks) (suc n) zero h = inl h
mark_set (m ∷ marks) (suc n) (suc s) h =
    (elim (mark_set marks n s h) [
      | inl old ↦ inl old
      | inr same ↦ inr (ap suc same)
    ])

pub marks_more : (ns : List ℕ) (i x d : ℕ) (start old new : List Bool) → i < length ns → x ≡ get_or ns i d
    → ((s : ℕ) → is_marked new s ≡ true → (is_marked old s ≡ true) ⊎ (x ≡ s)) → ((s : ℕ) → is_marked old s ≡ true → (is_marked start s ≡ true) ⊎ Contains (take i ns) s)
    → (s : ℕ) → is_marked new s ≡ true → (is_marked start s ≡ true) ⊎ Contains (take (i + 1) ns) s
marks_more ns i x d start old new h is now before s m =
    let grown : take (i + 1) ns ≡ take i ns ++ (x ∷ []) = take_more ns i d h ∙ ap (λ (y : ℕ). take i ns ++ (y ∷ [])) (sym is) in
    (elim (now s m) [
      | inl earlier ↦
          (elim (before s earlier) [
            | inl first ↦ inl first
            | inr among ↦ inr (subst (λ (xs : List ℕ). Contains xs s) (sym grown) (Contains-append_left (take i ns) (x ∷ []) s among))
          ])
      | inr same ↦ inr (subst (λ (xs : List ℕ). Contains xs s) (sym grown) (subst (Contains (take i ns ++ (x ∷ []))) same (Contains-push (take i ns) x)))
    ])

none_at : (n s : ℕ) → is_marked (replicate n false) s ≡ true → ⊥
none_at zero s h = absurd (cc)
none_at (suc n) zero h = absurd (cc)
none_at (suc n) (suc s) h = none_at n s h

-- no mark is set at first
pub none_set : (marks : List Bool) (n s : ℕ) → marks ≡ replicate n false → is_marked marks s ≡ true → ⊥
none_set marks n s e h = none_at n s (subst (λ (ms : List Bool). is_marked ms s ≡ true) e h)
