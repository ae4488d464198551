-- The first items of a list, read from the left.
use Rattle.std.proofs.Common.{◌≡◌, ◌∙◌, refl, sym, ap, List, [], ◌∷◌, ◌++◌, filter, Bool, true, false, cond, not, ◌&&◌, ◌||◌, append_assoc}
use Rattle.std.proofs.lemmas.List.Folds.{list_any-append}
use Rattle.std.specs.List.{list_any}
use Rattle.hq_base.specs.Lists.{firsts}
use Rattle.hq_base.proofs.Lists.{filter_filter}

-- tests that say the same keep the same
filter_alike : {A : Type 0} (p q : A → Bool) → ((x : A) → p x ≡ q x) → (xs : List A) → filter p xs ≡ filter q xs
filter_alike p q same [] = refl
filter_alike p q same (x ∷ xs) = ap (λ b. cond b (x ∷ filter p xs) (filter p xs)) (same x) ∙ ap (λ ys. cond (q x) (x ∷ ys) ys) (filter_alike p q same xs)

not_either : (a b : Bool) → (not a && not b) ≡ not (b || (a || false))
not_either true true = refl
not_either true false = refl
not_either false true = refl
not_either false false = refl

-- items of which equal ones are one
module _ {A : Type 0} (same : A → A → Bool) (whole : (x y : A) → same x y ≡ true → x ≡ y) where
  -- items that are not among these
  abbrev pub is_new : List A → A → Bool
  is_new seen d = not (list_any (λ c. same c d) seen)

  -- an item behind others, where it is not among them
  abbrev pub with_new : List A → A → List A
  with_new seen x = cond (list_any (λ c. same c x) seen) seen (seen ++ x ∷ [])

  -- nothing is among none
  pub seen_none : (xs : List A) → xs ≡ [] ++ filter (is_new []) xs
  seen_none [] = refl
  seen_none (x ∷ xs) = ap (λ ys. x ∷ ys) (seen_none xs)

  -- an item that differs from one that is among them
  both_new : (seen : List A) (x : A) → list_any (λ c. same c x) seen ≡ true → (d : A) → (not (same x d) && is_new seen d) ≡ is_new seen d
  both_new seen x among d = by (same x d) refl
    where
      by : (b : Bool) → same x d ≡ b → (not b && is_new seen d) ≡ is_new seen d
      by false e = refl
      by true e = sym (ap (λ n. not (list_any (λ c. same c n) seen)) (sym (whole x d e)) ∙ ap not among)

  -- the first items of what is left, where one more was seen before
  seen_before : (seen xs : List A) (x : A) → list_any (λ c. same c x) seen ≡ true
      → seen ++ filter (is_new seen) (firsts same (x ∷ xs)) ≡ seen ++ filter (is_new seen) (firsts same xs)
  seen_before seen xs x among =
      ap (λ ys. seen ++ ys)
      (ap (λ b. cond (not b) (x ∷ filter (is_new seen) (filter (λ y. not (same x y)) (firsts same xs))) (filter (is_new seen) (filter (λ y. not (same x y)) (firsts same xs)))) among
      ∙ filter_filter (is_new seen) (λ y. not (same x y)) (firsts same xs)
      ∙ filter_alike _ _ (both_new seen x among) (firsts same xs))

  -- and where it was not
  seen_now : (seen xs : List A) (x : A) → list_any (λ c. same c x) seen ≡ false
      → seen ++ filter (is_new seen) (firsts same (x ∷ xs)) ≡ (seen ++ x ∷ []) ++ filter (is_new (seen ++ x ∷ [])) (firsts same xs)
  seen_now seen xs x none =
      ap (λ ys. seen ++ ys)
      (ap (λ b. cond (not b) (x ∷ filter (is_new seen) (filter (λ y. not (same x y)) (firsts same xs))) (filter (is_new seen) (filter (λ y. not (same x y)) (firsts same xs)))) none
      ∙ ap (λ ys. x ∷ ys)
      (filter_filter (is_new seen) (λ y. not (same x y)) (firsts same xs)
      ∙ filter_alike _ _ (λ d. not_either (same x d) (list_any (λ c. same c d) seen) ∙ ap not (sym (list_any-append (λ c. same c d) seen (x ∷ [])))) (firsts same xs)))
      ∙ sym (append_assoc seen (x ∷ []) _)

  -- the two together
  pub seen_more : (seen xs : List A) (x : A) → seen ++ filter (is_new seen) (firsts same (x ∷ xs)) ≡ with_new seen x ++ filter (is_new (with_new seen x)) (firsts same xs)
  seen_more seen xs x = by (list_any (λ c. same c x) seen) refl
    where
      after : Bool → List A
      after b = cond b seen (seen ++ x ∷ [])

      by : (b : Bool) → list_any (λ c. same c x) seen ≡ b → seen ++ filter (is_new seen) (firsts same (x ∷ xs)) ≡ with_new seen x ++ filter (is_new (with_new seen x)) (firsts same xs)
      by true e = seen_before seen xs x e ∙ ap (λ b. after b ++ filter (is_new (after b)) (firsts same xs)) (sym e)
      by false e = seen_now seen xs x e ∙ ap (λ b. after b ++ filter (is_new (after b)) (firsts same xs)) (sym e)
