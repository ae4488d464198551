-- Steps of a loop that puts lists behind one another.
use Rattle.std.proofs.Common.{◌≡◌, ◌∙◌, refl, sym, ap, ℕ, ◌+◌, ◌<◌, ◌≤◌, List, [], ◌∷◌, ◌++◌, length, drop, get_or, append_assoc, filter, Bool, true, false, cond, not, ◌&&◌, ◌||◌}
use Rattle.std.proofs.lemmas.List.{append-nil, at_drop_all}
use Rattle.std.proofs.lemmas.List.Folds.{list_any-append}
use Rattle.std.specs.List.{list_any}
use Rattle.hq_base.specs.Lists.{firsts}
use Rattle.hq_base.proofs.Lists.{filter_filter}
use Rattle.hq_base.proofs.Loops.{next_item}

-- F puts what H gives of each item behind one another
abbrev pub Puts : {A V : Type 0} → (List A → List V) → (A → List V) → Type 0
Puts {A} F H = (x : A) (xs : List A) → F (x ∷ xs) ≡ H x ++ F xs

-- what one more item gives is put behind what is done
pub put_more : {A V : Type 0} (F : List A → List V) (H : A → List V) → Puts F H → (xs : List A) (i : ℕ) (x : A) (done more whole : List V) →
    i < length xs → x ≡ get_or xs i x → done ++ F (drop i xs) ≡ whole → more ≡ done ++ H x → more ++ F (drop (i + 1) xs) ≡ whole
put_more F H puts xs i x done more whole below is so_far grows =
    ap (λ ys. ys ++ F (drop (i + 1) xs)) grows
    ∙ append_assoc done (H x) (F (drop (i + 1) xs))
    ∙ ap (λ ys. done ++ ys) (sym (ap F (next_item xs i x below is) ∙ puts x (drop (i + 1) xs)))
    ∙ so_far

-- all items are done
pub put_all : {A V : Type 0} (F : List A → List V) (xs : List A) (i : ℕ) (done whole : List V) → done ++ F (drop i xs) ≡ whole → length xs ≤ i → F [] ≡ [] → done ≡ whole
put_all F xs i done whole so_far over none =
    sym (append-nil done) ∙ sym (ap (λ ys. done ++ ys) none) ∙ sym (at_drop_all (λ ys. done ++ F ys) xs i over) ∙ so_far

-- ---- the first item of each group, where items of one group are equal

-- tests that say the same keep the same
filter_alike : {A : Type 0} (p q : A → Bool) → ((x : A) → p x ≡ q x) → (xs : List A) → filter p xs ≡ filter q xs
filter_alike p q same [] = refl
filter_alike p q same (x ∷ xs) = ap (λ b. cond b (x ∷ filter p xs) (filter p xs)) (same x) ∙ ap (λ ys. cond (q x) (x ∷ ys) ys) (filter_alike p q same xs)

not_either : (a b : Bool) → (not a && not b) ≡ not (b || (a || false))
not_either true true = refl
not_either true false = refl
not_either false true = refl
not_either false false = refl

module _ {A : Type 0} (same : A → A → Bool) (equal : (x y : A) → same x y ≡ true → x ≡ y) where
  -- items that are not among these
  abbrev pub is_new : List A → A → Bool
  is_new seen y = not (list_any (λ x. same x y) seen)

  -- these, and an item that is not among them
  abbrev pub with_item : List A → A → List A
  with_item seen x = cond (list_any (λ y. same y x) seen) seen (seen ++ x ∷ [])

  -- nothing is among none
  pub seen_none : (xs : List A) → filter (is_new []) xs ≡ xs
  seen_none [] = refl
  seen_none (x ∷ xs) = ap (λ ys. x ∷ ys) (seen_none xs)

  -- an item that differs from one that is among them
  both_new : (seen : List A) (x : A) → list_any (λ y. same y x) seen ≡ true → (d : A) → (not (same x d) && is_new seen d) ≡ is_new seen d
  both_new seen x among d = by (same x d) refl
    where
      by : (b : Bool) → same x d ≡ b → (not b && is_new seen d) ≡ is_new seen d
      by false e = refl
      by true e = let is : x ≡ d = equal x d e in sym (ap (λ z. not (list_any (λ y. same y z) seen)) (sym is) ∙ ap not among)

  seen_before : (seen xs : List A) (x : A) → list_any (λ y. same y x) seen ≡ true → filter (is_new seen) (firsts same (x ∷ xs)) ≡ filter (is_new seen) (firsts same xs)
  seen_before seen xs x among =
      ap (λ b. cond (not b) (x ∷ filter (is_new seen) (filter (λ y. not (same x y)) (firsts same xs))) (filter (is_new seen) (filter (λ y. not (same x y)) (firsts same xs)))) among
      ∙ filter_filter (is_new seen) (λ y. not (same x y)) (firsts same xs)
      ∙ filter_alike _ _ (both_new seen x among) (firsts same xs)

  seen_now : (seen xs : List A) (x : A) → list_any (λ y. same y x) seen ≡ false → filter (is_new seen) (firsts same (x ∷ xs)) ≡ x ∷ filter (is_new (seen ++ x ∷ [])) (firsts same xs)
  seen_now seen xs x none =
      ap (λ b. cond (not b) (x ∷ filter (is_new seen) (filter (λ y. not (same x y)) (firsts same xs))) (filter (is_new seen) (filter (λ y. not (same x y)) (firsts same xs)))) none
      ∙ ap (λ ys. x ∷ ys)
      (filter_filter (is_new seen) (λ y. not (same x y)) (firsts same xs)
      ∙ filter_alike _ _ (λ d. not_either (same x d) (list_any (λ y. same y d) seen) ∙ ap not (sym (list_any-append (λ y. same y d) seen (x ∷ [])))) (firsts same xs))

  -- one more item of a list whose first items are gathered
  pub seen_more : (seen xs : List A) (x : A) → seen ++ filter (is_new seen) (firsts same (x ∷ xs)) ≡ with_item seen x ++ filter (is_new (with_item seen x)) (firsts same xs)
  seen_more seen xs x = by (list_any (λ y. same y x) seen) refl
    where
      after : Bool → List A
      after b = cond b seen (seen ++ x ∷ [])

      by : (b : Bool) → list_any (λ y. same y x) seen ≡ b → seen ++ filter (is_new seen) (firsts same (x ∷ xs)) ≡ with_item seen x ++ filter (is_new (with_item seen x)) (firsts same xs)
      by true e = ap (λ ys. seen ++ ys) (seen_before seen xs x e) ∙ ap (λ b. after b ++ filter (is_new (after b)) (firsts same xs)) (sym e)
      by false e =
          ap (λ ys. seen ++ ys) (seen_now seen xs x e) ∙ sym (append_assoc seen (x ∷ []) _)
          ∙ ap (λ b. after b ++ filter (is_new (after b)) (firsts same xs)) (sym e)
