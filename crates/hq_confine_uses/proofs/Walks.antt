-- Lists that are gone over: one that passes where some item does, and two side by side.
use Rattle.std.proofs.Common.{◌≡◌, ◌∙◌, ℕ, suc, ◌+◌, ◌<◌, ◌≤◌, List, [], ◌∷◌, length, drop, get_or, Bool, true, false, ◌&&◌, ◌||◌, refl, sym, ap, ap₂}
use Rattle.std.proofs.lemmas.List.{drop_all}
use Rattle.hq_base.proofs.Loops.{next_item, holds_next, fails_next}

-- what is left tells what the whole does: the first of it is found
pub found_next : (first rest left whole : Bool) → left ≡ (first || rest) → left ≡ whole → first ≡ true → true ≡ whole
found_next first rest left whole split so_far holds = sym (split ∙ ap (λ b. b || rest) holds) ∙ so_far

-- or passed over
pub passed_next : (first rest left whole : Bool) → left ≡ (first || rest) → left ≡ whole → first ≡ false → rest ≡ whole
passed_next first rest left whole split so_far fails = sym (split ∙ ap (λ b. b || rest) fails) ∙ so_far

and_false : (b : Bool) → (b && false) ≡ false
and_false true = refl
and_false false = refl

-- two lists side by side: a test of both item by item, which fails where one list ends before the other
module _ {A B : Type 0} (F : List A → List B → Bool) (p : A → B → Bool) (more : (x : A) (y : B) (xs : List A) (ys : List B) → F (x ∷ xs) (y ∷ ys) ≡ (p x y && F xs ys)) where
  pub lists_differ : ((y : B) (ys : List B) → F [] (y ∷ ys) ≡ false) → ((x : A) (xs : List A) → F (x ∷ xs) [] ≡ false) → (xs : List A) (ys : List B) → (length xs ≡ length ys → ⊥) → F xs ys ≡ false
  lists_differ left right [] [] n = absurd (n refl)
  lists_differ left right [] (y ∷ ys) n = left y ys
  lists_differ left right (x ∷ xs) [] n = right x xs
  lists_differ left right (x ∷ xs) (y ∷ ys) n = more x y xs ys ∙ ap (λ b. p x y && b) (lists_differ left right xs ys (λ e. n (ap suc e))) ∙ and_false (p x y)

  -- the next items
  both_next : (xs : List A) (ys : List B) (i : ℕ) (x : A) (y : B) → i < length xs → i < length ys → x ≡ get_or xs i x → y ≡ get_or ys i y
      → F (drop i xs) (drop i ys) ≡ (p x y && F (drop (i + 1) xs) (drop (i + 1) ys))
  both_next xs ys i x y in_xs in_ys x_is y_is = ap₂ F (next_item xs i x in_xs x_is) (next_item ys i y in_ys y_is) ∙ more x y (drop (i + 1) xs) (drop (i + 1) ys)

  -- where they pass, those behind them tell what all do
  pub both_pass : (xs : List A) (ys : List B) (i : ℕ) (x : A) (y : B) → i < length xs → i < length ys → x ≡ get_or xs i x → y ≡ get_or ys i y → F (drop i xs) (drop i ys) ≡ F xs ys
      → p x y ≡ true → F (drop (i + 1) xs) (drop (i + 1) ys) ≡ F xs ys
  both_pass xs ys i x y in_xs in_ys x_is y_is = holds_next (p x y) (F (drop (i + 1) xs) (drop (i + 1) ys)) (F (drop i xs) (drop i ys)) (F xs ys) (both_next xs ys i x y in_xs in_ys x_is y_is)

  -- and where they fail, all do
  pub both_fail : (xs : List A) (ys : List B) (i : ℕ) (x : A) (y : B) → i < length xs → i < length ys → x ≡ get_or xs i x → y ≡ get_or ys i y → F (drop i xs) (drop i ys) ≡ F xs ys
      → p x y ≡ false → false ≡ F xs ys
  both_fail xs ys i x y in_xs in_ys x_is y_is = fails_next (p x y) (F (drop (i + 1) xs) (drop (i + 1) ys)) (F (drop i xs) (drop i ys)) (F xs ys) (both_next xs ys i x y in_xs in_ys x_is y_is)

  -- at the end of both
  pub both_end : F [] [] ≡ true → (xs : List A) (ys : List B) (i : ℕ) → length xs ≤ i → length ys ≤ i → F (drop i xs) (drop i ys) ≡ F xs ys → true ≡ F xs ys
  both_end none xs ys i over_xs over_ys so_far = sym (ap₂ F (drop_all i xs over_xs) (drop_all i ys over_ys) ∙ none) ∙ so_far
