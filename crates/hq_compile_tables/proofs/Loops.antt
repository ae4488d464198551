-- One step of a loop whose invariant says what a recursion gives for the items that are left.
use Rattle.std.proofs.Common.{◌≡◌, ◌∙◌, ℕ, ◌+◌, ◌<◌, List, [], ◌∷◌, ◌++◌, length, map, drop, get_or, sym, ap, append_assoc}
use Rattle.std.proofs.Math.Nat.{add_assoc}
use Rattle.std.proofs.lemmas.List.{drop_more, map-append}

-- what was given for the items from a place on is given for those behind it
pub left-more : {A V : Type 0} (before after : List A → V) (xs : List A) (i : ℕ) (x : A) (whole : V)
    → before (drop i xs) ≡ whole → i < length xs → x ≡ get_or xs i x → before (x ∷ drop (i + 1) xs) ≡ after (drop (i + 1) xs) → after (drop (i + 1) xs) ≡ whole
left-more before after xs i x whole so_far below is next =
    sym next ∙ ap before (sym (drop_more xs i x below ∙ ap (λ y. y ∷ drop (i + 1) xs) (sym is))) ∙ so_far

-- the same, where those of the next item go behind a list
pub rest-more : {A V : Type 0} (before after : List A → List V) (xs : List A) (i : ℕ) (x : A) (done more front : List V) (whole : List V)
    → done ++ before (drop i xs) ≡ whole → i < length xs → x ≡ get_or xs i x → before (x ∷ drop (i + 1) xs) ≡ front ++ after (drop (i + 1) xs) → more ≡ done ++ front
    → more ++ after (drop (i + 1) xs) ≡ whole
rest-more before after xs i x done more front whole so_far below is next grows =
    left-more (λ ys. done ++ before ys) (λ ys. more ++ after ys) xs i x whole so_far below is
    (ap (λ vs. done ++ vs) next ∙ sym (append_assoc done front (after (drop (i + 1) xs))) ∙ ap (λ vs. vs ++ after (drop (i + 1) xs)) (sym grows))

-- the same, where the list holds what is seen as the values
pub viewed_rest-more : {A B V : Type 0} (view : B → V) (before after : List A → List V) (xs : List A) (i : ℕ) (x : A) (done more : List B) (made : B) (head : V) (whole : List V)
    → map view done ++ before (drop i xs) ≡ whole → i < length xs → x ≡ get_or xs i x → before (x ∷ drop (i + 1) xs) ≡ head ∷ after (drop (i + 1) xs) → view made ≡ head → more ≡ done ++ made ∷ []
    → map view more ++ after (drop (i + 1) xs) ≡ whole
viewed_rest-more view before after xs i x done more made head whole so_far below is next given grows =
    rest-more before after xs i x (map view done) (map view more) (head ∷ []) whole so_far below is next
    (ap (map view) grows ∙ map-append view done (made ∷ []) ∙ ap (λ v. map view done ++ v ∷ []) given)

-- the same of a count
pub count-more : {A : Type 0} (count : List A → ℕ) (xs : List A) (i : ℕ) (x : A) (done more here whole : ℕ)
    → done + count (drop i xs) ≡ whole → i < length xs → x ≡ get_or xs i x → count (x ∷ drop (i + 1) xs) ≡ here + count (drop (i + 1) xs) → more ≡ done + here
    → more + count (drop (i + 1) xs) ≡ whole
count-more count xs i x done more here whole so_far below is next grows =
    left-more (λ ys. done + count ys) (λ ys. more + count ys) xs i x whole so_far below is
    (ap (λ n. done + n) next ∙ sym (add_assoc done here (count (drop (i + 1) xs))) ∙ ap (λ n. n + count (drop (i + 1) xs)) (sym grows))
