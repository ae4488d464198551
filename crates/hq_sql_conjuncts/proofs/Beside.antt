-- Two lists that are gone over side by side.
use Rattle.std.proofs.Common.{◌≡◌, ◌∙◌, sym, ap, ap₂, ℕ, ◌+◌, ◌<◌, List, [], ◌∷◌, ◌++◌, length, map, take, get_or}
use Rattle.std.proofs.lemmas.List.{take_more, map-append}

-- one item more is seen as one value more
seen_more : {A V : Type 0} (f : A → V) (xs : List A) (i : ℕ) (x : A) → i < length xs → x ≡ get_or xs i x → map f (take (i + 1) xs) ≡ map f (take i xs) ++ f x ∷ []
seen_more f xs i x lt is =
    ap (map f) (take_more xs i x lt ∙ ap (λ y. take i xs ++ y ∷ []) (sym is)) ∙ map-append f (take i xs) (x ∷ [])

-- they are seen alike so far, and so are the next items
pub alike_more : {A V : Type 0} (f : A → V) (xs ys : List A) (i : ℕ) (x y : A) → i < length xs → i < length ys → x ≡ get_or xs i x → y ≡ get_or ys i y
    → map f (take i xs) ≡ map f (take i ys) → f x ≡ f y → map f (take (i + 1) xs) ≡ map f (take (i + 1) ys)
alike_more f xs ys i x y in_xs in_ys x_is y_is so_far same =
    seen_more f xs i x in_xs x_is ∙ ap₂ (λ l v. l ++ v ∷ []) so_far same ∙ sym (seen_more f ys i y in_ys y_is)
