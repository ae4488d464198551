-- One step of a loop over a list: the next item, what was made so far and what comes of that item, and what is left.
use Rattle.std.proofs.Common.{◌≡◌, ◌∙◌, ℕ, ◌+◌, ◌<◌, List, [], ◌∷◌, ◌++◌, length, map, take, drop, get_or, sym, ap, append_assoc, Bool, true, false, ◌&&◌}
use Rattle.std.proofs.lemmas.List.{take_more, drop_more, map-append}

-- the next item stands in front of those that are left
pub next_item : {A : Type 0} (xs : List A) (i : ℕ) (x : A) → i < length xs → x ≡ get_or xs i x → drop i xs ≡ x ∷ drop (i + 1) xs
next_item xs i x lt is = drop_more xs i x lt ∙ ap (λ y. y ∷ drop (i + 1) xs) (sym is)

-- a list of the items so far, to which the next one adds a value
pub grown : {A V : Type 0} (F : List A → List V) (xs : List A) (i : ℕ) (x : A) (done more : List V) (v : V) → F (take i xs ++ x ∷ []) ≡ F (take i xs) ++ v ∷ []
    → i < length xs → x ≡ get_or xs i x → done ≡ F (take i xs) → more ≡ done ++ v ∷ [] → more ≡ F (take (i + 1) xs)
grown F xs i x done more v adds lt is so_far grows =
    grows ∙ ap (λ vs. vs ++ v ∷ []) so_far ∙ sym adds ∙ ap F (ap (λ y. take i xs ++ y ∷ []) is ∙ sym (take_more xs i x lt))

-- the values of what the items so far are seen as, and that of the next
pub map_more : {A B V : Type 0} (f : B → V) (view : A → B) (xs : List A) (i : ℕ) (x : A) (done more : List V)
    → i < length xs → x ≡ get_or xs i x → done ≡ map f (map view (take i xs)) → more ≡ done ++ f (view x) ∷ [] → more ≡ map f (map view (take (i + 1) xs))
map_more f view xs i x done more =
    grown (λ l. map f (map view l)) xs i x done more (f (view x)) (ap (map f) (map-append view (take i xs) (x ∷ [])) ∙ map-append f (map view (take i xs)) (view x ∷ []))

-- what is made so far, and then what is left, is all: one piece more
pub piece_more : {V : Type 0} (before after piece rest left whole : List V) → after ≡ before ++ piece → left ≡ piece ++ rest → before ++ left ≡ whole → after ++ rest ≡ whole
piece_more before after piece rest left whole grows split so_far =
    ap (λ l. l ++ rest) grows ∙ append_assoc before piece rest ∙ ap (λ l. before ++ l) (sym split) ∙ so_far

-- the same of one value that is made of the next item
pub left_more : {A V : Type 0} (F : List A → List V) (before after : List V) (x : A) (left rest : List A) (whole : List V) (v : V) → F (x ∷ rest) ≡ v ∷ F rest → left ≡ x ∷ rest
    → after ≡ before ++ v ∷ [] → before ++ F left ≡ whole → after ++ F rest ≡ whole
left_more F before after x left rest whole v adds split grows so_far =
    piece_more before after (v ∷ []) (F rest) (F left) whole grows (ap F split ∙ adds) so_far

-- what is left tells what the whole does: the first of it holds
pub holds_next : (first rest left whole : Bool) → left ≡ (first && rest) → left ≡ whole → first ≡ true → rest ≡ whole
holds_next first rest left whole split so_far holds = sym (split ∙ ap (λ b. b && rest) holds) ∙ so_far

-- or does not
pub fails_next : (first rest left whole : Bool) → left ≡ (first && rest) → left ≡ whole → first ≡ false → false ≡ whole
fails_next first rest left whole split so_far fails = sym (split ∙ ap (λ b. b && rest) fails) ∙ so_far
