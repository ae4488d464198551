-- Loops that mark what is so of some item, with the items so far.
use Rattle.std.proofs.Common.{◌≡◌, ◌∙◌, ap, sym, refl, ℕ, ◌+◌, ◌<◌, length, get_or, take, map, List, Bool, true, false}
use Rattle.std.specs.Prelude.{◌||◌}
use Rattle.std.specs.List.{list_any}
use Rattle.std.proofs.lemmas.List.Folds.{list_any_more}
use Rattle.hq_base.proofs.Lists.{any_map_of}

or_swap : (a b : Bool) → (a || b) ≡ (b || a)
or_swap true true = refl
or_swap true false = refl
or_swap false true = refl
or_swap false false = refl

or_assoc : (a b c : Bool) → (a || (b || c)) ≡ ((a || b) || c)
or_assoc true b c = refl
or_assoc false b c = refl

-- one more item
pub any_take-more : {A : Type 0} (p : A → Bool) (xs : List A) (i : ℕ) (d x : A) (old new : Bool) → i < length xs → x ≡ get_or xs i d
    → old ≡ list_any p (take i xs) → new ≡ (p x || old) → new ≡ list_any p (take (i + 1) xs)
any_take-more p xs i d x old new below is so_far now =
    now
    ∙ or_swap (p x) old
    ∙ ap (λ b. b || p x) so_far
    ∙ ap (λ z. list_any p (take i xs) || p z) is
    ∙ sym (list_any_more p xs i d below)

-- one more item that stands for another
pub any_map_take-more : {A B : Type 0} (p : B → Bool) (v : A → B) (xs : List A) (i : ℕ) (d x : A) (old new : Bool) → i < length xs
    → x ≡ get_or xs i d → old ≡ list_any p (map v (take i xs)) → new ≡ (p (v x) || old) → new ≡ list_any p (map v (take (i + 1) xs))
any_map_take-more p v xs i d x old new below is so_far now =
    any_take-more (λ z. p (v z)) xs i d x old new below is (so_far ∙ any_map_of p v (take i xs)) now
    ∙ sym (any_map_of p v (take (i + 1) xs))

-- the same, where something was marked before the loop
pub any_or_take-more : {A B : Type 0} (p : B → Bool) (v : A → B) (xs : List A) (i : ℕ) (d x : A) (first old new : Bool) → i < length xs
    → x ≡ get_or xs i d → old ≡ (list_any p (map v (take i xs)) || first) → new ≡ (p (v x) || old)
    → new ≡ (list_any p (map v (take (i + 1) xs)) || first)
any_or_take-more p v xs i d x first old new below is so_far now =
    now
    ∙ ap (λ b. p (v x) || b) so_far
    ∙ or_assoc (p (v x)) (list_any p (map v (take i xs))) first
    ∙ ap (λ b. b || first) (any_map_take-more p v xs i d x (list_any p (map v (take i xs))) (p (v x) || list_any p (map v (take i xs))) below is refl refl)
