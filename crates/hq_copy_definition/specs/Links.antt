-- Numbered links: a copy links rows by two whole numbers, in place of the cells that linked them. The one number is a position
-- that the row is linked to; the other tells a remote row which number the rows that are linked to it have.
use Rattle.std.specs.Prelude.{◌≡◌, ◌⊎◌, ℕ, List, [], ◌∷◌, Bool, true, false, cond, ◌&&◌, ◌==◌, Option, Some, None}
use Rattle.std.specs.List.{list_any, position_from}

-- the least position, counted from 1, of a remote row that is linked to the row
abbrev pub from_number : {A B : Type 0} → (A → B → Bool) → List B → A → Option ℕ
from_number linked ys x = position_from (linked x) 1 ys

-- the least position, counted from 1, of a remote row that shares a linked own row with this remote row
abbrev pub to_number : {A B : Type 0} → (A → B → Bool) → List A → List B → B → Option ℕ
to_number linked xs ys y = position_from (λ z. list_any (λ x. linked x y && linked x z) xs) 1 ys

-- the same, as it is computed: the number of the first own row that is linked to this remote row
abbrev pub first_from : {A B : Type 0} → (A → B → Bool) → List A → List B → B → Option ℕ
first_from linked [] ys y = None
first_from linked (x ∷ xs) ys y = cond (linked x y) (from_number linked ys x) (first_from linked xs ys y)

-- two numbers link: both are there, and they are equal
abbrev pub same_number : Option ℕ → Option ℕ → Bool
same_number None b = false
same_number (Some n) None = false
same_number (Some n) (Some m) = n == m

-- an item of a list
abbrev pub Among : {A : Type 0} → A → List A → Type 0
Among x [] = ⊥
Among x (y ∷ ys) = (y ≡ x) ⊎ Among x ys

-- two own rows that share a linked remote row are linked to the same remote rows, as they are where links are equal cells
abbrev pub Square : {A B : Type 0} → (A → B → Bool) → List A → List B → Type 0
Square linked xs ys =
    (x : _) (u : _) (y : _) (z : _) → Among x xs → Among u xs → Among y ys → Among z ys
    → linked x y ≡ true → linked u y ≡ true → linked u z ≡ true → linked x z ≡ true

-- the numbers link the rows that are linked, and no others
abbrev pub NumbersLink : {A B : Type 0} → (A → B → Bool) → List A → List B → Type 0
NumbersLink linked xs ys = (x : _) (y : _) → Among x xs → Among y ys → same_number (from_number linked ys x) (to_number linked xs ys y) ≡ linked x y
