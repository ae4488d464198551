-- The parts of a JSON value in order, each read with its path; the first refusal is the answer.
use Rattle.std.specs.Prelude.{ℕ, ◌+◌, List, [], ◌∷◌, Result, Ok}
use Rattle.hq_base.specs.Due.{and_then, mapped}
use Rattle.hq_base.specs.Path.{member_path, item_path}

-- the elements from this place on of the array at a path
abbrev pub each_element : {A B E : Type 0} → (read : (path : List ℕ) → A → Result B E) → (path : List ℕ) (place : ℕ) → List A → Result (List B) E
each_element read path place [] = Ok []
each_element read path place (x ∷ xs) = and_then (λ y. mapped (λ ys. y ∷ ys) (each_element read path (place + 1) xs)) (read (item_path path place) x)

-- the members of the object at a path, each read with its name
abbrev pub each_member : {A B E : Type 0} → (read : (name path : List ℕ) → A → Result B E) → (path : List ℕ) → List (List ℕ × A) → Result (List B) E
each_member read path [] = Ok []
each_member read path (m ∷ ms) = and_then (λ y. mapped (λ ys. y ∷ ys) (each_member read path ms)) (read m.0 (member_path path m.0) m.1)
