-- The elements of a list in order, each read with the path of its place; the first refusal is the answer.
use Rattle.std.specs.Prelude.{ℕ, ◌+◌, List, [], ◌∷◌, ◌++◌, Result, Ok}
use Rattle.hq_base.specs.Due.{◌>>=◌}
use Rattle.hq_base.specs.Path.{item_path}

-- the elements from this place on of the array at a path, each read with what came before it; all that came, in order
abbrev pub each_after : {A B E : Type 0} → (read : (before : List B) (path : List ℕ) → A → Result B E) → (path : List ℕ) (place : ℕ) → (before : List B) → List A → Result (List B) E
each_after read path place before [] = Ok before
each_after read path place before (x ∷ xs) = read before (item_path path place) x >>= λ y. each_after read path (place + 1) (before ++ y ∷ []) xs

-- the elements of the array at a path, each read by itself
abbrev pub each : {A B E : Type 0} → (read : (path : List ℕ) → A → Result B E) → (path : List ℕ) → List A → Result (List B) E
each read path xs = each_after (λ before. read) path 0 [] xs

-- items that all pass a test, in order
abbrev pub all_pass : {A E : Type 0} → (test : A → Result (Unit {0}) E) → List A → Result (Unit {0}) E
all_pass test [] = Ok tt
all_pass test (x ∷ xs) = test x >>= λ _. all_pass test xs
