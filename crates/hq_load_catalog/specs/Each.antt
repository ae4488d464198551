-- The items of a list in order, each read with the path of its place; the first refusal is the answer.
use Rattle.std.specs.Prelude.{ℕ, ◌+◌, List, [], ◌∷◌, Result, Ok}
use Rattle.hq_base.specs.Due.{and_then, mapped}
use Rattle.hq_base.specs.Path.{item_path}
use Rattle.hq_load_catalog.specs.declared.refusal.CatalogRefusal.{CatalogRefusal}

-- the items of a list that starts at this place of the array at a path
abbrev pub each_from : {A B : Type 0} → (read : (path : List ℕ) → A → Result B CatalogRefusal) → (path : List ℕ) (place : ℕ) → List A → Result (List B) CatalogRefusal
each_from read path place [] = Ok []
each_from read path place (x ∷ xs) = and_then (λ y. mapped (λ ys. y ∷ ys) (each_from read path (place + 1) xs)) (read (item_path path place) x)

-- the items of the array at a path
abbrev pub each : {A B : Type 0} → (read : (path : List ℕ) → A → Result B CatalogRefusal) → (path : List ℕ) → List A → Result (List B) CatalogRefusal
each read path xs = each_from read path 0 xs
