-- The first fields that are noted of some fields.
use Rattle.std.specs.Prelude.{ℕ, List, Option, ◌&&◌, nat_eq, unwrap_or, slice_get}
use Rattle.std.specs.HashMap as hash
use Rattle.hq_overlap_sets.specs.Sets.{FieldTree, place_in}
use Rattle.hq_rules_overlap.specs.declared.gather.Heads.{Heads}

-- the place of the first one of a key and a parent type, one beyond each list where none is noted
abbrev pub label_place : Heads → (key : List ℕ) → (parent : ℕ) → ℕ
label_place h key parent = unwrap_or (hash.get (λ x y. nat_eq x.0 y.0 && nat_eq x.1 y.1) h.labels (place_in h.keys key, parent)) 18446744073709551615

-- the fields there
abbrev pub first_in : Heads → List FieldTree → (key : List ℕ) → Option FieldTree
first_in h fields key = slice_get fields (place_in h.keys key)

abbrev pub label_in : Heads → List FieldTree → (key : List ℕ) → (parent : ℕ) → Option FieldTree
label_in h fields key parent = slice_get fields (label_place h key parent)
