-- Where the joins of masks show their columns.
use Rattle.std.specs.Prelude.{ℕ, ◌+◌, List, [], ◌∷◌, filter}
use Rattle.hq_model.specs.Permission.{Mask}
use Rattle.hq_model.specs.Schema.{Schema}
use Rattle.hq_translation.specs.Looks.{is_used}
use Rattle.hq_translation.specs.Predicates.{own_numbers}
use Rattle.hq_compile_tables.specs.declared.shown.MaskPlace.{MaskPlace}

-- the masks whose columns are used
abbrev pub used_of : (used : List ℕ) → List Mask → List Mask
used_of cs ms = filter (λ m. is_used m.column cs) ms

-- the places of masks, their numbers from n on
abbrev pub mask_places : List Mask → Schema → (t n : ℕ) → List MaskPlace
mask_places [] s t n = []
mask_places (m ∷ ms) s t n = record { col = m.column; number = n } ∷ mask_places ms s t (n + (1 + own_numbers m.shown s t))
