-- How columns are looked at behind the joins of masks.
use Rattle.std.specs.Prelude.{ℕ, List, [], ◌∷◌, cond, ◌==◌}
use Rattle.hq_model.specs.declared.table.Column.{Column}
use Rattle.hq_translation.specs.Looks.{Look, own_look}
use Rattle.hq_translation.specs.Masks.{value_place}
use Rattle.hq_compile_tables.specs.declared.shown.MaskPlace.{MaskPlace}
use Rattle.hq_compile_tables.specs.declared.shown.Shown.{Shown}

-- a column at the alias of number p, where joins show some of its table's columns
abbrev pub look_in : List MaskPlace → List Column → (p : ℕ) → Look
look_in [] columns p c = own_look columns p c
look_in (x ∷ xs) columns p c = cond (x.col == c) (value_place x.number) (look_in xs columns p c)

abbrev pub look_of : Shown → Look
look_of x = look_in x.places.now x.columns.now x.number
