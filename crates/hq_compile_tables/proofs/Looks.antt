-- Columns behind the joins of masks.
use Rattle.std.proofs.Common.{◌≡◌, ℕ, List, [], ◌∷◌, Bool, true, false, cond, find, Some, ◌==◌, refl, ap, ◌∙◌}
use Rattle.std.specs.Prelude.{option_map, unwrap_or}
use Rattle.hq_model.specs.declared.table.Column.{Column}
use Rattle.hq_translation.specs.Looks.{own_look}
use Rattle.hq_translation.specs.Masks.{value_place}
use Rattle.hq_compile_tables.specs.Shown.{look_in, look_of}
use Rattle.hq_compile_tables.specs.declared.shown.MaskPlace.{MaskPlace}
use Rattle.hq_compile_tables.specs.declared.shown.Shown.{Shown}

-- a column is looked at by the first place that is its own
pub found_look : (xs : List MaskPlace) (columns : List Column) (p c : ℕ)
    → look_in xs columns p c ≡ unwrap_or (option_map (λ x. value_place x.number) (find (λ x. x.col == c) xs)) (own_look columns p c)
found_look [] columns p c = refl
found_look (x ∷ xs) columns p c =
    let later = found_look xs columns p c in
    let go : (b : Bool) → cond b (value_place x.number) (look_in xs columns p c)
    ≡ unwrap_or (option_map (λ y. value_place y.number) (cond b (Some x) (find (λ y. y.col == c) xs))) (own_look columns p c) =
    elim [ true ↦ refl | false ↦ later ] in
    go (x.col == c)

-- columns at an alias of these columns, this number and these places
pub shown_as : (x : Shown) (columns : List Column) (n : ℕ) (places : List MaskPlace) → x.columns.now ≡ columns → x.number ≡ n → x.places.now ≡ places
    → look_of x ≡ look_in places columns n
shown_as x columns n places c k p =
    ap (λ (ps : List MaskPlace). look_in ps x.columns.now x.number) p ∙ ap (λ (m : ℕ). look_in places x.columns.now m) k ∙ ap (λ (cs : List Column). look_in places cs n) c
