use Rattle.std.proofs.Common.{◌≡◌, ◌∙◌, ℕ, ◌<◌, List, length, map, take, get_or, bytes_eq, sym, ap, arith}
use Rattle.std.specs.List.{list_any}
use Rattle.std.proofs.lemmas.List.{take-map, length-map, get_or-map}
use Rattle.hq_model.specs.declared.table.Column.{Column}
use Rattle.hq_load_catalog.proofs.RepeatLemmas.{first_repeat-found, first_repeat-more}
use Rattle.hq_load_catalog.proofs.repeats.repeated_column.Goals as goal

-- a place among the columns is one among their names
place_of_name : (cs : List Column) (i : ℕ) → i < length cs → i < length (map (λ c. c.name) cs)
place_of_name cs i below = omega (arith, length-map cs (λ (c : Column). c.name))

-- the name of the column at a place
name_at : (cs : List Column) (i : ℕ) (c : Column) → i < length cs → c ≡ get_or cs i c → c.name ≡ get_or (map (λ c. c.name) cs) i c.name
name_at cs i c below is = ap (λ (d : Column). d.name) is ∙ sym (get_or-map (λ (d : Column). d.name) cs i c c.name below)

-- the test of the columns before a place, as one of their names
tested : (cs : List Column) (i : ℕ) (name : List ℕ) → list_any (λ e. bytes_eq e name) (take i (map (λ c. c.name) cs)) ≡ list_any (λ e. bytes_eq e name) (map (λ c. c.name) (take i cs))
tested cs i name = ap (list_any (λ e. bytes_eq e name)) (take-map (λ (c : Column). c.name) i cs)

pub returns-then-is_named : goal.returns-then-is_named
returns-then-is_named c =
    let cs = c.args.columns.now in
    let i = c.loop-place.place in
    let name = c.index-columns-place.result.name in
    sym
    (first_repeat-found (map (λ (d : Column). d.name) cs) i name (place_of_name cs i c.loop-place-test.true) (name_at cs i c.index-columns-place.result c.loop-place-test.true c.index-columns-place.is)
    (tested cs i name ∙ sym c.is_named.ensures ∙ c.if-is_named.true))
    ∙ c.loop-place.invariant

pub loop-place-preserved : goal.loop-place-preserved
loop-place-preserved c =
    let cs = c.args.columns.now in
    let i = c.loop-place.place in
    let name = c.index-columns-place.result.name in
    sym
    (first_repeat-more (map (λ (d : Column). d.name) cs) i name (place_of_name cs i c.loop-place-test.true) (name_at cs i c.index-columns-place.result c.loop-place-test.true c.index-columns-place.is)
    (tested cs i name ∙ sym c.is_named.ensures ∙ c.if-is_named.false))
    ∙ c.loop-place.invariant
