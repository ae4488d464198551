use Rattle.std.proofs.Common.{◌≡◌, ◌∙◌, Some, None, get_or, bytes_eq, ap, sym, rules}
use Rattle.std.specs.List.{position_from}
use Rattle.csv.specs.Records.{fields_of}
use Rattle.hq_model.specs.declared.table.Column.{Column}
use Rattle.hq_load_tables.proofs.Headers.{Found-more, Found-stop, Found-all}
use Rattle.hq_load_tables.proofs.load.header.places_named.Goals as goal

-- a column's place is found, and the loop goes on behind it
pub loop-column-preserved : goal.loop-column-preserved
loop-column-preserved c =
    let named = λ (d : Column). position_from (bytes_eq d.name) 0 (fields_of c.args.header.now) in
    let columns = c.args.columns.now in
    let k = c.loop-column.column-index in
    let column = c.column-item.result in
    let seen : named column ≡ Some c.in-Some.place = search rules in
    let here : named (get_or columns k column) ≡ Some c.in-Some.place = ap named (sym c.column-item.is) ∙ seen in
    rw c.in_ok-push.ensures.items (Found-more named columns k column c.loop-column.places.items c.in-Some.place c.loop-column.invariant c.loop-column-test.true here)

-- a column that the header leaves out
pub returns-in_default : goal.returns-in_default
returns-in_default c =
    let named = λ (d : Column). position_from (bytes_eq d.name) 0 (fields_of c.args.header.now) in
    let columns = c.args.columns.now in
    let k = c.loop-column.column-index in
    let column = c.column-item.result in
    let seen : named column ≡ None = search rules in
    let here : named (get_or columns k column) ≡ None = ap named (sym c.column-item.is) ∙ seen in
    sym (Found-stop named columns k column c.loop-column.places.items c.loop-column.invariant c.loop-column-test.true here)

-- every column is in the header
pub returns : goal.returns
returns c =
    let named = λ (d : Column). position_from (bytes_eq d.name) 0 (fields_of c.args.header.now) in
    sym (Found-all named c.args.columns.now c.loop-column.column-index c.loop-column.places.items c.loop-column.invariant c.loop-column-test.false)
