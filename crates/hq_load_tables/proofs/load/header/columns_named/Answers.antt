use Rattle.std.proofs.Common.{◌≡◌, ◌∙◌, ◌<◌, ◌≤◌, ℕ, List, [], Bor, Some, None, length, get_or, map, ap, sym, arith, rules}
use Rattle.std.specs.Prelude.{find, bytes_eq}
use Rattle.std.proofs.lemmas.List.{map-append}
use Rattle.csv.specs.Records.{fields_of}
use Rattle.hq_model.specs.declared.table.Column.{Column}
use Rattle.hq_load_tables.proofs.Headers.{Found-more, Found-stop, Found-all}
use Rattle.hq_load_tables.proofs.load.header.columns_named.Goals as goal

-- a name is found, and the loop goes on behind it
pub loop-at-preserved : goal.loop-at-preserved
loop-at-preserved c =
    let names = fields_of c.args.header.now in
    let columns = c.args.columns.now in
    let named = λ (n : List ℕ). find (λ (d : Column). bytes_eq d.name n) columns in
    let found = map (λ (x : Bor Column). x.now) c.loop-at.found.items in
    let here : named (get_or names c.loop-at.at []) ≡ Some c.in-Some.column.now = sym (ap named c.field.ensures) ∙ sym c.in-Some.ensures in
    let within : c.loop-at.at < length names = omega (arith, c.loop-at-test.true, c.len-at-end.ensures) in
    rw (c.in_ok-push.ensures.items, map-append) (Found-more named names c.loop-at.at [] found c.in-Some.column.now c.loop-at.invariant within here)

-- a name of no column
pub returns-in_default : goal.returns-in_default
returns-in_default c =
    let names = fields_of c.args.header.now in
    let columns = c.args.columns.now in
    let named = λ (n : List ℕ). find (λ (d : Column). bytes_eq d.name n) columns in
    let found = map (λ (x : Bor Column). x.now) c.loop-at.found.items in
    let here : named (get_or names c.loop-at.at []) ≡ None = sym (ap named c.field.ensures) ∙ search rules in
    let within : c.loop-at.at < length names = omega (arith, c.loop-at-test.true, c.len-at-end.ensures) in
    sym (Found-stop named names c.loop-at.at [] found c.loop-at.invariant within here)

-- every name is of a column
pub returns : goal.returns
returns c =
    let names = fields_of c.args.header.now in
    let columns = c.args.columns.now in
    let named = λ (n : List ℕ). find (λ (d : Column). bytes_eq d.name n) columns in
    let found = map (λ (x : Bor Column). x.now) c.loop-at.found.items in
    let past : length names ≤ c.loop-at.at = omega (arith, c.loop-at-test.false, c.len-at-end.ensures) in
    sym (Found-all named names c.loop-at.at found c.loop-at.invariant past)
