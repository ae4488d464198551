use Rattle.std.proofs.Common.{◌≡◌, ◌∙◌, map, sym, to_z, of_z, rules}
use Rattle.std.specs.Int.{w128}
use Rattle.std.specs.Int.RustNames.{FitsSigned}
use Rattle.std.proofs.lemmas.Int.{to_z-of_z}
use Rattle.hq_load_index.specs.Direct.{AreStarts}
use Rattle.hq_load_index.specs.Grids.{rows_in}
use Rattle.hq_load_index.specs.Indexes.{columns_of, entries_of}
use Rattle.hq_load_index.specs.Keys.{cell_view}
use Rattle.hq_load_index.proofs.Starts.{told_is}
use Rattle.hq_load_index.proofs.index.Index.told.Goals as goal

pub returns : goal.returns
returns c =
    let columns = columns_of c.args.self.now in
    let rows = rows_in c.args.grid.now in
    let entries = entries_of c.args.self.now in
    let direct = c.in_ok-direct.direct.now in
    let number = c.in_ok-number.number in
    let small : FitsSigned w128 number = search rules in
    let same : to_z w128 (of_z w128 number) ≡ number = to_z-of_z w128 number small in
    let starts : AreStarts columns rows entries direct.least direct.starts.items = search rules in
    told_is columns rows entries (map cell_view c.args.key.now) direct.least direct.starts.items c.in_ok-column.column number c.span_of.result
    (sym c.deref.ensures.value ∙ c.in_ok-column.ensures) c.in_ok-number.ensures starts (rw same at c.span_of.ensures)
