use Rattle.std.proofs.Common.{subst}
use Rattle.csv.specs.Records.{fields_of}
use Rattle.hq_load_index.specs.Grids.{rows_in}
use Rattle.hq_load_tables.specs.Keys.{ReadsUnder}
use Rattle.hq_load_tables.specs.Layouts.{columns_of, names_of}
use Rattle.hq_load_tables.specs.Readers.{left_of}
use Rattle.hq_load_tables.proofs.load.read_under.Goals as goal

-- the rows are read under the layout's table and header, which are those that were given
pub returns : goal.returns
returns c =
    let layout = c.in-Some.layout in
    let parts = rw c.in-Some.is at c.in_ok-layout.ensures.parts in
    let rest = left_of c.args.reader.now in
    let rows = rows_in c.in_ok-read_rows.field-0.grid in
    let refused = c.in_ok-read_rows.field-0.refusal in
    let there : ReadsUnder layout.table.now (names_of layout) rest rows refused = record { columns = columns_of layout; header = layout.named; read = c.in_ok-read_rows.ensures } in
    subst (λ t. ReadsUnder t (fields_of c.args.header.now) rest rows refused) parts.0
    (subst (λ h. ReadsUnder layout.table.now (fields_of h) rest rows refused) parts.1 there)
