use Rattle.std.proofs.Common.{◌∙◌, refl, ap}
use Rattle.std.specs.Prelude.{flat_map}
use Rattle.hq_schema_of_role.specs.Scalars.{table_scalars}
use Rattle.hq_schema_of_role.proofs.Loops.{flat_map_drop-more, all_done}
use Rattle.hq_schema_of_role.proofs.scalars.all_scalars.Goals as goal

pub loop-table-preserved : goal.loop-table-preserved
loop-table-preserved c =
    flat_map_drop-more table_scalars c.as_slice-table-items.result.now c.loop-table.table-index c.table-item.result c.loop-table.names.items
    c.push_scalars.new.names.items _ c.loop-table.invariant c.loop-table-test.true c.table-item.is c.in_ok-push_scalars.ensures

pub returns : goal.returns
returns c =
    all_done (flat_map table_scalars) c.as_slice-table-items.result.now c.loop-table.table-index c.loop-table.names.items _ c.loop-table.invariant c.loop-table-test.false refl
    ∙ ap (flat_map table_scalars) c.as_slice-table-items.ensures
