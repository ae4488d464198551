use Rattle.std.proofs.Common.{◌∙◌, ◌++◌, refl, ap}
use Rattle.std.specs.List.{filter_map}
use Rattle.hq_schema_of_role.specs.declared.shown.ShownColumn.{ShownColumn}
use Rattle.hq_schema_of_role.proofs.Loops.{filter_map_drop-more, all_done}
use Rattle.hq_schema_of_role.proofs.scalars.push_scalars.Goals as goal

pub loop-column-preserved : goal.loop-column-preserved
loop-column-preserved c =
    filter_map_drop-more (λ (k : ShownColumn). k.scalar) c.as_slice-column-items.result.now c.loop-column.column-index c.column-item.result
    c.column-item.result.scalar c.loop-column.names.items c.push_scalar.new.names.items _
    c.loop-column.invariant c.loop-column-test.true c.column-item.is refl c.in_ok-push_scalar.ensures

pub returns : goal.returns
returns c =
    all_done (filter_map (λ (k : ShownColumn). k.scalar)) c.as_slice-column-items.result.now c.loop-column.column-index
    c.loop-column.names.items _ c.loop-column.invariant c.loop-column-test.false refl
    ∙ ap (λ ls. c.args.names.now.items ++ filter_map (λ (k : ShownColumn). k.scalar) ls) c.as_slice-column-items.ensures
