use Rattle.std.proofs.Common.{◌≡◌, ◌++◌, map, drop}
use Rattle.hq_model.specs.Meta.{tracked_view}
use Rattle.hq_model.specs.PermView.{mask_view}
use Rattle.hq_schema_of_role.specs.Shown.{shown_columns}
use Rattle.hq_schema_of_role.proofs.see.shown_columns.Given as goal

abbrev pub invariant-loop-col : goal.invariant-loop-col
invariant-loop-col l =
    let ms = map mask_view l.masks in
    l.columns ++ shown_columns l.table (tracked_view l.tracked) ms (drop l.col-index l.col-items) ≡ shown_columns l.table (tracked_view l.tracked) ms l.col-items
