use Rattle.std.proofs.Common.{◌≡◌, ◌∙◌, length, refl}
use Rattle.hq_load_index.specs.Indexes.{columns_of, counted}
use Rattle.hq_sql_tree.specs.View.{pred_view}
use Rattle.hq_sql_access.specs.View.{world_of}
use Rattle.hq_sql_access.specs.declared.pinned.KeySet.{KeySet}
use Rattle.hq_sql_scans.proofs.KeySets.{set_is}
use Rattle.hq_sql_scans.proofs.key_set.key_set.Goals as goal

pub returns : goal.returns
returns c =
    let columns = c.args.columns.now in
    let s : KeySet = record { pred = c.args.pred; links = c.args.links; grid = c.in_ok-grid.grid; index = c.in_ok-index.index } in
    let own : columns_of c.in_ok-index.index ≡ counted 0 (length columns) = c.in_ok-index.ensures.columns ∙ c.in_ok-own.ensures in
    set_is (world_of c.args.world.now) (pred_view c.args.pred.now) c.args.rows.now c.args.truths.now columns c.args.links.items s
    c.requires.keeps refl c.in_ok-index.ensures.over own c.in_ok-grid.ensures.rows
