use Rattle.std.proofs.Common.{◌∙◌, ◌++◌, ◌+◌, refl, ap}
use Rattle.hq_sql_scans.specs.ChosenKeys.{picked}
use Rattle.hq_sql_scans.proofs.KeySets.{gathers_one, gathers_other}
use Rattle.hq_sql_scans.proofs.key_set.gather_row.Goals as goal

pub returns-then-not-truth : goal.returns-then-not-truth
returns-then-not-truth c =
    gathers_other c.args.columns.now c.args.truths.now c.args.rows.now c.args.at c.args.all.values.items c.args.all.count c.requires.within
    c.requires.whole (c.requires.truth ∙ c.if-not-truth.true) c.requires.so_far

pub returns : goal.returns
returns c =
    let values = c.args.all.values.items in
    let columns = c.args.columns.now in
    gathers_one columns c.args.truths.now c.args.rows.now c.args.at values c.push_cells.new.values.items c.args.all.count
    (c.args.all.count + 1) c.requires.within c.requires.whole (c.requires.truth ∙ c.if-not-truth.false) c.requires.so_far
    (c.in_ok-push_cells.ensures ∙ ap (λ row. values ++ picked columns row) c.row.ensures) refl
