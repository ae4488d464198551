use Rattle.std.proofs.Common.{◌∙◌, ap₂}
use Rattle.hq_base.specs.Cells.{key_cmp}
use Rattle.hq_sql_cells.proofs.KeyOrders.{cell_at, no_cell_at}
use Rattle.hq_sql_cells.proofs.order.key_cmp_at.Goals as goal

pub returns-in-Some-Some : goal.returns-in-Some-Some
returns-in-Some-Some c =
    let l = c.in-Some-Some.ensures.lookup in
    let r = c.in-Some-Some.ensures'.lookup in
    c.key_cmp.ensures ∙ ap₂ (key_cmp c.args.direction.desc c.args.direction.nulls_first) (cell_at c.args.left.now c.args.at _ l.3.0 l.1) (cell_at c.args.right.now c.args.at _ r.3.0 r.1)

pub returns-in-Some-None : goal.returns-in-Some-None
returns-in-Some-None c =
    let l = c.in-Some-None.ensures.lookup in
    let r = c.in-Some-None.ensures'.lookup in
    c.key_cmp-in-Some-None.ensures ∙ ap₂ (key_cmp c.args.direction.desc c.args.direction.nulls_first) (cell_at c.args.left.now c.args.at _ l.3.0 l.1) (no_cell_at c.args.right.now c.args.at r.3)

pub returns-in-None-Some : goal.returns-in-None-Some
returns-in-None-Some c =
    let l = c.in-None-Some.ensures.lookup in
    let r = c.in-None-Some.ensures'.lookup in
    c.key_cmp-in-None-Some.ensures ∙ ap₂ (key_cmp c.args.direction.desc c.args.direction.nulls_first) (no_cell_at c.args.left.now c.args.at l.3) (cell_at c.args.right.now c.args.at _ r.3.0 r.1)
