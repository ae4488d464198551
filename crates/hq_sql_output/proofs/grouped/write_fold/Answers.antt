use Rattle.std.proofs.Common.{◌≡◌, ◌++◌, map, OnOk, subst, ap, ◌∙◌}
use Rattle.hq_sql_tree.specs.View.{expr_view}
use Rattle.hq_sql_access.specs.View.{made_view, names_of, world_of}
use Rattle.hq_sql_output.specs.Placed.{names_in}
use Rattle.hq_sql_output.specs.Selected.{page_in}
use Rattle.hq_sql_output.specs.Texts.{grouped_text}
use Rattle.hq_sql_output.proofs.Groups.{rows_there}
use Rattle.hq_sql_output.proofs.grouped.write_fold.Goals as goal

pub write_grouped-requires : goal.write_grouped-requires
write_grouped-requires c =
    let w = world_of c.args.world.now in
    let n = names_of c.args.scope.now c.args.world.now in
    let rows = c.in-Some.rows in
    let N = names_in c.placed_rows-placed.result w n in
    let from = c.placed_rows-placed.ensures.scopes n (ap (map made_view) c.deref.ensures.value ∙ c.in_ok-made.ensures) in
    let places = ap (map N) c.as_slice.ensures.value ∙ c.in_ok-places.ensures ∙ ap (page_in rows w) from in
    rows_there rows c.args.select.now c.args.alias.now w n N c.as_slice-outs.result.now c.as_slice.result.now c.as_slice-outs.ensures.value places (c.in-Some.ensures w n)

pub returns : goal.returns
returns c =
    let w = world_of c.args.world.now in
    let n = names_of c.args.scope.now c.args.world.now in
    let rows = c.in-Some.rows in
    let N = names_in c.placed_rows-placed.result w n in
    let from = c.placed_rows-placed.ensures.scopes n (ap (map made_view) c.deref.ensures.value ∙ c.in_ok-made.ensures) in
    let places = ap (map N) c.as_slice.ensures.value ∙ c.in_ok-places.ensures ∙ ap (page_in rows w) from in
    let group = rows_there rows c.args.select.now c.args.alias.now w n N c.as_slice-outs.result.now c.as_slice.result.now c.as_slice-outs.ensures.value places (c.in-Some.ensures w n) in
    subst (λ g. OnOk c.write_grouped.result (c.write_grouped.new.out ≡ c.args.out.now ++ grouped_text (expr_view c.args.expr.now) g n)) group c.write_grouped.ensures
