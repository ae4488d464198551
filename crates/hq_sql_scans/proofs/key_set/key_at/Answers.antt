use Rattle.std.proofs.Common.{◌<◌, ◌≡◌, ◌∙◌, [], ◌∷◌, length, map, ap, arith}
use Rattle.std.proofs.lemmas.List.{map-append}
use Rattle.hq_load_index.specs.Keys.{cell_view as key_view}
use Rattle.hq_sql_tree.specs.Meaning.{World, value}
use Rattle.hq_sql_tree.specs.View.{expr_view}
use Rattle.hq_sql_access.specs.Equations.{key_cell}
use Rattle.hq_sql_access.specs.View.{scope_of}
use Rattle.hq_sql_scans.proofs.KeySets.{more_key}
use Rattle.hq_sql_scans.proofs.key_set.key_at.Goals as goal

pub loop-link-preserved : goal.loop-link-preserved
loop-link-preserved c w =
    let links = c.args.links.now in
    let scope = c.args.scope.now in
    let i = c.loop-link.link-index in
    let lt : i < length links = omega (arith, c.loop-link-test.true) in
    let known : (v : World) → key_view c.in-Some.cell ≡ key_cell (value (expr_view c.link-item.result.now) [] (scope_of scope v)) = rw c.in-Some.is at c.in_ok-cell.ensures in
    ap (map key_view) c.in_ok-push-in-Some.ensures.items ∙ map-append key_view c.loop-link.key.items (c.in-Some.cell ∷ [])
    ∙ more_key links i c.link-item.result scope w (map key_view c.loop-link.key.items) (key_view c.in-Some.cell) lt c.link-item.is (c.loop-link.invariant w) (known w)
