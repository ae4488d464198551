use Rattle.std.proofs.Common.{◌≡◌, ◌∙◌, ℕ, [], length, get_or, sym, subst, arith, Vec, Global}
use Rattle.std.proofs.lemmas.List.{length-map}
use Rattle.hq_gql_nodes.specs.Reach.{Graph, graph_view}
use Rattle.hq_gql_nodes.specs.Marks.{Among}
use Rattle.hq_rules_reach.proofs.components.rises.Goals as goal

pub returns : goal.returns
returns c = λ t p i q h.
    let rows : Graph = graph_view c.args.graph.now in
    let same : length rows ≡ length c.args.graph.now = length-map c.args.graph.now (λ (row : Vec ℕ Global). row.items) in
    let many : length c.args.numbers.now ≡ length rows = c.requires ∙ sym same in
    c.loop-place.invariant p (omega (arith, i, same)) q (subst (λ (n : ℕ). Among n (get_or rows p []) q) (sym many) h)
