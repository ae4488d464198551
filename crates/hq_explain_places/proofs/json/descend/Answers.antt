use Rattle.std.proofs.Common.{length, sym, arith}
use Rattle.hq_explain_places.specs.NodeViews.{node_view}
use Rattle.hq_explain_places.proofs.Steps.{node_next}
use Rattle.hq_explain_places.proofs.json.descend.Goals as goal

pub steps-preserved : goal.steps-preserved
steps-preserved c =
    node_next (length c.args.path.now) c.steps.done (node_view c.steps.here) (node_view c.in-Some.next) _ (omega arith) c.steps.invariant (sym c.in-Some.ensures)
