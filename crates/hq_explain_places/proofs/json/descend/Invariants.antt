use Rattle.std.proofs.Common.{◌≡◌, ◌-◌, length}
use Rattle.hq_explain_places.specs.NodeViews.{node_view}
use Rattle.hq_explain_places.specs.Nodes.{node}
use Rattle.hq_explain_places.proofs.json.descend.Given as goal

-- as many steps as are left lead from here to where all lead
abbrev pub invariant-steps : goal.invariant-steps
invariant-steps l = node (length l.path - l.done) (node_view l.here) ≡ node (length l.path) (l.text, l.path)
