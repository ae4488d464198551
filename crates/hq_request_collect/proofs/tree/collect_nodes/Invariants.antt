use Rattle.std.proofs.Common.{◌≡◌, drop, map}
use Rattle.hq_gql_tree.specs.Selections.{field_view}
use Rattle.hq_request_collect.specs.Collect.{collect_all}
use Rattle.hq_request_collect.specs.Seen.{request_seen, all_seen, seen}
use Rattle.hq_request_collect.proofs.tree.collect_nodes.Given as goal

-- the fields that are left, collected behind those so far, give the whole
abbrev pub invariant-loop-field : goal.invariant-loop-field
invariant-loop-field l =
    let r = request_seen l.request in
    collect_all 50 r (all_seen l.nodes) (seen l.fn.collected) ≡ collect_all 50 r (map (λ f. field_view f.now) (drop l.field-index l.nodes.others.items)) (seen l.collected)
