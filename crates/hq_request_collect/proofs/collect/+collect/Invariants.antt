use Rattle.std.proofs.Common.{◌≡◌, ◌+◌, ◌*◌, ◌-◌, map, drop}
use Rattle.hq_gql_tree.specs.Selections.{selection_view}
use Rattle.hq_request_collect.specs.Collect.{collect, collect_each}
use Rattle.hq_request_collect.specs.Seen.{request_seen, seen}
use Rattle.hq_request_collect.proofs.collect.+collect.Given as goal

-- a selection set goes to one level less; a spread stands between a selection and its fragment
abbrev pub decreases-collect : goal.decreases-collect
decreases-collect l = 4 * l.levels

abbrev pub decreases-collect_spread : goal.decreases-collect_spread
decreases-collect_spread l = 4 * l.levels + 1

abbrev pub decreases-collect_included : goal.decreases-collect_included
decreases-collect_included l = 4 * l.levels + 2

abbrev pub decreases-collect_one : goal.decreases-collect_one
decreases-collect_one l = 4 * l.levels + 3

-- the selections that are left, collected behind those so far, give the whole
abbrev pub invariant-collect-loop-selection : goal.invariant-collect-loop-selection
invariant-collect-loop-selection l =
    let r = request_seen l.request in
    collect_each (collect (l.levels - 1) r) r (map selection_view l.selections) (seen l.initial.collected)
    ≡ collect_each (collect (l.levels - 1) r) r (map selection_view (drop l.selection-index l.selections)) (seen l.collected)
