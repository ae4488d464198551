use Rattle.std.proofs.Common.{◌≡◌, ◌+◌, ◌*◌, map, drop}
use Rattle.hq_request_collect.specs.Seen.{document_of}
use Rattle.hq_gql_tree.specs.Selections.{selection_view}
use Rattle.hq_request_collect.specs.Size.{left_after, left_of}
use Rattle.hq_request_collect.proofs.size.+size.Given as goal

-- what stands in a selection goes to one level less
abbrev pub decreases-left_after : goal.decreases-left_after
decreases-left_after l = 3 * l.levels

abbrev pub decreases-left_behind : goal.decreases-left_behind
decreases-left_behind l = 3 * l.levels + 1

abbrev pub decreases-left_of : goal.decreases-left_of
decreases-left_of l = 3 * l.levels + 2

-- what is left behind the selections so far, and then behind the others
abbrev pub invariant-left_of-loop-selection : goal.invariant-left_of-loop-selection
invariant-left_of-loop-selection l =
    let d = document_of l.fragments in
    left_of (left_after l.levels d) d (map selection_view l.selections) l.fn.left
    ≡ left_of (left_after l.levels d) d (map selection_view (drop l.selection-index l.selections)) l.left
