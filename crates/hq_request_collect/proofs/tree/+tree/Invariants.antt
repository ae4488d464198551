use Rattle.std.proofs.Common.{◌≡◌, ◌+◌, ◌*◌, map}
use Rattle.hq_request_collect.specs.Seen.{request_seen, groups_seen}
use Rattle.hq_request_collect.specs.Tree.{fields_of, collected_down}
use Rattle.hq_request_collect.specs.TreeSeen.{collected_view}
use Rattle.hq_request_collect.proofs.Trees.{behind}
use Rattle.hq_request_collect.proofs.tree.+tree.Given as goal

abbrev pub decreases-below : goal.decreases-below
decreases-below l = 3 * l.levels

abbrev pub decreases-fields_of : goal.decreases-fields_of
decreases-fields_of l = 3 * l.levels + 1

abbrev pub decreases-below_more : goal.decreases-below_more
decreases-below_more l = 3 * l.levels + 2

-- the fields so far, and then those of the keys that are left
abbrev pub invariant-fields_of-loop-key : goal.invariant-fields_of-loop-key
invariant-fields_of-loop-key l =
    let inner = collected_down 50 l.levels (request_seen l.request) in
    fields_of inner (groups_seen l.groups.entries) ≡ behind (map collected_view l.fields.items) (fields_of inner (groups_seen l.key-iterator))
