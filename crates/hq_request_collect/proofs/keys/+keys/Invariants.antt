use Rattle.std.proofs.Common.{◌≡◌, map, drop}
use Rattle.hq_request_collect.specs.Keys.{narrow_below}
use Rattle.hq_request_collect.specs.TreeSeen.{collected_view, trees_of}
use Rattle.hq_request_collect.proofs.keys.+keys.Given as goal

-- the fields that are left decide
abbrev pub invariant-are_narrow-loop-field : goal.invariant-are_narrow-loop-field
invariant-are_narrow-loop-field l =
    narrow_below (trees_of (map collected_view l.fields)) ≡ narrow_below (trees_of (map collected_view (drop l.field-index l.fields)))
