use Rattle.std.proofs.Common.{◌≡◌, ℕ, List, map, take}
use Rattle.hq_gql_nodes.specs.Names.{has_name}
use Rattle.hq_gql_nodes.specs.Nodes.{part_view}
use Rattle.hq_rules_reach.specs.Spreads.{is_spread}
use Rattle.hq_rules_reach.proofs.no_unused_fragments.spread_names.Given as goal

-- the names that the parts so far spread are noted
abbrev pub invariant-loop-part : goal.invariant-loop-part
invariant-loop-part l = (q : List ℕ) → has_name l.names q ≡ is_spread (map part_view (take l.part-index l.parts)) q
