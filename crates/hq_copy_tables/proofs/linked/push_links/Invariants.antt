use Rattle.std.proofs.Common.{◌≡◌, ◌++◌, map, take}
use Rattle.hq_copy_tables.specs.Views.{link_view}
use Rattle.hq_copy_tables.proofs.linked.push_links.Given as goal

-- the links so far stand behind the others
abbrev pub invariant-loop-relationship : goal.invariant-loop-relationship
invariant-loop-relationship l =
    map link_view l.links.items ≡ map link_view l.fn.links.items ++ map (λ r. record { table = l.t; relationship = r }) (take l.relationship-index l.relationship-items)
