use Rattle.std.proofs.Common.{◌≡◌, ◌++◌, drop}
use Rattle.hq_schema_of_role.specs.Placed.{links_from}
use Rattle.hq_schema_of_role.proofs.links.links_of.Given as goal

abbrev pub invariant-loop-at : goal.invariant-loop-at
invariant-loop-at l = l.links ++ links_from l.tables l.at (drop l.at l.rels) ≡ links_from l.tables 0 l.rels
