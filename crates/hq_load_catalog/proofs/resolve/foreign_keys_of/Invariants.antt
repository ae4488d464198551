use Rattle.std.proofs.Common.{◌≡◌, ◌++◌, drop}
use Rattle.hq_base.specs.Due.{mapped}
use Rattle.hq_load_catalog.specs.Each.{each, each_from}
use Rattle.hq_load_catalog.specs.Resolved.{foreign_key_of}
use Rattle.hq_load_catalog.proofs.resolve.foreign_keys_of.Given as goal

-- the foreign keys so far, and then those of the rest
abbrev pub invariant-loop-place : goal.invariant-loop-place
invariant-loop-place l =
    each (foreign_key_of l.tables l.own) l.path l.keys ≡ mapped (λ rest. l.resolved ++ rest) (each_from (foreign_key_of l.tables l.own) l.path l.place (drop l.place l.keys))
