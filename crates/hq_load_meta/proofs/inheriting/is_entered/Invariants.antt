use Rattle.std.proofs.Common.{◌≡◌, map, drop}
use Rattle.hq_base.specs.Json.{json_view}
use Rattle.hq_load_meta.specs.Inheriting.{is_entered}
use Rattle.hq_load_meta.proofs.inheriting.is_entered.Given as goal

-- the name is that of one of those that are left
abbrev pub invariant-loop-entry : goal.invariant-loop-entry
invariant-loop-entry l = is_entered (map json_view (drop l.entry-index l.entries)) l.name ≡ is_entered (map json_view l.entries) l.name
