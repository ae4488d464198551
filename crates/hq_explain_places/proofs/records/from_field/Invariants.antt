use Rattle.std.proofs.Common.{◌≡◌, ◌-◌}
use Rattle.hq_explain_places.specs.Records.{from_field}
use Rattle.hq_explain_places.proofs.records.from_field.Given as goal

-- as many fields as are left lead from here to where all lead
abbrev pub invariant-fields : goal.invariant-fields
invariant-fields l = from_field (l.number - l.done) l.rest ≡ from_field l.number l.text
