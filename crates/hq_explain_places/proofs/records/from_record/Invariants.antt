use Rattle.std.proofs.Common.{◌≡◌, ◌-◌}
use Rattle.hq_explain_places.specs.Records.{from_record}
use Rattle.hq_explain_places.proofs.records.from_record.Given as goal

-- as many records as are left lead from here to where all lead
abbrev pub invariant-records : goal.invariant-records
invariant-records l = from_record (l.number - l.done) l.rest ≡ from_record l.number l.text
