use Rattle.std.proofs.Common.{◌≡◌, ◌-◌, length, arith, rules}
use Rattle.hq_explain_places.proofs.Steps.{record_next, record_none}
use Rattle.hq_explain_places.proofs.records.from_record.Goals as goal

pub returns-then-is_empty : goal.returns-then-is_empty
returns-then-is_empty c =
    let none : length c.records.rest.now ≡ 0 = search rules in
    record_none (c.args.number - c.records.done) c.records.rest.now _ none c.records.invariant

pub records-preserved : goal.records-preserved
records-preserved c = record_next c.args.number c.records.done c.records.rest.now c.from_next-rest.result.now _ (omega arith) c.records.invariant c.from_next-rest.ensures
