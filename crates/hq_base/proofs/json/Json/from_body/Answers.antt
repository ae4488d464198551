use Rattle.std.proofs.Common.{rules, inr}
use Rattle.hq_base.proofs.Reading.{body_of-value, body_of-not_json}
use Rattle.hq_base.proofs.json.Json.from_body.Goals as goal

pub returns-in-Ok-clause-due : goal.returns-in-Ok-clause-due
returns-in-Ok-clause-due c = rw (body_of-value _ _ c.in-Ok.ensures.ok.0 c.in-Ok.ensures.ok.1) c.json_of.ensures.due

pub returns-else-is_memory-clause-due : goal.returns-else-is_memory-clause-due
returns-else-is_memory-clause-due c =
    let no = c.if-is_memory.ensures.1 in
    inr (body_of-not_json _ (c.in-Err.ensures.err (λ h. let bad = no h in search rules)))
