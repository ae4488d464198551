use Rattle.std.proofs.Common.{inl, inr, refl, arith}
use Rattle.std.specs.Prelude.{codes}
use Rattle.hq_explain_places.proofs.not_json.put_not_json.Goals as goal

pub returns-in-Err : goal.returns-in-Err
returns-in-Err c = (0, omega arith, codes ": a zero byte\n", inr (inr (inl refl)), 1, omega arith, record { added = inl c.stop_if.ensures })
