use Rattle.std.proofs.Common.{arith}
use Rattle.hq_explain_places.proofs.Adding.{adds_nothing, adds_so, adds_then}
use Rattle.hq_explain_places.proofs.Repeated.{repeated_all, repeated_next, repeated_none}
use Rattle.hq_explain_places.proofs.excerpt.put_repeated.Goals as goal

pub times-init : goal.times-init
times-init c = λ new h. adds_so h (repeated_all c.args.count c.args.byte)

pub times-preserved : goal.times-preserved
times-preserved c = λ new later. c.times.invariant new (adds_so (adds_then c.put_byte.ensures later) (repeated_next c.args.count c.times.done c.args.byte (omega arith)))

pub returns : goal.returns
returns c = c.times.invariant _ (adds_so (adds_nothing _) (repeated_none c.args.count c.times.done c.args.byte (omega arith)))
