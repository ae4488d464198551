use Rattle.hq_load.proofs.WrittenParts.{wrote_both}
use Rattle.hq_load.proofs.parts.write_both.Goals as goal

pub returns : goal.returns
returns g c =
    wrote_both (g.K.Sink.written c.args.out.now) (g.K.Sink.written c.write_all.new.out) (g.K.Sink.written c.write_all-2.new.out) _ _ _ c.args.first.now c.args.second.now c.write_all-2.result
    c.in_ok-write_all.ensures.ok c.in_ok-write_all.ensures.cause.later (record { ok = c.write_all-2.ensures.ok; prefix = c.write_all-2.ensures.prefix; cause = c.write_all-2.ensures.cause })
