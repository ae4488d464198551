use Rattle.std.proofs.Common.{rules, arith, take, drop}
use Rattle.std.specs.Io.KnownBytes.{Appends}
use Rattle.hq_io.proofs.Pieces.{appends_more}
use Rattle.hq_io.proofs.streams.write_all.Goals as goal

pub pieces-preserved : goal.pieces-preserved
pieces-preserved g c =
    let rest = c.split_at.ensures.back in
    let piece : Appends (g.K.Sink.written c.pieces.out) (g.K.Sink.written c.write.new.self) (take c.in_ok-done.field-0 (drop c.pieces.done c.args.bytes.now)) =
    rw (← rest) c.in_ok-done.ensures.bytes in
    record {
      within = omega (arith, c.in_ok-done.ensures.bound, c.split_at.ensures.back_len);
      written = appends_more _ _ _ _ _ _ c.pieces.invariant.written piece;
      later = search rules;
    }
