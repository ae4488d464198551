use Rattle.std.proofs.Common.{rules, arith, take, drop, ◌∙◌}
use Rattle.std.specs.Io.KnownBytes.{Appends}
use Rattle.hq_io.proofs.Pieces.{appends_more}
use Rattle.hq_io.proofs.streams.send_all.Goals as goal

pub pieces-preserved : goal.pieces-preserved
pieces-preserved g c =
    let rest = c.split_at.ensures.back in
    let piece : Appends (g.L.Link.written c.pieces.link) (g.L.Link.written c.write.new.self) (take c.in_ok-sent.field-0 (drop c.pieces.sent c.args.bytes.now)) =
    rw (← rest) c.in_ok-sent.ensures.bytes in
    record {
      within = omega (arith, c.in_ok-sent.ensures.bound, c.split_at.ensures.back_len);
      written = appends_more _ _ _ _ _ _ c.pieces.invariant.written piece;
      later = search rules;
      left = c.in_ok-sent.ensures.left ∙ c.pieces.invariant.left;
      read_faults = c.in_ok-sent.ensures.read_faults ∙ c.pieces.invariant.read_faults;
    }
