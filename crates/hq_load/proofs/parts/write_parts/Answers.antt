use Rattle.std.proofs.Common.{rules, ℕ, List, sym, subst}
use Rattle.std.specs.Io.KnownBytes.{Appends}
use Rattle.hq_io.specs.Streams.{AppendsPrefix}
use Rattle.hq_load.specs.Line.{part_text}
use Rattle.hq_load.proofs.WrittenParts.{appends_both, prefix_more, bytes_of-next, bytes_of-around}
use Rattle.hq_load.proofs.parts.write_parts.Goals as goal

pub returns-in_err-write_part-clause-prefix : goal.returns-in_err-write_part-clause-prefix
returns-in_err-write_part-clause-prefix g c =
    let a = g.K.Sink.written c.args.out.now in
    let b = g.K.Sink.written c.write_part.new.out in
    subst (λ (bytes : List ℕ). AppendsPrefix a b bytes) (sym (bytes_of-around part_text c.args.parts.now c.loop-part.part-index c.part-item.result c.loop-part-test.true c.part-item.is))
    (prefix_more a (g.K.Sink.written c.loop-part.out) b _ _ _ c.loop-part.invariant.written c.write_part.ensures.prefix)

pub loop-part-preserved : goal.loop-part-preserved
loop-part-preserved g c =
    let a = g.K.Sink.written c.args.out.now in
    let b = g.K.Sink.written c.write_part.new.out in
    record {
      written = subst (λ (bytes : List ℕ). Appends a b bytes) (sym (bytes_of-next part_text c.args.parts.now c.loop-part.part-index c.part-item.result c.loop-part-test.true c.part-item.is))
          (appends_both a (g.K.Sink.written c.loop-part.out) b _ _ c.loop-part.invariant.written c.in_ok-write_part.ensures.ok);
      later = search rules;
    }
