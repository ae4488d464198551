-- One more set is kept.
use Rattle.std.proofs.Common.{rules, map, arith}
use Rattle.hq_schema.specs.Schema.{schema_view}
use Rattle.hq_overlap_classes.specs.Disputes.{noted_in}
use Rattle.hq_overlap_sets.specs.Sets.{set_in, arena_view}
use Rattle.hq_overlap_classes.proofs.Sifting.{kept_more, all_kept, kept_smaller}
use Rattle.hq_overlap_classes.proofs.disputes.Disputes.kept_sets.Goals as goal

pub loop-number-preserved : goal.loop-number-preserved
loop-number-preserved c =
    let a = c.args.arena.now in
    record {
      as_long = search rules;
      each = kept_more (noted_in (schema_view a.schema.now) c.args.self.now) (arena_view a) (set_in a) c.loop-number.sets.items c.push.new.self.items c.in_ok-kept.kept c.loop-number.number
          c.loop-number.invariant.as_long c.in_ok-push.ensures.items c.in_ok-kept.ensures c.loop-number.invariant.each;
    }

pub returns-clause-kept : goal.returns-clause-kept
returns-clause-kept c =
    all_kept (noted_in (schema_view c.args.arena.now.schema.now) c.args.self.now) c.args.arena.now c.loop-number.sets.items
    c.loop-number.number (omega arith) c.loop-number.invariant.as_long c.loop-number.invariant.each (omega arith)

pub returns-clause-smaller : goal.returns-clause-smaller
returns-clause-smaller c =
    let a = c.args.arena.now in
    let n = noted_in (schema_view a.schema.now) c.args.self.now in
    kept_smaller n (arena_view a) (map (set_in a) c.loop-number.sets.items)
    (all_kept n a c.loop-number.sets.items c.loop-number.number (omega arith) c.loop-number.invariant.as_long c.loop-number.invariant.each
    (omega arith))
