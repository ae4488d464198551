-- One more field has its row.
use Rattle.std.proofs.Common.{rules, map, refl}
use Rattle.hq_overlap_sets.specs.declared.sets.Entry.{Entry}
use Rattle.hq_overlap_sets.specs.Sets.{field_in, place_in}
use Rattle.hq_overlap_sets.proofs.Stepping.{all_more_item, all_at_end, contained_item}
use Rattle.hq_rules_overlap.specs.Groups.{HasRow}
use Rattle.hq_rules_overlap.proofs.below.add_all.Goals as goal

pub add_below-requires-clause-below : goal.add_below-requires-clause-below
add_below-requires-clause-below c = c.loop-entry.invariant.below

pub add_below-requires-clause-stands : goal.add_below-requires-clause-stands
add_below-requires-clause-stands c =
    let f = field_in c.args.arena.now in
    contained_item f c.args.entries.now (map f c.args.entries.now) c.loop-entry.entry-index c.entry-item.result refl c.loop-entry-test.true c.entry-item.is

pub loop-entry-init : goal.loop-entry-init
loop-entry-init c = record { below = c.requires.below; length = c.requires.length; added = search rules }

pub loop-entry-preserved : goal.loop-entry-preserved
loop-entry-preserved c =
    let f = field_in c.args.arena.now in
    let keys = c.args.keys.now in
    let old = c.loop-entry.rows.items in
    let new = c.add_below.new.rows.items in
    record {
      below = c.in_ok-added.ensures.below;
      length = c.in_ok-added.ensures.length;
      added =
          all_more_item (λ (e : Entry). HasRow keys old (f e)) (λ (e : Entry). HasRow keys new (f e))
          (λ e. c.in_ok-added.ensures.kept (place_in keys (f e).key) (f e).below)
          c.args.entries.now c.loop-entry.entry-index c.entry-item.result c.loop-entry-test.true c.entry-item.is c.loop-entry.invariant.added (c.in_ok-added.ensures.added (search rules));
    }

pub returns-clause-added : goal.returns-clause-added
returns-clause-added c = λ _.
    let f = field_in c.args.arena.now in
    all_at_end f (HasRow c.args.keys.now c.loop-entry.rows.items) c.args.entries.now (map f c.args.entries.now) c.loop-entry.entry-index refl c.loop-entry-test.false c.loop-entry.invariant.added
