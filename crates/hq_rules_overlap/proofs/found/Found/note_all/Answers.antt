-- One more field agrees or counts.
use Rattle.std.proofs.Common.{rules, map, refl, ◌⊎◌}
use Rattle.hq_overlap_sets.specs.declared.sets.Entry.{Entry}
use Rattle.hq_overlap_sets.specs.Pairs.{AtMost}
use Rattle.hq_overlap_sets.specs.Sets.{FieldTree, field_in}
use Rattle.hq_overlap_sets.proofs.Stepping.{all_more_item, all_at_end, contained_item}
use Rattle.hq_rules_overlap.specs.Groups.{IsSettled}
use Rattle.hq_rules_overlap.specs.Heads.{first_in, label_in}
use Rattle.hq_rules_overlap.proofs.Places.{or_lower}
use Rattle.hq_rules_overlap.proofs.found.Found.note_all.Goals as goal

pub note-requires-clause-best : goal.note-requires-clause-best
note-requires-clause-best c = c.loop-entry.invariant.best

pub note-requires-clause-stands : goal.note-requires-clause-stands
note-requires-clause-stands c =
    let f = field_in c.args.arena.now in
    contained_item f c.args.entries.now (map f c.args.entries.now) c.loop-entry.entry-index c.entry-item.result refl c.loop-entry-test.true c.entry-item.is

pub loop-entry-init : goal.loop-entry-init
loop-entry-init c = record { lower = λ n h. h; noted = search rules; best = c.requires.best }

pub loop-entry-preserved : goal.loop-entry-preserved
loop-entry-preserved c =
    let f = field_in c.args.arena.now in
    let fields = map f c.args.entries.now in
    let first = first_in c.args.heads.now fields in
    let label = label_in c.args.heads.now fields in
    let old = c.loop-entry.self.least in
    let new = c.note.new.self.least in
    record {
      lower = λ n h. c.in_ok-note.ensures.lower n (c.loop-entry.invariant.lower n h);
      noted =
          all_more_item (λ (e : Entry). IsSettled first label (f e) ⊎ AtMost old (f e).at) (λ (e : Entry). IsSettled first label (f e) ⊎ AtMost new (f e).at)
          (λ e. or_lower old new (f e).at (c.in_ok-note.ensures.lower (f e).at))
          c.args.entries.now c.loop-entry.entry-index c.entry-item.result c.loop-entry-test.true c.entry-item.is c.loop-entry.invariant.noted c.in_ok-note.ensures.noted;
      best = c.in_ok-note.ensures.best;
    }

pub returns-clause-lower : goal.returns-clause-lower
returns-clause-lower c = c.loop-entry.invariant.lower

pub returns-clause-noted : goal.returns-clause-noted
returns-clause-noted c =
    let f = field_in c.args.arena.now in
    let fields = map f c.args.entries.now in
    all_at_end f
    (λ (g : FieldTree). IsSettled (first_in c.args.heads.now fields) (label_in c.args.heads.now fields) g
    ⊎ AtMost c.loop-entry.self.least g.at)
    c.args.entries.now fields c.loop-entry.entry-index
    refl c.loop-entry-test.false c.loop-entry.invariant.noted

pub returns-clause-best : goal.returns-clause-best
returns-clause-best c = c.loop-entry.invariant.best
