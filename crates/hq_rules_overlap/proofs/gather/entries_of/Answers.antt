-- The fields of one more set.
use Rattle.std.proofs.Common.{List, [], ℕ, refl, sym, subst, map}
use Rattle.std.proofs.lemmas.List.{take_all}
use Rattle.hq_overlap_sets.specs.declared.sets.Entry.{Entry}
use Rattle.hq_overlap_sets.specs.Sets.{field_in, arena_view}
use Rattle.hq_rules_overlap.specs.Groups.{AreOf}
use Rattle.hq_rules_overlap.proofs.Gathering.{of_none, of_more}
use Rattle.hq_rules_overlap.proofs.gather.entries_of.Goals as goal

pub loop-set-init : goal.loop-set-init
loop-set-init c =
    let a = c.args.arena.now in
    subst (λ (es : List Entry). AreOf (arena_view a) [] (map (field_in a) es)) (sym c.new-entries.ensures.items) (of_none (arena_view a))

pub loop-set-preserved : goal.loop-set-preserved
loop-set-preserved c =
    let f = field_in c.args.arena.now in
    of_more (arena_view c.args.arena.now) c.args.group.now c.loop-set.set-index _ 0 (map f c.loop-set.entries.items)
    (map f c.push_fields.new.entries.items) c.loop-set-test.true refl c.in_ok-push_fields.ensures c.loop-set.invariant

pub returns : goal.returns
returns c =
    subst (λ (g : List ℕ). AreOf (arena_view c.args.arena.now) g (map (field_in c.args.arena.now) c.loop-set.entries.items))
    (take_all c.loop-set.set-index c.args.group.now c.loop-set-test.false) c.loop-set.invariant
