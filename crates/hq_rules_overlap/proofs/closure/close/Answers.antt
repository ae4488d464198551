-- One more set has what it spreads in the group.
use Rattle.std.proofs.Common.{◌∙◌, ap, List, ℕ, sym, refl}
use Rattle.std.specs.Prelude.{slice_get}
use Rattle.hq_overlap_sets.specs.Pairs.{spreads_at}
use Rattle.hq_overlap_sets.specs.Sets.{arena_view}
use Rattle.hq_rules_overlap.proofs.Growth.{contains_at, grows_kept, still_together, no_spreads, spreads_more, all_spreads}
use Rattle.hq_rules_overlap.proofs.closure.close.Goals as goal

pub loop-at-init : goal.loop-at-init
loop-at-init c = record { has = λ s h. h; together = c.requires; spreads = no_spreads (arena_view c.args.arena.now) c.args.group.now.items }

pub loop-at-preserved : goal.loop-at-preserved
loop-at-preserved c =
    let sets = arena_view c.args.arena.now in
    let old = c.loop-at.group.items in
    let new = c.add_spreads.new.group.items in
    let s = c.in-Some.set in
    let at = ap (λ (xs : List ℕ). slice_get xs c.loop-at.at) (sym c.deref.ensures.value) ∙ sym c.in-Some.ensures in
    let stands = contains_at old c.loop-at.at s s at refl in
    record {
      has = λ x h. grows_kept (spreads_at sets s) old new c.in_ok-add_spreads.ensures x (c.loop-at.invariant.has x h);
      together = still_together sets s old new c.loop-at.invariant.together stands c.in_ok-add_spreads.ensures;
      spreads = spreads_more sets old new c.loop-at.at s at c.in_ok-add_spreads.ensures c.loop-at.invariant.spreads;
    }

pub returns-in_default-clause-has : goal.returns-in_default-clause-has
returns-in_default-clause-has c = c.loop-at.invariant.has

pub returns-in_default-clause-closed : goal.returns-in_default-clause-closed
returns-in_default-clause-closed c =
    let none = ap (λ (xs : List ℕ). slice_get xs c.loop-at.at) (sym c.deref.ensures.value) ∙ sym c.in_default.ensures in
    all_spreads (arena_view c.args.arena.now) c.loop-at.group.items c.loop-at.at none c.loop-at.invariant.spreads

pub returns-in_default-clause-together : goal.returns-in_default-clause-together
returns-in_default-clause-together c = c.loop-at.invariant.together
