-- One more set is of the class, and all are.
use Rattle.std.proofs.Common.{rules, ◌≡◌, ℕ, get_or, refl}
use Rattle.hq_overlap_classes.specs.Disputes.{class_of}
use Rattle.hq_overlap_sets.proofs.Stepping.{all_more, all_at_end_itself}
use Rattle.hq_overlap_classes.proofs.disputes.Disputes.fits_spreads.Goals as goal

pub loop-spread-preserved : goal.loop-spread-preserved
loop-spread-preserved c =
    let of_class = λ (u : ℕ). class_of c.args.self.now.classes.sets u ≡ c.args.class in
    let now : class_of c.args.self.now.classes.sets (get_or c.args.spreads.now c.loop-spread.spread-index 0) ≡ c.args.class = search rules in
    all_more of_class of_class (λ u h. h) c.args.spreads.now c.loop-spread.spread-index 0 c.loop-spread-test.true c.loop-spread.invariant now

pub returns : goal.returns
returns c =
    λ _. all_at_end_itself (λ (u : ℕ). class_of c.args.self.now.classes.sets u ≡ c.args.class) c.args.spreads.now c.args.spreads.now
    c.loop-spread.spread-index refl c.loop-spread-test.false c.loop-spread.invariant
