-- It is true of one more set, and of all.
use Rattle.std.proofs.Common.{rules, ◌≡◌, ℕ, length, arith}
use Rattle.std.proofs.lemmas.List.{length-map}
use borrow.Author.Count.{below_more}
use Rattle.hq_schema.specs.Schema.{schema_view}
use Rattle.hq_overlap_classes.specs.Disputes.{IsTrueAt, noted_in}
use Rattle.hq_overlap_sets.specs.Sets.{set_in, arena_view}
use Rattle.hq_overlap_classes.proofs.disputes.Disputes.fits_sets.Goals as goal

pub loop-number-preserved : goal.loop-number-preserved
loop-number-preserved c =
    let a = c.args.arena.now in
    below_more (λ (s : ℕ). IsTrueAt (noted_in (schema_view a.schema.now) c.args.self.now) (arena_view a) s) c.loop-number.number c.loop-number.invariant (c.in_ok-fits.ensures (search rules))

pub returns : goal.returns
returns c =
    let a = c.args.arena.now in
    let e : length (arena_view a) ≡ length a.sets.items = length-map a.sets.items (set_in a) in
    λ _ s h. c.loop-number.invariant s (omega (arith, e, h))
