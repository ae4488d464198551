-- One more mark.
use Rattle.std.proofs.Common.{◌≡◌, ◌⊎◌, inl, refl, List, ℕ, subst, true}
use Rattle.std.specs.List.{Contains}
use Rattle.std.proofs.lemmas.List.{take_all}
use Rattle.hq_rules_overlap.specs.Exploring.{is_marked}
use Rattle.hq_rules_overlap.proofs.Marks.{marks_more}
use Rattle.hq_rules_overlap.proofs.groups.mark_all.Goals as goal

pub loop-number-init : goal.loop-number-init
loop-number-init c = λ s h. inl h

pub loop-number-preserved : goal.loop-number-preserved
loop-number-preserved c =
    marks_more c.args.numbers.now c.loop-number.number-index _ 0 c.args.marks.now.items c.loop-number.marks.items c.mark.new.marks.items
    c.loop-number-test.true refl c.mark.ensures c.loop-number.invariant

pub returns : goal.returns
returns c = λ s h.
    subst (λ (ns : List ℕ). (is_marked c.args.marks.now.items s ≡ true) ⊎ Contains ns s) (take_all c.loop-number.number-index c.args.numbers.now c.loop-number-test.false) (c.loop-number.invariant s h)
