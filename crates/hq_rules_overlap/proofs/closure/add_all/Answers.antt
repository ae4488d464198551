-- One more number is added.
use Rattle.std.proofs.Common.{List, ℕ, refl, subst}
use Rattle.std.proofs.lemmas.List.{take_all}
use Rattle.hq_rules_overlap.specs.Groups.{Grows}
use Rattle.hq_rules_overlap.proofs.Growth.{grows_nothing, grows_more}
use Rattle.hq_rules_overlap.proofs.closure.add_all.Goals as goal

pub loop-number-init : goal.loop-number-init
loop-number-init c = grows_nothing c.args.list.now.items

pub loop-number-preserved : goal.loop-number-preserved
loop-number-preserved c =
    grows_more c.args.numbers.now c.loop-number.number-index _ 0 c.args.list.now.items c.loop-number.list.items c.add.new.list.items
    c.loop-number-test.true refl c.loop-number.invariant c.in_ok-add.ensures

pub returns : goal.returns
returns c =
    subst (λ (ns : List ℕ). Grows ns c.args.list.now.items c.loop-number.list.items) (take_all c.loop-number.number-index c.args.numbers.now c.loop-number-test.false) c.loop-number.invariant
