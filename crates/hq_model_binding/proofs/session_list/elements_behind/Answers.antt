use Rattle.std.proofs.Common.{◌∙◌}
use Rattle.hq_model_binding.proofs.ListsRead.{reads_first, reads_on, reads_last, reads_more, reads_wrong}
use Rattle.hq_model_binding.proofs.session_list.elements_behind.Goals as goal
use Rattle.hq_model_binding.proofs.session_list.elements_behind.Goals.{then-at-bytes, else-at-bytes}

-- nothing is read
pub loop-at-init : goal.loop-at-init
loop-at-init c = reads_first c.at_element-reader.result c.new.result c.args.bytes.now c.at_element-reader.ensures c.new.ensures

-- a byte is read
pub loop-at-preserved : goal.loop-at-preserved
loop-at-preserved c =
    reads_on c.loop-at.reader c.args.bytes.now c.loop-at.at _ c.loop-at-test.true c.loop-at.invariant c.in_ok-next.field-0 c.in-On.next c.in_ok-next.ensures c.in-On.is

-- the bracket at the end
pub returns-in-Over : goal.returns-in-Over
returns-in-Over c =
    elim c.if-at-bytes.branch [
      | then-at-bytes w ↦
          w.result-is
          ∙ reads_last c.loop-at.reader c.args.bytes.now c.loop-at.at _ c.loop-at-test.true c.loop-at.invariant c.in_ok-next.field-0
          c.in-Over.elements c.in_ok-next.ensures c.in-Over.is w.if-at-bytes.true
      | else-at-bytes w ↦
          w.result-is
          ∙ reads_more c.loop-at.reader c.args.bytes.now c.loop-at.at _ c.loop-at-test.true c.loop-at.invariant c.in_ok-next.field-0
          c.in-Over.elements c.in_ok-next.ensures c.in-Over.is w.if-at-bytes.false
    ]

-- a byte that stands in no list
pub returns-in-Wrong : goal.returns-in-Wrong
returns-in-Wrong c =
    reads_wrong c.loop-at.reader c.args.bytes.now c.loop-at.at _ c.loop-at-test.true c.loop-at.invariant c.in_ok-next.field-0 c.in_ok-next.ensures c.in-Wrong.is
