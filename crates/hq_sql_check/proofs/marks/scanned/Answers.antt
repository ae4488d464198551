use Rattle.std.proofs.Common.{rules, ◌<◌, sym, subst, ◌∙◌}
use Rattle.hq_sql_tree.specs.View.{select_view}
use Rattle.hq_sql_check.proofs.Within.{marks_are}
use Rattle.hq_sql_check.proofs.marks.scanned.Goals as goal

pub returns-clause-marks : goal.returns-clause-marks
returns-clause-marks c =
    let long = c.in_ok-marks.ensures.count in
    marks_are (select_view c.args.select.now) c.args.tables.now c.mark.new.marks.items c.deref.result.now (c.mark.ensures.count ∙ long) (c.deref.ensures.value ∙ search rules)
    (λ t lt. c.mark.ensures.set t (subst (λ n. t < n) (sym long) lt) (c.in_ok-marks.ensures.none t))
