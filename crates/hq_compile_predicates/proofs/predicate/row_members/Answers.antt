use Rattle.std.proofs.lemmas.Result.{IfOk-weaker}
use Rattle.hq_sql_tree.specs.View.{pred_view}
use Rattle.hq_compile_tables.proofs.Members.{two_members}
use Rattle.hq_compile_predicates.proofs.predicate.row_members.Goals as goal

pub returns-clause-members : goal.returns-clause-members
returns-clause-members c =
    IfOk-weaker c.with_member.result _ _
    (λ all is. two_members _ _ (pred_view c.args.tie) _ _ is c.in_ok-members.ensures c.in_ok-filter.ensures.predicate)
    c.with_member.ensures
