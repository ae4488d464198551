use Rattle.std.proofs.Common.{◌∙◌, ◌+◌, [], ap}
use Rattle.std.proofs.lemmas.Result.{IfOk-weaker}
use Rattle.hq_model.specs.Bexp.{bexp_view}
use Rattle.hq_model.specs.Schema.{table}
use Rattle.hq_sql_tree.specs.Tree.{PredTree}
use Rattle.hq_translation.specs.Conditions.{with_member}
use Rattle.hq_translation.specs.Masks.{filter_numbers, filter_predicate, where_mode}
use Rattle.hq_translation.specs.Predicates.{predicate}
use Rattle.hq_compile_tables.specs.Contexts.{context_schema, context_granted}
use Rattle.hq_compile_tables.proofs.Members.{three_members}
use Rattle.hq_compile_tables.specs.Shown.{look_in}
use Rattle.hq_compile_lists.specs.Starts.{start_tie}
use Rattle.hq_compile_lists.proofs.list.list_members.Goals as goal

-- the numbers of `where` begin behind the filter's
pub returns-clause-members : goal.returns-clause-members
returns-clause-members c =
    let s = context_schema c.args.context.now in
    let g = context_granted c.args.context.now in
    let t = c.args.t in
    let n = c.args.n in
    let tie = start_tie s c.args.start.now n in
    let filter = filter_predicate s g t n c.args.next.now in
    let wanted = predicate (bexp_view c.args.start.now.args.now.filter) s (where_mode s g) (look_in c.args.places.now (table s t).columns n) t n in
    IfOk-weaker c.with_member.result _ _
    (λ all is. three_members _ _ tie filter (wanted (c.args.next.now + filter_numbers s g t)) _ is
    (c.in_ok-members.ensures.members ∙ ap (λ (p : PredTree). with_member p (with_member filter [])) c.in_ok-tie.ensures)
    (c.in_ok-wanted.ensures.predicate ∙ ap wanted c.in_ok-members.ensures.numbers))
    c.with_member.ensures
