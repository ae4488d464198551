use Rattle.std.proofs.Common.{◌∙◌, [], List, ap}
use Rattle.std.proofs.lemmas.Result.{IfOk-weaker}
use Rattle.hq_model.specs.Schema.{table}
use Rattle.hq_sql_tree.specs.Tree.{PredTree}
use Rattle.hq_translation.specs.Conditions.{joined_by_and, with_member}
use Rattle.hq_translation.specs.Masks.{filter_predicate}
use Rattle.hq_compile_tables.specs.Contexts.{context_schema, context_granted}
use Rattle.hq_compile_lists.proofs.Keys.{key_members_as}
use Rattle.hq_compile_lists.proofs.start.keyed_members.Goals as goal

pub returns-clause-members : goal.returns-clause-members
returns-clause-members c =
    let s = context_schema c.args.context.now in
    let g = context_granted c.args.context.now in
    let t = c.args.t in
    let shown = c.table_shown-shown.ensures in
    let keys = c.in_ok-key_members.ensures
    ∙ key_members_as c.table_shown-shown.result (table s t).columns c.args.n c.args.places.now (table s t).key c.key.result.now c.args.key.now shown.columns shown.number shown.places c.key.ensures in
    let tie = c.joined_by_and-tie.ensures ∙ ap (λ (ps : List PredTree). joined_by_and ps) keys in
    IfOk-weaker c.row_members.result _ _
    (λ all is. is ∙ ap (λ (p : PredTree). with_member p (with_member (filter_predicate s g t c.args.n c.args.next.now) [])) tie)
    c.row_members.ensures.members
