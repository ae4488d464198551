use Rattle.std.proofs.Common.{◌≡◌, ◌∙◌, ap, subst, sym, map, List, IfOk}
use Rattle.hq_request_collect.proofs.Views.{listed_back}
use Rattle.hq_request_coerce.specs.Variables.{var_view}
use Rattle.hq_request_collect.specs.Collect.{Request}
use Rattle.hq_request_collect.specs.Seen.{document_of}
use Rattle.hq_request_collect.specs.Tree.{CollectedTrees, collected_tree}
use Rattle.hq_request_collect.specs.TreeSeen.{collected_view, trees_of}
use Rattle.hq_gql_tree.specs.Selections.{selection_view}
use Rattle.hq_gql_tree.specs.declared.selection.Selection.{Selection}
use Rattle.hq_request_build.proofs.request.tree_of.Goals as goal

pub returns : goal.returns
returns c =
    let r : Request = record { document = document_of c.args.fragments.now; vars = map var_view c.args.vars.now } in
    subst (λ (ts : CollectedTrees). IfOk c.collected_tree.result (λ v. trees_of (map collected_view v.items) ≡ ts))
    (ap (λ (ss : List Selection). collected_tree r (map selection_view ss)) c.deref.ensures.value
    ∙ ap (collected_tree r) (sym (listed_back (map selection_view c.args.operation.now.selections.items))))
    c.collected_tree.ensures
