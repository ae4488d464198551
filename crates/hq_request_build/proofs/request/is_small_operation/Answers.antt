use Rattle.std.proofs.Common.{◌∙◌, ap, sym, map, List}
use Rattle.hq_request_collect.proofs.Views.{listed_back}
use Rattle.hq_request_collect.specs.Seen.{document_of}
use Rattle.hq_request_collect.specs.Size.{is_small}
use Rattle.hq_gql_tree.specs.Selections.{selection_view}
use Rattle.hq_gql_tree.specs.declared.selection.Selection.{Selection}
use Rattle.hq_request_build.proofs.request.is_small_operation.Goals as goal

pub returns : goal.returns
returns c =
    let d = document_of c.args.fragments.now in
    c.is_small.ensures
    ∙ ap (λ (ss : List Selection). is_small d (map selection_view ss)) c.deref.ensures.value
    ∙ ap (is_small d) (sym (listed_back (map selection_view c.args.operation.now.selections.items)))
