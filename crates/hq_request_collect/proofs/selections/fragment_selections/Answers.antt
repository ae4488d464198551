use Rattle.std.proofs.Common.{◌∙◌, ap, sym, map, Some}
use Rattle.hq_gql_tree.specs.declared.document.Definition.{Definition}
use Rattle.hq_gql_tree.specs.Documents.{definition_view}
use Rattle.hq_gql_tree.specs.Selections.{selection_view}
use Rattle.hq_request_collect.specs.Fragments.{selections_at}
use Rattle.hq_request_collect.proofs.Views.{listed_back}
use Rattle.hq_request_collect.proofs.selections.fragment_selections.Goals as goal

pub returns-in-Fragment : goal.returns-in-Fragment
returns-in-Fragment c =
    ap (map selection_view) c.deref.ensures.value ∙ sym (listed_back (map selection_view c.in-Fragment.fragment.selections.items))
    ∙ sym (ap (λ (d : Definition). selections_at (Some (definition_view d))) c.in-Fragment.is)
