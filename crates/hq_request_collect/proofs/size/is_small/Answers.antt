use Rattle.std.proofs.Common.{◌∙◌, ap, map}
use Rattle.std.specs.Prelude.{is_some}
use Rattle.hq_request_collect.specs.Seen.{document_of}
use Rattle.hq_gql_tree.specs.Selections.{selection_view}
use Rattle.hq_request_collect.specs.Size.{fields, depth, left_after, is_small}
use Rattle.hq_request_collect.proofs.Sizes.{room, fits}
use Rattle.hq_request_collect.proofs.size.is_small.Goals as goal

pub returns : goal.returns
unfolding is_small
returns c =
    let d = document_of c.args.fragments.now in
    let ss = map selection_view c.args.selections.now in
    c.is_some.ensures ∙ ap is_some c.left_after.ensures ∙ fits (depth 51 d ss) 50 (fields 51 d ss) 5000 (left_after 50 d ss 5000) (room 50 d ss 5000)
