use Rattle.std.proofs.Common.{◌≡◌, ◌∙◌, sym, ap, subst, refl, map, IfOk}
use Rattle.hq_gql_tree.specs.Selections.{selection_view}
use Rattle.hq_request_collect.specs.Seen.{request_seen}
use Rattle.hq_request_collect.specs.Tree.{CollectedTrees, fields_of, collected_down}
use Rattle.hq_request_collect.specs.TreeSeen.{collected_view, trees_of}
use Rattle.hq_request_collect.proofs.Levels.{tree_some}
use Rattle.hq_request_collect.proofs.tree.collected_tree.Goals as goal

pub returns : goal.returns
returns c =
    let r = request_seen c.args.request.now in
    let ss = map selection_view c.args.selections.now in
    subst (λ (ts : CollectedTrees). IfOk c.fields_of.result (λ v. trees_of (map collected_view v.items) ≡ ts))
    (ap (fields_of (collected_down 50 49 r)) c.in_ok-groups.ensures ∙ sym (tree_some 50 49 r ss refl)) c.fields_of.ensures
