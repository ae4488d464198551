use Rattle.std.proofs.Common.{◌∙◌, ap, List}
use Rattle.hq_gql_tree.specs.Selections.{FieldTree}
use Rattle.hq_request_collect.specs.Collect.{Collected, collect_all, none}
use Rattle.hq_request_collect.specs.Seen.{request_seen, all_seen}
use Rattle.hq_request_collect.proofs.Merged.{collected_merged}
use Rattle.hq_request_collect.proofs.tree.collect_below.Goals as goal

pub returns : goal.returns
returns c =
    let r = request_seen c.args.request.now in
    let fs : List FieldTree = all_seen c.args.nodes.now in
    ap (λ (x : Collected). x.groups) (c.in_ok-collect_nodes.ensures ∙ ap (collect_all 50 r fs) c.new-collected.ensures ∙ collected_merged r fs none)
