use Rattle.std.proofs.Common.{◌∙◌, ap, map}
use Rattle.std.proofs.lemmas.Result.{IfOk-weaker}
use Rattle.hq_model.specs.Meta.{meta_view}
use Rattle.hq_request_tree.specs.Request.{ask_view, bound_view}
use Rattle.hq_compile.specs.GrantedTrees.{granted_all}
use Rattle.hq_compile.proofs.GrantedAlike.{granted_alike}
use Rattle.hq_compile.proofs.grants.granted.Goals as goal

pub returns : goal.returns
returns c =
    let tables = c.args.catalog.now.tables in
    let meta = meta_view c.args.meta.now in
    let ask = ask_view c.args.ask.now in
    IfOk-weaker c.granted_all.result _ _
    (λ gs is. granted_alike tables meta ask gs (is ∙ ap (λ bs. granted_all ask.role tables meta (map bound_view bs)) c.as_slice.ensures))
    c.granted_all.ensures
