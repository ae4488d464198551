use Rattle.std.proofs.Common.{◌≡◌, ◌∙◌, refl, ap, Option, Some, None}
use Rattle.std.specs.Prelude.{option_map, option_and_then, slice_get}
use Rattle.std.proofs.lemmas.Result.{IfOk-weaker}
use Rattle.hq_model.specs.Meta.{meta_view}
use Rattle.hq_model.specs.Permission.{Permission, permission}
use Rattle.hq_model.specs.declared.table.Table.{Table}
use Rattle.hq_request_tree.specs.Request.{BoundTree, bound_view}
use Rattle.hq_model_limits.specs.Limits.{limit_under}
use Rattle.hq_compile.specs.GrantedTrees.{GrantedTree, granted_with, granted_under}
use Rattle.hq_compile.proofs.grants.granted_for.Goals as goal

-- of a permission its limit is enough
limit_alone : (b : BoundTree) (o : Option Permission) → option_map (granted_with b) (limit_under o) ≡ option_map (granted_under b) o
limit_alone b None = refl
limit_alone b (Some p) = refl

pub returns-in-Some : goal.returns-in-Some
returns-in-Some c =
    let b : BoundTree = bound_view c.args.bound.now in
    let p : Option Permission = permission c.args.role.now (meta_view c.args.meta.now) c.args.bound.now.table in
    let there : Some c.in-Some.field-0.now ≡ slice_get c.args.catalog.now.tables c.args.bound.now.table = c.in-Some.ensures in
    let under : Option Table → Option GrantedTree = λ o. option_and_then (λ table. option_map (granted_under b) p) o in
    IfOk-weaker c.with_limit.result _ _ (λ g is. is ∙ ap (option_map (granted_with b)) c.limit_of.ensures ∙ limit_alone b p ∙ ap under there) c.with_limit.ensures
