use Rattle.std.proofs.Common.{◌∙◌, ◌<◌, ◌≤◌, length, map, ap, arith}
use Rattle.std.specs.Prelude.{option_map}
use Rattle.std.proofs.lemmas.List.{map-append}
use Rattle.hq_model.specs.Grants.{grant_of, grants_of}
use Rattle.hq_model.specs.Meta.{meta_view}
use Rattle.hq_model.specs.PermView.{permission_view}
use Rattle.hq_model.specs.Schema.{no_table, schema_table}
use Rattle.hq_model.specs.Described.{scope_schema}
use Rattle.hq_confine.proofs.Granted.{granted_more, granted_all}
use Rattle.hq_confine_uses.proofs.Places.{length-numbered}
use Rattle.hq_confine.proofs.grants.views_of_role.Goals as goal

pub loop-t-preserved : goal.loop-t-preserved
loop-t-preserved c =
    let m = meta_view c.args.scope.now.meta.now in
    let tables = c.args.scope.now.catalog.now.tables in
    let s = scope_schema c.args.scope.now in
    let h = grant_of c.args.session.now m s in
    let view = option_map permission_view in
    let i = c.loop-t.t in
    let within : i < length s = omega (arith, length-numbered (schema_table m) 0 tables, c.len-t-end.ensures) in
    granted_more h s (grants_of c.args.session.now tables m) i (map view c.loop-t.views.items) (map view c.push.new.self.items) (view c.in_ok-view.view) within
    (c.in_ok-view.ensures ∙ ap (λ k. h k no_table) c.new.ensures) (ap (map view) c.in_ok-push.ensures.items ∙ map-append view c.loop-t.views.items _) c.loop-t.invariant

pub returns : goal.returns
returns c =
    let m = meta_view c.args.scope.now.meta.now in
    let tables = c.args.scope.now.catalog.now.tables in
    let s = scope_schema c.args.scope.now in
    let over : length s ≤ c.loop-t.t = omega (arith, length-numbered (schema_table m) 0 tables, c.len-t-end.ensures) in
    granted_all (grant_of c.args.session.now m s) s (grants_of c.args.session.now tables m) c.loop-t.t (map (option_map permission_view) c.loop-t.views.items) over c.loop-t.invariant
