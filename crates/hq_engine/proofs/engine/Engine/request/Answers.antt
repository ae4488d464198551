use Rattle.std.proofs.Common.{◌≡◌, ap, subst, ◌∙◌}
use Rattle.hq_request_tree.specs.Request.{ask_view}
use Rattle.hq_base.specs.Due.{Gives}
use Rattle.hq_request.specs.Request.{request_by}
use Rattle.hq_request.specs.declared.refusal.RequestRefusal.TheVariants.{Memory}
use Rattle.hq_schema_of_role.specs.RoleSchema.{role_schema}
use Rattle.hq_schema.specs.Schema.{SchemaTree, schema_view}
use Rattle.hq_model.specs.Meta.{meta_view}
use Rattle.hq_model.specs.Permission.{role_of}
use Rattle.hq_engine.proofs.Formed.{formed}
use Rattle.hq_engine.proofs.engine.Engine.request.Goals as goal

pub returns-clause-session : goal.returns-clause-session
returns-clause-session c =
    let tables = c.args.self.now.catalog.tables in
    let meta = meta_view c.args.self.now.meta in
    let session = c.args.session.now in
    let body = c.args.body.now in
    let found : schema_view c.get.result.now ≡ role_schema tables meta (role_of session.role) =
    ap schema_view c.get.ensures ∙ c.in_ok-found.ensures ∙ ap (λ r. role_schema tables meta r) c.in_ok-role.ensures in
    formed tables meta session body (λ ask. c.requests_are_formed.ensures tables meta session body ask) c.args.self.now.catalog.valid c.args.self.now.meta_fits c.request.result
    (subst (λ (s : SchemaTree). Gives ask_view Memory (request_by s tables meta session body) c.request.result) found c.request.ensures)
