use Rattle.std.proofs.Common.{◌≡◌, ℕ, List, Some, cond, subst, bytes_eq}
use Rattle.hq_model.specs.Meta.{meta_view}
use Rattle.hq_schema_roles.specs.Roles.{kept_for}
use Rattle.hq_schema_roles.proofs.RolesKept.{right_and_one, taken_and_one}
use Rattle.hq_schema_roles.proofs.roles.named_schemas.Goals as goal

pub loop-name-preserved : goal.loop-name-preserved
loop-name-preserved c =
    let old = c.loop-name.kept in
    let new = c.insert.new.self in
    let schema = c.in_ok-schema.schema in
    let put : (q : List ℕ) → kept_for new q ≡ cond (bytes_eq c.name-item.result q) (Some schema) (kept_for old q) =
    subst (λ (key : List ℕ). (q : List ℕ) → kept_for new q ≡ cond (bytes_eq key q) (Some schema) (kept_for old q)) c.in_ok-copy.ensures c.in_ok-insert.ensures.updates.0 in
    let here : kept_for new c.name-item.result ≡ Some schema = subst (λ (key : List ℕ). kept_for new key ≡ Some schema) c.in_ok-copy.ensures c.in_ok-insert.ensures.updates.1 in
    record {
      each = taken_and_one old new c.name-item.result schema put c.args.names.now c.loop-name.name-index c.loop-name-test.true c.name-item.is c.loop-name.invariant.each here;
      right = right_and_one old new c.name-item.result schema put c.args.catalog.now.tables (meta_view c.args.meta.now) c.loop-name.invariant.right c.in_ok-schema.ensures;
    }
