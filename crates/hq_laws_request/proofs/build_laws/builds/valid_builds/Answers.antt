use Rattle.std.proofs.lemmas.Bool.{and_parts}
use Rattle.hq_model.specs.Permission.{role_of}
use Rattle.hq_schema_of_role.specs.RoleSchema.{role_schema}
use Rattle.hq_laws_request.proofs.Built.Law.{valid_built}
use Rattle.hq_laws_request.proofs.build_laws.builds.valid_builds.Goals as goal

pub returns : goal.returns
returns c tables m session catalog fit d name given op vars doc fields choice constants valued =
    valid_built tables m session fit (c.leads_where_permitted.ensures tables m (role_of session.role) (and_parts _ _ (and_parts _ _ (and_parts _ _ fit).0).0).0)
    (c.names_differ.ensures tables m (role_of session.role) catalog fit)
    (c.the_place_is_first.ensures.first (role_schema tables m (role_of session.role))) d vars name given op doc fields choice constants valued
