use Rattle.std.proofs.Common.{map, rules}
use Rattle.hq_copy_tables.specs.Originals.{meta_in, role_in, schema_in}
use Rattle.hq_copy_tables.specs.Views.{source_view}
use Rattle.hq_model.specs.PermView.{permission_view}
use Rattle.hq_copy.proofs.Planned.{described_told, filter_told, granted_is, none_described}
use Rattle.hq_copy.proofs.redacting.planned.Goals as goal

pub returns-in_err-grants-clause-refused : goal.returns-in_err-grants-clause-refused
returns-in_err-grants-clause-refused c =
    let o = c.args.original.now in
    let told =
    filter_told (role_in o) (meta_in o) (schema_in o) c.args.session.now.vars (map source_view o.sources.now) c.requires.seen c.in_err-grants.field-0.0 c.in_err-grants.ensures in
    search rules

pub returns-in_err-check_plan-clause-refused : goal.returns-in_err-check_plan-clause-refused
returns-in_err-check_plan-clause-refused c =
    let o = c.args.original.now in
    let told =
    described_told (role_in o) (meta_in o) (schema_in o) c.args.session.now.vars (map source_view o.sources.now) c.requires.seen (map permission_view c.in_ok-grants.grants)
    c.in_err-check_plan.field-0.0 c.in_ok-grants.ensures c.in_err-check_plan.ensures in
    search rules

pub returns-clause-plan : goal.returns-clause-plan
returns-clause-plan c =
    let o = c.args.original.now in record {
      tables = c.in_ok-tables.ensures;
      meta = c.in_ok-meta.ensures;
      granted =
          granted_is (role_in o) (meta_in o) (schema_in o) c.args.session.now.vars (map source_view o.sources.now) c.requires.seen
          (map permission_view c.in_ok-grants.grants) c.in_ok-grants.ensures;
      described = c.in_ok-check_plan.ensures;
    }

pub returns-clause-refused : goal.returns-clause-refused
returns-clause-refused c =
    let o = c.args.original.now in
    none_described (role_in o) (meta_in o) (schema_in o) c.args.session.now.vars (map source_view o.sources.now) c.requires.seen (map permission_view c.in_ok-grants.grants) c.in_ok-grants.ensures
    c.in_ok-check_plan.ensures
