use Rattle.std.proofs.Common.{◌≡◌, ◌∙◌, map, sym, ap, subst}
use Rattle.std.specs.Prelude.{option_map}
use Rattle.hq_model.specs.Grants.{Grants, grants_of}
use Rattle.hq_model.specs.Meta.{meta_view}
use Rattle.hq_model.specs.PermView.{permission_view}
use Rattle.hq_model.specs.Schema.{Schema, schema_of}
use Rattle.hq_sql_tree.specs.View.{select_view}
use Rattle.hq_confine_rules.specs.Faults.{faults, worst}
use Rattle.hq_laws_confine.specs.Meaning.Laws.{AreWritten}
use Rattle.hq_confine_uses.specs.Views.{faulted}
use Rattle.hq_confine.proofs.Yes.{no_fault, shows}
use Rattle.hq_confine.proofs.check.confine.Goals as goal

-- without a fault the law of confined statements holds of it
pub returns-clause-same : goal.returns-clause-same
returns-clause-same c =
    let tables = c.args.catalog.now.tables in
    let m = meta_view c.args.meta.now in
    let q = select_view c.args.statement.now in
    let s : Schema = schema_of tables m in
    let g : Grants = grants_of c.args.session.now tables m in
    let seen : map (option_map permission_view) c.deref.result.now ≡ g = ap (map (option_map permission_view)) c.deref.ensures.value ∙ c.in_ok-views.ensures in
    let written : AreWritten s g = subst (AreWritten s) seen c.in_ok-write_grants.ensures in
    let found : faulted c.in_ok-found.found ≡ worst (faults s g q) = c.in_ok-found.ensures ∙ ap (λ (l : Grants). worst (faults s l q)) seen in
    shows c.verdict_of.result (faulted c.in_ok-found.found) tables m g q c.verdict_of.ensures
    (λ none d e is_d is_e agree. c.confined_statements_mean_the_same.ensures tables m g d e q c.args.catalog.now.valid is_d is_e written c.requires
    (no_fault (faults s g q) (sym found ∙ none)) agree)
