use Rattle.std.proofs.Common.{◌∙◌, List, ap, map}
use Rattle.hq_copy_tables.specs.Linked.{links_over}
use Rattle.hq_copy_tables.specs.Views.{link_view, source_view}
use Rattle.hq_copy_tables.specs.declared.linked.Link.{Link}
use Rattle.hq_copy_tables.specs.declared.seen.Source.{Source}
use Rattle.hq_model.specs.Meta.{meta_view}
use Rattle.hq_model.specs.Described.{scope_schema}
use Rattle.hq_copy.proofs.redacting.copied_by.Goals as goal

pub copied_for-requires-clause-original : goal.copied_for-requires-clause-original
copied_for-requires-clause-original g c = record {
  seen = ap (λ (os : List Source). map source_view os) c.deref-2.ensures.value ∙ c.in_ok-sources.ensures;
  linked =
      ap (λ (ls : List Link). map link_view ls) c.deref-3.ensures.value ∙ c.in_ok-links.ensures
      ∙ ap (links_over c.in_ok-role.role (meta_view c.args.scope.meta.now) (scope_schema c.args.scope))
      (ap (λ (os : List Source). map source_view os) c.deref.ensures.value ∙ c.in_ok-sources.ensures);
}
