use Rattle.std.proofs.Common.{◌∙◌, ap₂}
use Rattle.hq_model.specs.Database.{is_database}
use Rattle.hq_model.specs.Fits.{fits}
use Rattle.hq_generator.proofs.Valid.{database_valid, metadata_fits}
use Rattle.hq_generator.proofs.generated.generate.Goals as goal

pub invariant_of-result : goal.invariant_of-result
invariant_of-result c = record {
  database =
      ap₂ is_database c.in_ok-catalog.ensures c.in_ok-rows.ensures
      ∙ database_valid c.args.authors c.requires.some c.requires.few;
  fits = ap₂ fits c.in_ok-catalog.ensures c.in_ok-meta.ensures ∙ metadata_fits;
}
