use Rattle.hq_laws_copy.proofs.Fits.Answers.{catalog_fits}
use Rattle.hq_laws_copy.proofs.fit_laws.copied_metadata_fits.Goals as goal

pub returns : goal.returns
returns c = catalog_fits
