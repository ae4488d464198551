-- The text is read as the catalog's value in name order, which has the catalog's form and passes each test.
use Rattle.std.proofs.Common.{◌∙◌, ap}
use Rattle.hq_base.specs.Due.{and_then}
use Rattle.hq_load_catalog.specs.Reading.{catalog_due, catalog_of, json_in}
use Rattle.hq_laws_written.specs.Catalog.Written.{catalog_json}
use Rattle.hq_laws_written.proofs.Catalog.Clean.{catalog_readable}
use Rattle.hq_laws_written.proofs.Catalog.Whole.{catalog_back}
use Rattle.hq_laws_written.proofs.catalog_laws.written_catalog_is_read_back.Goals as goal

pub returns : goal.returns
unfolding catalog_due
returns c = λ tables is clean.
    ap (λ r. and_then catalog_of (json_in r)) (c.compact_text_is_read_back.ensures (catalog_json tables) (catalog_readable tables clean)) ∙ catalog_back tables is
