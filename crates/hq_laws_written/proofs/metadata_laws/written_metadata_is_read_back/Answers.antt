-- The text is read as the metadata's value in name order, whose entries give the metadata.
use Rattle.std.proofs.Common.{◌∙◌, ap}
use Rattle.hq_base.specs.Due.{and_then}
use Rattle.hq_load_meta.specs.Reading.{json_in, meta_due, meta_of}
use Rattle.hq_laws_written.specs.Metadata.Written.{meta_json}
use Rattle.hq_laws_written.proofs.Metadata.Whole.{is_readable, meta_back}
use Rattle.hq_laws_written.proofs.metadata_laws.written_metadata_is_read_back.Goals as goal

pub returns : goal.returns
unfolding meta_due
returns c = λ tables m h.
    ap (λ r. and_then (meta_of tables) (json_in r)) (c.compact_text_is_read_back.ensures (meta_json tables m) (is_readable tables m h)) ∙ meta_back tables m h
