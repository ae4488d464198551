-- The text is UTF-8, and serde_json holds of it the data of the value in name order.
use Rattle.std.proofs.Common.{ap, ◌∙◌}
use Rattle.hq_base.specs.Body.{body_of}
use Rattle.hq_base.proofs.Reading.{body_of-value}
use Rattle.hq_laws_written.proofs.Json.Texts.{data_of, same_text}
use Rattle.hq_laws_written.proofs.Json.Printed.{read_printed, utf8}
use Rattle.hq_laws_written.proofs.Json.Ordered.{held_in_order}
use Rattle.hq_laws_written.proofs.Json.Valued.{valued}
use Rattle.serde_json.specs.Written.{compact_text}
use Rattle.hq_laws_written.proofs.compact.compact_text_is_read_back.Goals as goal

pub returns : goal.returns
returns c = λ j h. ap body_of (same_text j)
    ∙ body_of-value (compact_text (data_of j)) _ (utf8 j h.clean) (read_printed j h.clean h.shallow ∙ held_in_order j h.clean h.distinct)
    ∙ valued j h.clean
