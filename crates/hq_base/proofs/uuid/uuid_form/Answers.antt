use Rattle.std.proofs.Common.{◌∙◌, sym}
use Rattle.hq_base.proofs.Uuids.{spelled_bytes}
use Rattle.hq_base.proofs.uuid.uuid_form.Goals as goal

pub form_of-requires : goal.form_of-requires
form_of-requires c = spelled_bytes 0 0 c.within_braces-bytes.result.now (sym c.spells.ensures ∙ c.if-not-spells.false)
