use Rattle.hq_copy.specs.Redacting.{copy_due, redacted_view}
use Rattle.hq_load.specs.Loading.{loaded_view}
use Rattle.hq_command_copy.proofs.Back.{on_any, text_back}
use Rattle.hq_command_copy.proofs.Ended.{given_told, refused_told}
use Rattle.hq_command_copy.specs.Copying.{TextReadsBack}
use Rattle.hq_command_copy.proofs.copying.text_of.Goals as goal

pub returns-in-Ok-clause-due : goal.returns-in-Ok-clause-due
returns-in-Ok-clause-due c =
    let held = loaded_view c.args.loaded in
    given_told c.args.name.now (copy_due held.tables held.meta c.args.session.now held.rows) (redacted_view c.in-Ok.copy) c.part_of.result c.in-Ok.ensures.due c.part_of.ensures.due

pub returns-in-Ok-clause-read_back : goal.returns-in-Ok-clause-read_back
returns-in-Ok-clause-read_back c =
    let held = loaded_view c.args.loaded in
    on_any (TextReadsBack c.args.session.now c.args.name.now held) c.part_of.result
    (text_back c.parts_are_read_back.ensures held.tables held.meta c.args.session.now held.rows c.args.name.now (redacted_view c.in-Ok.copy)
    c.args.loaded.catalog.valid c.args.loaded.fits c.args.loaded.database c.in-Ok.ensures.due c.part_of.ensures.clean)

pub returns-in-Err-clause-due : goal.returns-in-Err-clause-due
returns-in-Err-clause-due c =
    let held = loaded_view c.args.loaded in
    refused_told c.args.name.now (copy_due held.tables held.meta c.args.session.now held.rows) c.in-Err.refusal c.not_copied.result
    c.in-Err.ensures.due c.in-Err.ensures.failed c.not_copied.ensures
