use Rattle.std.proofs.Common.{◌∙◌, true, false, refl, ap, sym}
use Rattle.std.specs.Prelude.{option_map}
use Rattle.std.proofs.lemmas.Option.{slice_get_read}
use Rattle.std.proofs.lemmas.Result.{IfOk-weaker}
use Rattle.hq_copy_text.specs.Parts.{table_text}
use Rattle.hq_copy_text.proofs.TableTexts.{copied_map, other_table, this_table}
use Rattle.hq_laws_written.specs.Tables.Written.{file_of}
use Rattle.hq_copy_text.proofs.parts.table_text.Goals as goal

pub returns-then-branch : goal.returns-then-branch
returns-then-branch c =
    let ts = c.as_slice-tables.result.now in
    let d = c.args.copy.now.rows in
    let t = c.index-tables-at.result in
    let whole = table_text ts d c.args.name.now in
    let at = slice_get_read ts _ c.loop-at.at t refl c.loop-at-test.true c.index-tables-at.is in
    let found = this_table ts d c.loop-at.at t c.args.name.now whole at c.loop-at.invariant (sym c.in_ok-is_named.ensures ∙ c.if-branch.true) in
    let all = ap (λ tables. table_text tables d c.args.name.now) c.as_slice-tables.ensures in
    IfOk-weaker c.file_at.result _ _ (λ text h. h ∙ copied_map (file_of t) c.get.result ∙ ap (option_map (file_of t)) c.get.ensures ∙ found ∙ all) c.file_at.ensures

pub loop-at-preserved : goal.loop-at-preserved
loop-at-preserved c =
    let ts = c.as_slice-tables.result.now in
    let d = c.args.copy.now.rows in
    let t = c.index-tables-at.result in
    let at = slice_get_read ts _ c.loop-at.at t refl c.loop-at-test.true c.index-tables-at.is in
    other_table ts d c.loop-at.at t c.args.name.now (table_text ts d c.args.name.now) at c.loop-at.invariant (sym c.in_ok-is_named.ensures ∙ c.if-branch.false)
