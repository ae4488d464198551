use Rattle.std.proofs.Common.{◌∙◌, false, filter, get_or, ap, subst}
use Rattle.std.proofs.lemmas.Result.{IfOk-weaker}
use Rattle.hq_load_index.specs.Indexes.{columns_of}
use Rattle.hq_sql_scans.specs.Positions.{positions_of}
use Rattle.hq_sql_constants.specs.Sifted.{MarksAll}
use Rattle.hq_sql_constants.proofs.Chosen.{marked_at}
use Rattle.hq_sql_constants.proofs.sifted.sifted_by_index.Goals as goal

pub returns : goal.returns
returns c =
    let own = columns_of c.args.index.now in
    let marks = c.in_ok-marks.marks.items in
    let all : MarksAll c.args.rows.now own c.args.asked.now.values.items marks =
    subst (λ xs. MarksAll c.args.rows.now own xs marks) c.as_slice-values.ensures.value c.in_ok-marks.ensures in
    IfOk-weaker c.places_marked.result _ _
    (λ places chosen. marked_at _ _ _ _ _ c.args.stored c.args.positions _ _ places.items _ own marks
    c.requires.rows c.requires.asks c.requires.first c.requires.joined c.requires.columns all
    (chosen ∙ ap (λ bs. filter (λ k. get_or bs k false) (positions_of c.args.positions)) c.as_slice-marked.ensures.value))
    c.places_marked.ensures
