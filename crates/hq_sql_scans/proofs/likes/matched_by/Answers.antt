use Rattle.std.proofs.Common.{◌∙◌, ap, ℕ, List, Bool}
use Rattle.hq_base.specs.Cells.{text as text_cell}
use Rattle.hq_model.specs.Logic.{matched}
use Rattle.hq_sql_cells.specs.View.{cell_view}
use Rattle.hq_sql_scans.proofs.likes.matched_by.Goals as goal

pub returns-in-Some : goal.returns-in-Some
returns-in-Some c =
    c.like_truth.ensures ∙ ap (λ (m : List ℕ × Bool). matched m.1 (cell_view c.args.cell.now) (text_cell m.0)) c.in-Some.ensures
