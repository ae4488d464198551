use Rattle.std.proofs.Common.{◌≡◌, ◌+◌, drop}
use Rattle.hq_copy_definition.specs.Refusals.{row_refusal}
use Rattle.hq_model.specs.Catalog.{full_name}
use Rattle.hq_copy.proofs.files.check_rows.Given as goal

-- none of the rows so far is refused
abbrev pub invariant-loop-at : goal.invariant-loop-at
invariant-loop-at l =
    row_refusal (full_name l.table) (l.at + 1) (drop l.at l.rows) ≡ row_refusal (full_name l.table) 1 l.rows
