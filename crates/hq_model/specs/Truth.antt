-- The truth of a boolean expression at a row (Hasura, Filter query results: boolean expressions; PostgreSQL, logical and comparison operators).
use Rattle.std.specs.Prelude.{ℕ, map, ◌&&◌, Bool}
use Rattle.std.specs.List.{list_any}
use Rattle.hq_base.specs.Cells.{CellTree, null, cell_of}
use Rattle.hq_model.specs.declared.bexp.Operand.{Operand}
use Rattle.hq_model.specs.declared.bexp.Operand.TheVariants.{Const, Session}
use Rattle.hq_model.specs.Bexp.{BexpTree, always, and_of, or_of, not_of, test, through, exists_in, two_columns, BexpTrees, no_bexp, bexp, operands_of}
use Rattle.hq_model.specs.Logic.{Truth, Yes, No, is_true, truth_of, not3, and3, or3, negated_if, compared}
use Rattle.hq_model.specs.Schema.{Schema, rel}
use Rattle.hq_model.specs.Seen.{Sees}
use Rattle.hq_model.specs.Tests.{test_truth}

-- the cell of an operand; a session variable that is not bound is NULL
abbrev pub operand_cell : Operand → CellTree
operand_cell (Const v) = cell_of v
operand_cell (Session name) = null

-- the truth at a row x of table t, over what is seen
abbrev mutual
  pub truth : {R : Type 0} → BexpTree → Schema → Sees R → ℕ → R → Truth
  truth always s S t x = Yes
  truth (and_of bs) s S t x = truth_of_all bs s S t x
  truth (or_of bs) s S t x = truth_of_any bs s S t x
  truth (not_of b) s S t x = not3 (truth b s S t x)
  truth (test c tested vs negated) s S t x = negated_if negated (test_truth tested (S.cell t x c) (map operand_cell (operands_of vs)))
  truth (through r b) s S t x =
      truth_of (list_any (λ far. S.linked t r x far && is_true (truth b s S (rel s t r).remote far)) (S.rows (rel s t r).remote))
  truth (exists_in u b) s S t x = truth_of (list_any (λ other. is_true (truth b s S u other)) (S.rows u))
  truth (two_columns l op r) s S t x = compared op (S.cell t x l) (S.cell t x r)

  -- And over a list: true where it is empty
  pub truth_of_all : {R : Type 0} → BexpTrees → Schema → Sees R → ℕ → R → Truth
  truth_of_all no_bexp s S t x = Yes
  truth_of_all (bexp b bs) s S t x = and3 (truth b s S t x) (truth_of_all bs s S t x)

  -- Or over a list: false where it is empty
  pub truth_of_any : {R : Type 0} → BexpTrees → Schema → Sees R → ℕ → R → Truth
  truth_of_any no_bexp s S t x = No
  truth_of_any (bexp b bs) s S t x = or3 (truth b s S t x) (truth_of_any bs s S t x)

-- whether a row is kept
abbrev pub keeps : {R : Type 0} → BexpTree → Schema → Sees R → ℕ → R → Bool
keeps b s S t x = is_true (truth b s S t x)
