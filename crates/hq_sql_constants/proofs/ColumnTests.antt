-- Conditions that ask one column of a table for something that constants tell.
use Rattle.std.proofs.Common.{◌≡◌, ◌∙◌, ◌<◌, ◌+◌, ℕ, List, [], ◌∷◌, ◌++◌, map, length, get_or, take, sym, ap, ap₂, add-one}
use Rattle.std.proofs.Math.Seq.{take-suc}
use Rattle.std.proofs.lemmas.List.{map-append}
use Rattle.hq_base.specs.Cells.{CellTree}
use Rattle.hq_base.proofs.Lists.{map_map}
use Rattle.hq_load_index.specs.Keys.{cell_in}
use Rattle.hq_model.specs.Tests.{test_truth}
use Rattle.hq_model.specs.declared.table.Column.{Column}
use Rattle.hq_model.specs.declared.test.Test.{Test}
use Rattle.hq_sql_cells.specs.View.{cell_view}
use Rattle.hq_sql_cells.specs.declared.cell.Cell.{Cell}
use Rattle.hq_sql_scans.specs.Links.{IsOwn}
use Rattle.hq_sql_tree.specs.Meaning.{Scope as Names, value}
use Rattle.hq_sql_tree.specs.Tree as tree
use Rattle.hq_sql_tree.specs.Tree.{ExprTree}
use Rattle.hq_sql_tree.specs.View.{expr_view}
use Rattle.hq_sql_tree.specs.declared.expr.Expr.{Expr}
use Rattle.hq_sql_constants.specs.Plain.{IsTest}
use Rattle.hq_sql_constants.specs.declared.plain.ColumnTest.{ColumnTest}

-- ---- constants

-- one constant more
pub constants_more : (exprs : List Expr) (i : ℕ) (e : Expr) (cells : List Cell) (c : Cell) (m : Names) → i < length exprs → e ≡ get_or exprs i e
    → map (λ e. value (expr_view e) [] m) (take i exprs) ≡ map cell_view cells → value (expr_view e) [] m ≡ cell_view c
    → map (λ e. value (expr_view e) [] m) (take (i + 1) exprs) ≡ map cell_view (cells ++ c ∷ [])
constants_more exprs i e cells c m lt is h k =
    let f : Expr → CellTree = λ e. value (expr_view e) [] m in
    let longer : take (i + 1) exprs ≡ take i exprs ++ e ∷ [] = ap (λ n. take n exprs) (add-one i) ∙ take-suc exprs i e lt ∙ ap (λ d. take i exprs ++ d ∷ []) (sym is) in
    ap (map f) longer ∙ map-append f (take i exprs) (e ∷ []) ∙ ap₂ (λ xs x. xs ++ x ∷ []) h k ∙ sym (map-append cell_view cells (c ∷ []))

-- ---- one test

-- a test of a column beside constants
pub test_is : (columns : List Column) (alias : List ℕ) (own : ExprTree) (at : ℕ) (t : Test) (es : List Expr) (x : ColumnTest)
    → IsOwn columns alias own at → ((m : Names) → map (λ e. value (expr_view e) [] m) es ≡ map cell_view x.operands.items)
    → x.column ≡ at → x.test ≡ t → IsTest columns alias (tree.test own t (map expr_view es)) x
test_is columns alias own at t es x is known column same =
    record {
      says = λ w row m here.
          let operands : map (λ e. value e [] m) (map expr_view es) ≡ map cell_view x.operands.items = map_map (λ e. value e [] m) expr_view es ∙ known m in
          ap₂ (λ c ds. test_truth t c ds) (is.cell row m here) operands
          ∙ ap₂ (λ u k. test_truth u (cell_in row k) (map cell_view x.operands.items)) (sym same) (sym column);
    }
