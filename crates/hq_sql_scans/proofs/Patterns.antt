-- What LIKE says by patterns that were read before.
use Rattle.std.proofs.Common.{◌≡◌, ◌∙◌, List, [], ◌∷◌, ℕ, Bool, Option, None, Some, IfSome, sym, ap₂}
use Rattle.hq_base.specs.Cells as cell
use Rattle.hq_base.specs.Cells.{CellTree}
use Rattle.hq_model.specs.Logic.{matched}
use Rattle.hq_model.specs.Tests.{test_truth}
use Rattle.hq_model.specs.declared.test.Test.{Test}
use Rattle.hq_model.specs.declared.test.Test.TheVariants.{Like}
use Rattle.hq_model.specs.declared.truth.Truth.{Truth}
use Rattle.hq_sql_tree.specs.Meaning.{Scope as Names, value}
use Rattle.hq_sql_tree.specs.Tree as tree
use Rattle.hq_sql_tree.specs.Tree.{ExprTree}

-- of a text as the operand it says that of the text as the pattern
pub like_told : (o : Option Truth) (t : Test) (fold : Bool) (c : CellTree) (e : ExprTree) (p : List ℕ) → t ≡ Like fold → e ≡ tree.text p
    → IfSome o (λ x. x ≡ matched fold c (cell.text p)) → IfSome o (λ x. (n : Names) → x ≡ test_truth t c (value e [] n ∷ []))
like_told None t fold c e p is same h = h
like_told (Some x) t fold c e p is same h = λ n. h ∙ ap₂ (λ u v. test_truth u c (value v [] n ∷ [])) (sym is) (sym same)
