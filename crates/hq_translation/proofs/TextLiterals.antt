-- The literal of a text, by the type that it is compared with.
use Rattle.std.proofs.Common.{ℕ, List, Bool, true, false, cond}
use Rattle.hq_base.specs.Types.{is_uuid}
use Rattle.hq_base.specs.declared.value.Ty.{Ty}
use Rattle.hq_sql_tree.specs.Tree.{ExprTree, text, uuid}
use Rattle.hq_translation.specs.Conditions.{text_literal}

-- what holds of the literals of both types holds of it
pub of_either : (P : ExprTree → Type 0) (ty : Ty) (s : List ℕ) → P (text s) → P (uuid s) → P (text_literal ty s)
of_either P ty s plain own = by (is_uuid ty)
  where
    by : (b : Bool) → P (cond b (uuid s) (text s))
    by true = own
    by false = plain
