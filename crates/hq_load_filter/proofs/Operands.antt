-- An operand that is read is one for the test and the column's type.
use Rattle.std.proofs.Common.{◌≡◌, refl, ℕ, ◌+◌, true, List, [], ◌∷◌, Option, Some, None, Result, Ok, Err}
use Rattle.std.specs.Prelude.{⊤, IfOk, IfSome, option_map}
use Rattle.std.specs.List.{list_all}
use Rattle.std.specs.Option.{option_or}
use Rattle.std.specs.Result.{result_ok}
use Rattle.hq_base.specs.Due.{mapped}
use Rattle.hq_base.specs.Json.{JsonTree, null, bool, int, str, arr, obj}
use Rattle.hq_base.specs.Path.{item_path}
use Rattle.hq_base.specs.declared.value.Ty.{Ty}
use Rattle.hq_base.specs.declared.value.Val.{Val}
use Rattle.hq_model.specs.Constants.{constant_in}
use Rattle.hq_model.specs.Filters.{operand_fits}
use Rattle.hq_model.specs.Tests.{applies, reads}
use Rattle.hq_model.specs.Bexp.{operands_of}
use Rattle.hq_model.specs.declared.bexp.Operand.{Operand}
use Rattle.hq_model.specs.declared.bexp.Operands.TheVariants as operands
use Rattle.hq_model.specs.declared.bexp.Operand.TheVariants.{Const, Session}
use Rattle.hq_model.specs.declared.test.Test.{Test}
use Rattle.hq_model.specs.declared.want.Want.{Want}
use Rattle.hq_model.proofs.Tests.{reads_fit, other_fits}
use Rattle.hq_load_filter.specs.declared.refusal.FilterRefusal.TheVariants.{BadOperand}
use Rattle.hq_load_filter.specs.Condition.{operands_by}
use Rattle.hq_load_filter.specs.Each.{each_element}
use Rattle.hq_load_filter.specs.Operand.{text_operand, operand_of, operand_at, operand_read}
use Rattle.hq_load_filter.specs.Variable.{variable_named}
use Rattle.hq_load_filter.proofs.Results.{ok_always, ok_mapped, ok_and_then, ok_given}

-- a session variable, or else a constant that passes a test
either_fits : (Fits : Operand → Type 0) (variable : Option (List ℕ)) (value : Option Val) → ((name : List ℕ) → Fits (Session name))
    → IfSome value (λ v. Fits (Const v)) → IfSome (option_or (option_map Session variable) (option_map Const value)) Fits
either_fits Fits (Some name) value h k = h name
either_fits Fits None (Some v) h k = k
either_fits Fits None None h k = tt

-- a value that was read
read_some : (r : Result Val Want) (P : Val → Type 0) → ((v : Val) → r ≡ Ok v → P v) → IfSome (result_ok r) P
read_some (Ok v) P h = h v refl
read_some (Err w) P h = tt

-- a constant, where there is one
const_some : (o : Option Val) (P : Operand → Type 0) → ((v : Val) → o ≡ Some v → P (Const v)) → IfSome (option_map Const o) P
const_some (Some v) P h = h v refl
const_some None P h = tt

module _ (t : Test) (ty : Ty) (is : applies t ty ≡ true) where
  abbrev Fits : Operand → Type 0
  Fits o = operand_fits t ty o ≡ true

  operand_of_fits : (j : JsonTree) → IfSome (operand_of t ty j) Fits
  unfolding operand_of text_operand
  operand_of_fits (str s) = either_fits Fits (variable_named s) (result_ok (reads t ty s)) (λ name. refl) (read_some (reads t ty s) (λ v. Fits (Const v)) (reads_fit t ty s))
  operand_of_fits null = const_some (constant_in ty null) Fits (λ v e. other_fits t ty null v refl is e)
  operand_of_fits (bool b) = const_some (constant_in ty (bool b)) Fits (λ v e. other_fits t ty (bool b) v refl is e)
  operand_of_fits (int n) = const_some (constant_in ty (int n)) Fits (λ v e. other_fits t ty (int n) v refl is e)
  operand_of_fits (arr js) = const_some (constant_in ty (arr js)) Fits (λ v e. other_fits t ty (arr js) v refl is e)
  operand_of_fits (obj ms) = const_some (constant_in ty (obj ms)) Fits (λ v e. other_fits t ty (obj ms) v refl is e)

  -- the same of what stands at a path
  pub operand_at_fits : (path : List ℕ) (j : JsonTree) → IfOk (operand_at t ty path j) Fits
  operand_at_fits path j = ok_given (operand_of t ty j) (BadOperand path) Fits (operand_of_fits j)

  -- and of a list of operands
  pub operands_fit : (path : List ℕ) (place : ℕ) (js : List JsonTree) → IfOk (each_element (operand_at t ty) path place js) (λ os. list_all (operand_fits t ty) os ≡ true)
  operands_fit path place [] = refl
  operands_fit path place (j ∷ js) =
      ok_and_then (λ o. mapped (λ os. o ∷ os) (each_element (operand_at t ty) path (place + 1) js)) _ Fits
      (λ o h. ok_mapped (λ os. o ∷ os) _ (λ os. list_all (operand_fits t ty) os ≡ true) (λ os k. rw (h, k) refl)
      (each_element (operand_at t ty) path (place + 1) js) (operands_fit path (place + 1) js))
      (operand_at t ty (item_path path place) j) (operand_at_fits (item_path path place) j)

  -- and of what stands in place of a list
  pub operands_by_fit : (path : List ℕ) (text : Option (List ℕ)) (list : Option (List JsonTree)) → IfOk (operands_by t ty path text list) (λ vs. list_all (operand_fits t ty) (operands_of vs) ≡ true)
  operands_by_fit path (Some s) list =
      ok_mapped operands.Session (λ vs. list_all (operand_fits t ty) (operands_of vs) ≡ true) (λ _. ⊤) (λ name _. refl)
      (operand_read path (variable_named s)) (ok_always (operand_read path (variable_named s)))
  operands_by_fit path None list =
      ok_and_then (λ js. mapped operands.List (each_element (operand_at t ty) path 0 js)) (λ vs. list_all (operand_fits t ty) (operands_of vs) ≡ true) (λ _. ⊤)
      (λ js _. ok_mapped operands.List (λ vs. list_all (operand_fits t ty) (operands_of vs) ≡ true)
      (λ os. list_all (operand_fits t ty) os ≡ true) (λ os h. h) (each_element (operand_at t ty) path 0 js) (operands_fit path 0 js))
      (operand_read path list) (ok_always (operand_read path list))
