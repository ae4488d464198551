-- A boolean expression for one session: each session name replaced by the session's value (Hasura, Authorization:
-- session variables in permission rules).
use Rattle.std.specs.Prelude.{ℕ, List, [], ◌∷◌, map, find, Option, Some, None, option_map, Result, Ok, Err, bytes_eq}
use Rattle.hq_base.specs.Due.{and_then, mapped}
use Rattle.hq_base.specs.declared.value.Ty.{Ty}
use Rattle.hq_base.specs.declared.value.Val.{Val}
use Rattle.hq_model.specs.Bexp.{BexpTree, always, and_of, or_of, not_of, test, through, exists_in, two_columns, BexpTrees, no_bexp, bexp, bexps_of}
use Rattle.hq_model.specs.Permission.{Mask, Permission}
use Rattle.hq_model.specs.Schema.{Schema, column, rel}
use Rattle.hq_model.specs.SessionLists.{listed_values, list_want}
use Rattle.hq_model.specs.Tests.{Test, reads}
use Rattle.hq_model.specs.declared.bexp.Operand.{Operand}
use Rattle.hq_model.specs.declared.bexp.Operand.TheVariants.{Const, Session}
use Rattle.hq_model.specs.declared.bexp.Operands.{Operands}
use Rattle.hq_model.specs.declared.bexp.Operands.TheVariants as operands
use Rattle.hq_model.specs.declared.bind.BindRefusal.{BindRefusal}
use Rattle.hq_model.specs.declared.bind.BindRefusal.TheVariants.{NoVariable, BadVariable}
use Rattle.hq_model.specs.declared.session.Var.{Var}
use Rattle.hq_model.specs.declared.want.Want.{Want}

-- the text of a variable; of a name that is given twice the first
abbrev pub variable : List Var → List ℕ → Option (List ℕ)
variable vars name = option_map (λ v. v.value) (find (λ v. bytes_eq v.name name) vars)

-- a constant that was read, or the fault of the variable that gave the text
abbrev pub constant : (name : List ℕ) → Result Val Want → Result Operand BindRefusal
constant name (Ok v) = Ok (Const v)
constant name (Err wanted) = Err (BadVariable name wanted)

-- the constant of a variable, read from its text; NoVariable where the session has none
abbrev pub constant_of : (List ℕ → Result Val Want) → (name : List ℕ) → Option (List ℕ) → Result Operand BindRefusal
constant_of read name None = Err (NoVariable name)
constant_of read name (Some text) = constant name (read text)

-- an operand whose text is read in this way
abbrev pub bound_operand : (List ℕ → Result Val Want) → List Var → Operand → Result Operand BindRefusal
bound_operand read vars (Const v) = Ok (Const v)
bound_operand read vars (Session name) = constant_of read name (variable vars name)

-- operands whose texts are read in this way, or the fault of the first that has no value
abbrev pub bound_each : (List ℕ → Result Val Want) → List Var → List Operand → Result (List Operand) BindRefusal
bound_each read vars [] = Ok []
bound_each read vars (o ∷ os) = and_then (λ b. mapped (λ bs. b ∷ bs) (bound_each read vars os)) (bound_operand read vars o)

-- the constants that were read of a list, or the fault of the variable that gave the text
abbrev pub constants : (name : List ℕ) → Want → Option (List Val) → Result (List Operand) BindRefusal
constants name wanted None = Err (BadVariable name wanted)
constants name wanted (Some vs) = Ok (map Const vs)

-- the constants that a variable lists for a test of a column of a type; NoVariable where the session has none
abbrev pub constants_of : Test → Ty → (name : List ℕ) → Option (List ℕ) → Result (List Operand) BindRefusal
constants_of t ty name None = Err (NoVariable name)
constants_of t ty name (Some text) = constants name (list_want ty) (listed_values t ty text)

-- the operands of a test of a column of a type, bound
abbrev pub bound_operands : Test → Ty → List Var → Operands → Result Operands BindRefusal
bound_operands t ty vars (operands.List vs) = mapped operands.List (bound_each (reads t ty) vars vs)
bound_operands t ty vars (operands.Session name) = mapped operands.List (constants_of t ty name (variable vars name))

-- the bound expression over table t, or the fault of its first operand from the left that has no value
abbrev mutual
  pub bound : BexpTree → Schema → List Var → ℕ → Result BexpTree BindRefusal
  bound always s vars t = Ok always
  bound (and_of bs) s vars t = mapped (λ xs. and_of (bexps_of xs)) (bound_all bs s vars t)
  bound (or_of bs) s vars t = mapped (λ xs. or_of (bexps_of xs)) (bound_all bs s vars t)
  bound (not_of b) s vars t = mapped not_of (bound b s vars t)
  bound (test c tested vs negated) s vars t = mapped (λ os. test c tested os negated) (bound_operands tested (column s t c).ty vars vs)
  bound (through r b) s vars t = mapped (through r) (bound b s vars (rel s t r).remote)
  bound (exists_in u b) s vars t = mapped (exists_in u) (bound b s vars u)
  bound (two_columns l op r) s vars t = Ok (two_columns l op r)

  pub bound_all : BexpTrees → Schema → List Var → ℕ → Result (List BexpTree) BindRefusal
  bound_all no_bexp s vars t = Ok []
  bound_all (bexp b bs) s vars t = and_then (λ x. mapped (λ xs. x ∷ xs) (bound_all bs s vars t)) (bound b s vars t)

-- masks, each bound, or the fault of the first that does not bind
abbrev pub bound_masks : List Mask → Schema → List Var → ℕ → Result (List Mask) BindRefusal
bound_masks [] s vars t = Ok []
bound_masks (m ∷ ms) s vars t =
    and_then (λ shown. mapped (λ rest. record { column = m.column; shown = shown } ∷ rest) (bound_masks ms s vars t)) (bound m.shown s vars t)

-- a permission on table t with its filter and masks bound; the filter's fault comes first
abbrev pub bound_permission : Permission → Schema → List Var → ℕ → Result Permission BindRefusal
bound_permission p s vars t =
    and_then (λ filter. mapped (λ masks. record p { filter = filter; masks = masks }) (bound_masks p.masks s vars t)) (bound p.filter s vars t)
