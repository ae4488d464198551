-- Binding for a session is refused where a variable is lacking or cannot be read, and for nothing else.
use Rattle.std.specs.Prelude.{ℕ, List, [], ◌∷◌, Option, Some, None, Result, Ok, Err}
use Rattle.hq_base.specs.Due.{mapped, and_then}
use Rattle.hq_base.specs.declared.value.Ty.{Ty}
use Rattle.hq_base.specs.declared.value.Val.{Val}
use Rattle.hq_model.specs.Bexp.{BexpTree, always, and_of, or_of, not_of, test, through, exists_in, two_columns, BexpTrees, no_bexp, bexp, bexps_of}
use Rattle.hq_model.specs.Binding.{variable, constant, constant_of, bound_operand, bound_each, constants, constants_of, bound_operands, bound, bound_all, bound_masks, bound_permission}
use Rattle.hq_model.specs.Meta.{MetaTree}
use Rattle.hq_model.specs.Permission.{Mask, Permission, permission}
use Rattle.hq_model.specs.Schema.{Schema, column, rel}
use Rattle.hq_model.specs.SessionLists.{listed_values, list_want}
use Rattle.hq_model.specs.Tests.{reads}
use Rattle.hq_model.specs.declared.bexp.Operand.{Operand}
use Rattle.hq_model.specs.declared.bexp.Operand.TheVariants.{Const, Session}
use Rattle.hq_model.specs.declared.bexp.Operands.{Operands}
use Rattle.hq_model.specs.declared.bexp.Operands.TheVariants as operands
use Rattle.hq_model.specs.declared.bind.BindRefusal.{BindRefusal}
use Rattle.hq_model.specs.declared.bind.BindRefusal.TheVariants.{NoVariable, BadVariable, Memory}
use Rattle.hq_model.specs.declared.role.Role.{Role}
use Rattle.hq_model.specs.declared.session.Var.{Var}
use Rattle.hq_model.specs.declared.test.Test.{Test}
use Rattle.hq_model.specs.declared.want.Want.{Want}
use Rattle.hq_request_tree.specs.Request.{BoundTree}
use Rattle.hq_request_build.specs.Bound.{of_table, bound_of, bound_due, bounds_due}

-- a value, or the fault of a variable
abbrev pub OfVariables : {A : Type 0} → Result A BindRefusal → Type 0
OfVariables (Ok x) = Unit {0}
OfVariables (Err (NoVariable name)) = Unit {0}
OfVariables (Err (BadVariable name want)) = Unit {0}
OfVariables (Err Memory) = ⊥

mapped_told : {A B : Type 0} (f : A → B) (r : Result A BindRefusal) → OfVariables r → OfVariables (mapped f r)
mapped_told f (Ok x) h = tt
mapped_told f (Err (NoVariable name)) h = tt
mapped_told f (Err (BadVariable name want)) h = tt
mapped_told f (Err Memory) h = h

then_told : {A B : Type 0} (f : A → Result B BindRefusal) (r : Result A BindRefusal) → OfVariables r → ((x : A) → OfVariables (f x)) → OfVariables (and_then f r)
then_told f (Ok x) h g = g x
then_told f (Err (NoVariable name)) h g = tt
then_told f (Err (BadVariable name want)) h g = tt
then_told f (Err Memory) h g = h

-- ---- operands

constant_told : (name : List ℕ) (r : Result Val Want) → OfVariables (constant name r)
constant_told name (Ok v) = tt
constant_told name (Err wanted) = tt

text_told : (read : List ℕ → Result Val Want) (name : List ℕ) (o : Option (List ℕ)) → OfVariables (constant_of read name o)
text_told read name None = tt
text_told read name (Some text) = constant_told name (read text)

operand_told : (read : List ℕ → Result Val Want) (vars : List Var) (o : Operand) → OfVariables (bound_operand read vars o)
operand_told read vars (Const v) = tt
operand_told read vars (Session name) = text_told read name (variable vars name)

each_told : (read : List ℕ → Result Val Want) (vars : List Var) (os : List Operand) → OfVariables (bound_each read vars os)
each_told read vars [] = tt
each_told read vars (o ∷ os) =
    then_told (λ b. mapped (λ bs. b ∷ bs) (bound_each read vars os)) (bound_operand read vars o) (operand_told read vars o) (λ b.
    mapped_told (λ bs. b ∷ bs) (bound_each read vars os) (each_told read vars os))

constants_told : (name : List ℕ) (want : Want) (o : Option (List Val)) → OfVariables (constants name want o)
constants_told name want None = tt
constants_told name want (Some vs) = tt

list_told : (t : Test) (q : Ty) (name : List ℕ) (o : Option (List ℕ)) → OfVariables (constants_of t q name o)
list_told t q name None = tt
list_told t q name (Some text) = constants_told name (list_want q) (listed_values t q text)

operands_told : (t : Test) (q : Ty) (vars : List Var) (os : Operands) → OfVariables (bound_operands t q vars os)
operands_told t q vars (operands.List vs) = mapped_told operands.List (bound_each (reads t q) vars vs) (each_told (reads t q) vars vs)
operands_told t q vars (operands.Session name) = mapped_told operands.List (constants_of t q name (variable vars name)) (list_told t q name (variable vars name))

-- ---- expressions, masks, and tables

module _ (s : Schema) (vars : List Var) where
  mutual
    expression_told : (b : BexpTree) (t : ℕ) → OfVariables (bound b s vars t)
    expression_told always t = tt
    expression_told (and_of bs) t = mapped_told (λ xs. and_of (bexps_of xs)) (bound_all bs s vars t) (expressions_told bs t)
    expression_told (or_of bs) t = mapped_told (λ xs. or_of (bexps_of xs)) (bound_all bs s vars t) (expressions_told bs t)
    expression_told (not_of b) t = mapped_told not_of (bound b s vars t) (expression_told b t)
    expression_told (test c tested vs negated) t =
        mapped_told (λ os. test c tested os negated) (bound_operands tested (column s t c).ty vars vs) (operands_told tested (column s t c).ty vars vs)
    expression_told (through r b) t = mapped_told (through r) (bound b s vars (rel s t r).remote) (expression_told b (rel s t r).remote)
    expression_told (exists_in u b) t = mapped_told (exists_in u) (bound b s vars u) (expression_told b u)
    expression_told (two_columns l op r) t = tt

    expressions_told : (bs : BexpTrees) (t : ℕ) → OfVariables (bound_all bs s vars t)
    expressions_told no_bexp t = tt
    expressions_told (bexp b bs) t =
        then_told (λ x. mapped (λ xs. x ∷ xs) (bound_all bs s vars t)) (bound b s vars t) (expression_told b t) (λ x.
        mapped_told (λ xs. x ∷ xs) (bound_all bs s vars t) (expressions_told bs t))

  masks_told : (ms : List Mask) (t : ℕ) → OfVariables (bound_masks ms s vars t)
  masks_told [] t = tt
  masks_told (m ∷ ms) t =
      then_told _ (bound m.shown s vars t) (expression_told m.shown t) (λ shown. mapped_told (λ rest. record { column = m.column; shown = shown } ∷ rest) (bound_masks ms s vars t) (masks_told ms t))

  permission_told : (o : Option Permission) (t : ℕ) → OfVariables (bound_of o s vars t)
  permission_told None t = tt
  permission_told (Some p) t =
      mapped_told (of_table t) (bound_permission p s vars t)
      (then_told _ (bound p.filter s vars t) (expression_told p.filter t)
      (λ filter. mapped_told (λ masks. record p { filter = filter; masks = masks }) (bound_masks p.masks s vars t) (masks_told p.masks t)))

  -- tables in order
  pub tables_told : (role : Role) (m : MetaTree) (ts : List ℕ) → OfVariables (bounds_due role m s vars ts)
  tables_told role m [] = tt
  tables_told role m (t ∷ ts) =
      then_told (λ (b : BoundTree). mapped (λ bs. b ∷ bs) (bounds_due role m s vars ts)) (bound_due role m s vars t) (permission_told (permission role m t) t) (λ b.
      mapped_told (λ bs. b ∷ bs) (bounds_due role m s vars ts) (tables_told role m ts))
