-- Boolean expressions without where they lie in memory.
use Rattle.std.specs.Prelude.{ℕ, suc, max, Bool, List, [], ◌∷◌}
use Rattle.hq_model.specs.declared.bexp.Operand.{Operand}
use Rattle.hq_model.specs.declared.bexp.Operand.TheVariants as operand
use Rattle.hq_model.specs.declared.bexp.Operands.{Operands}
use Rattle.hq_model.specs.declared.bexp.Operands.TheVariants as operands
use Rattle.hq_model.specs.declared.op.Op.{Op}
use Rattle.hq_model.specs.declared.bexp.Bexp.{Bexp, fold-Bexp}
use Rattle.hq_model.specs.declared.bexp.Bexp.TheOpen.{Bexp-F}
use Rattle.hq_model.specs.declared.test.Test.{Test}

-- a boolean expression over a table's columns and relationships, each named by its place
mutual
  pub data BexpTree : Type 0 where
    always : BexpTree
    and_of : BexpTrees → BexpTree
    or_of : BexpTrees → BexpTree
    not_of : BexpTree → BexpTree
    test : (column : ℕ) → Test → Operands → (negated : Bool) → BexpTree
    through : (relationship : ℕ) → BexpTree → BexpTree
    exists_in : (table : ℕ) → BexpTree → BexpTree
    two_columns : (left : ℕ) → Op → (right : ℕ) → BexpTree

  pub data BexpTrees : Type 0 where
    no_bexp : BexpTrees
    bexp : BexpTree → BexpTrees → BexpTrees

-- the expression that is never true
abbrev pub never : BexpTree
never = not_of always

-- the operands of a test, each by itself; a session name that is to list them stands for itself
abbrev pub operands_of : Operands → List Operand
operands_of (operands.List vs) = vs
operands_of (operands.Session name) = operand.Session name ∷ []

-- the expressions of a list
abbrev pub bexps_of : List BexpTree → BexpTrees
bexps_of [] = no_bexp
bexps_of (b ∷ bs) = bexp b (bexps_of bs)

-- all of a list: nothing is asked where it is empty, and one expression stands for itself
unfoldable pub conjunction : List BexpTree → BexpTree
conjunction [] = always
conjunction (b ∷ []) = b
conjunction (b ∷ d ∷ bs) = and_of (bexps_of (b ∷ d ∷ bs))

-- one level of an expression, whose parts are seen already
abbrev pub bexp_step : Bexp-F BexpTree → BexpTree
bexp_step Bexp-F.True = always
bexp_step (Bexp-F.And bs) = and_of (bexps_of bs.items)
bexp_step (Bexp-F.Or bs) = or_of (bexps_of bs.items)
bexp_step (Bexp-F.Not b) = not_of b.value
bexp_step (Bexp-F.Test column t vs negated) = test column t vs negated
bexp_step (Bexp-F.Through relationship inner) = through relationship inner.value
bexp_step (Bexp-F.Exists table inner) = exists_in table inner.value
bexp_step (Bexp-F.Columns left op right) = two_columns left op right

-- what an expression is seen as
abbrev pub bexp_view : Bexp → BexpTree
bexp_view = fold-Bexp BexpTree bexp_step

-- how many expressions stand inside one another, itself among them
abbrev mutual
  pub depth : BexpTree → ℕ
  depth always = 1
  depth (and_of bs) = suc (depth_of_all bs)
  depth (or_of bs) = suc (depth_of_all bs)
  depth (not_of b) = suc (depth b)
  depth (test column t vs negated) = 1
  depth (through relationship b) = suc (depth b)
  depth (exists_in table b) = suc (depth b)
  depth (two_columns left op right) = 1

  pub depth_of_all : BexpTrees → ℕ
  depth_of_all no_bexp = 0
  depth_of_all (bexp b bs) = max (depth b) (depth_of_all bs)
