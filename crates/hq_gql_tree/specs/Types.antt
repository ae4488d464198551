-- Types of variables without where they lie in memory (GraphQL October 2021, 2.11).
use Rattle.std.specs.Prelude.{ℕ, List}
use Rattle.hq_gql_tree.specs.declared.type_ref.TypeRefTree.{TypeRefTree, fold-TypeRefTree}
use Rattle.hq_gql_tree.specs.declared.type_ref.TypeRefTree.TheOpen.{TypeRefTree-F}

pub data TypeTree : Type 0 where
  named : (at : ℕ) (name : List ℕ) → TypeTree
  list : (at : ℕ) → TypeTree → TypeTree
  non_null : (at : ℕ) → TypeTree → TypeTree

-- one level of a type, whose part is seen already
abbrev pub type_step : TypeRefTree-F TypeTree → TypeTree
type_step (TypeRefTree-F.Named at name) = named at name
type_step (TypeRefTree-F.List at of) = list at of.value
type_step (TypeRefTree-F.NonNull at of) = non_null at of.value

-- what a type is seen as
abbrev pub type_view : TypeRefTree → TypeTree
type_view = fold-TypeRefTree TypeTree type_step
