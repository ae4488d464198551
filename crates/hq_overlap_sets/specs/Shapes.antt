-- Types in shape (GraphQL October 2021, 5.3.2, SameResponseShape): the lists and non-null forms, and the type of a leaf; two object
-- types are alike.
use Rattle.std.specs.Prelude.{ℕ, Bool, true, false, cond, ◌==◌, is_some}
use Rattle.hq_schema.specs.Schema.{TypeRefTree, SchemaTree}
use Rattle.hq_schema.specs.Schema as schema
use Rattle.hq_gql_nodes.specs.Known.{object_at}

pub data ShapeTree : Type 0 where
  leaf : (type : ℕ) → ShapeTree
  object : ShapeTree
  list_of : ShapeTree → ShapeTree
  non_null : ShapeTree → ShapeTree

abbrev pub shape_of : SchemaTree → TypeRefTree → ShapeTree
shape_of s (schema.named t) = cond (is_some (object_at s t)) object (leaf t)
shape_of s (schema.list_of r) = list_of (shape_of s r)
shape_of s (schema.non_null r) = non_null (shape_of s r)

-- the test of two shapes
abbrev pub same_shape : ShapeTree → ShapeTree → Bool
same_shape (leaf a) (leaf b) = a == b
same_shape (leaf a) object = false
same_shape (leaf a) (list_of q) = false
same_shape (leaf a) (non_null q) = false
same_shape object (leaf b) = false
same_shape object object = true
same_shape object (list_of q) = false
same_shape object (non_null q) = false
same_shape (list_of r) (leaf b) = false
same_shape (list_of r) object = false
same_shape (list_of r) (list_of q) = same_shape r q
same_shape (list_of r) (non_null q) = false
same_shape (non_null r) (leaf b) = false
same_shape (non_null r) object = false
same_shape (non_null r) (list_of q) = false
same_shape (non_null r) (non_null q) = same_shape r q

-- the test of two types
abbrev pub have_same_shape : SchemaTree → (a b : TypeRefTree) → Bool
have_same_shape s a b = same_shape (shape_of s a) (shape_of s b)
