-- The test of shapes decides whether they are equal.
use Rattle.std.proofs.Common.{◌≡◌, ap, refl, subst, ℕ, Bool, true, false, cond}
use Rattle.std.specs.Prelude.{is_some}
use Rattle.std.proofs.lemmas.Bool.{eqb-true, eq-eqb}
use Rattle.hq_schema.specs.Schema.{SchemaTree}
use Rattle.hq_schema.specs.Schema as schema
use Rattle.hq_gql_nodes.specs.Known.{object_at}
use Rattle.hq_overlap_sets.specs.Shapes.{ShapeTree, leaf, object, list_of, non_null, shape_of, same_shape}

pub shape_true : (a b : ShapeTree) → same_shape a b ≡ true → a ≡ b
shape_true (leaf a) (leaf b) h = ap (λ t. leaf t) (eqb-true a b h)
shape_true (leaf a) object h = absurd (cc)
shape_true (leaf a) (list_of q) h = absurd (cc)
shape_true (leaf a) (non_null q) h = absurd (cc)
shape_true object (leaf b) h = absurd (cc)
shape_true object object h = refl
shape_true object (list_of q) h = absurd (cc)
shape_true object (non_null q) h = absurd (cc)
shape_true (list_of r) (leaf b) h = absurd (cc)
shape_true (list_of r) object h = absurd (cc)
shape_true (list_of r) (list_of q) h = ap (λ t. list_of t) (shape_true r q h)
shape_true (list_of r) (non_null q) h = absurd (cc)
shape_true (non_null r) (leaf b) h = absurd (cc)
shape_true (non_null r) object h = absurd (cc)
shape_true (non_null r) (list_of q) h = absurd (cc)
shape_true (non_null r) (non_null q) h = ap (λ t. non_null t) (shape_true r q h)

shape_itself : (a : ShapeTree) → same_shape a a ≡ true
shape_itself (leaf a) = eq-eqb a a refl
shape_itself object = refl
shape_itself (list_of r) = shape_itself r
shape_itself (non_null r) = shape_itself r

pub true_shape : (a b : ShapeTree) → a ≡ b → same_shape a b ≡ true
true_shape a b e = subst (λ (x : ShapeTree). same_shape a x ≡ true) e (shape_itself a)

-- a named type has no list and no non-null form
list_by : (b : Bool) (t : ℕ) (q : ShapeTree) → same_shape (cond b object (leaf t)) (list_of q) ≡ false
list_by true t q = refl
list_by false t q = refl

by_list : (b : Bool) (t : ℕ) (q : ShapeTree) → same_shape (list_of q) (cond b object (leaf t)) ≡ false
by_list true t q = refl
by_list false t q = refl

non_null_by : (b : Bool) (t : ℕ) (q : ShapeTree) → same_shape (cond b object (leaf t)) (non_null q) ≡ false
non_null_by true t q = refl
non_null_by false t q = refl

by_non_null : (b : Bool) (t : ℕ) (q : ShapeTree) → same_shape (non_null q) (cond b object (leaf t)) ≡ false
by_non_null true t q = refl
by_non_null false t q = refl

pub named_and_list : (s : SchemaTree) (t : ℕ) (q : ShapeTree) → same_shape (shape_of s (schema.named t)) (list_of q) ≡ false
named_and_list s t q = list_by (is_some (object_at s t)) t q

pub list_and_named : (s : SchemaTree) (t : ℕ) (q : ShapeTree) → same_shape (list_of q) (shape_of s (schema.named t)) ≡ false
list_and_named s t q = by_list (is_some (object_at s t)) t q

pub named_and_non_null : (s : SchemaTree) (t : ℕ) (q : ShapeTree) → same_shape (shape_of s (schema.named t)) (non_null q) ≡ false
named_and_non_null s t q = non_null_by (is_some (object_at s t)) t q

pub non_null_and_named : (s : SchemaTree) (t : ℕ) (q : ShapeTree) → same_shape (non_null q) (shape_of s (schema.named t)) ≡ false
non_null_and_named s t q = by_non_null (is_some (object_at s t)) t q
