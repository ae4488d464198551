-- Facts of each field of a request: of each field of a row, told with the table of that row, and of each field of an
-- aggregate, told with the table whose rows it is taken over.
use Rattle.std.specs.Prelude.{ℕ}
use Rattle.hq_model.specs.Schema.{Schema, rel}
use Rattle.hq_request_tree.specs.Fields.{FieldTrees, no_field, field, FieldTree, column, typename, no_queries, object, list, by_key, aggregate, introspect, PartTrees, no_part, part, PartTree, summary, nodes, part_typename}
use Rattle.hq_request_tree.specs.Resolve.{origin_table}

-- F holds of each field at a row of table t and below it, and P of each part of an aggregate there
abbrev mutual
  pub Everywhere : (F : ℕ → FieldTree → Type 0) → (P : ℕ → PartTree → Type 0) → FieldTrees → Schema → ℕ → Type 0
  Everywhere F P no_field s t = Unit {0}
  Everywhere F P (field key f fs) s t = F t f × Below F P f s t × Everywhere F P fs s t

  -- the same below one field alone
  pub Below : (F : ℕ → FieldTree → Type 0) → (P : ℕ → PartTree → Type 0) → FieldTree → Schema → ℕ → Type 0
  Below F P (column c) s t = Unit {0}
  Below F P (typename name) s t = Unit {0}
  Below F P no_queries s t = Unit {0}
  Below F P (object r fs) s t = Everywhere F P fs s (rel s t r).remote
  Below F P (list o a fs) s t = Everywhere F P fs s (origin_table o s t)
  Below F P (by_key u key fs) s t = Everywhere F P fs s u
  Below F P (aggregate o a ps) s t = EveryPart F P ps s (origin_table o s t)
  Below F P (introspect f) s t = Unit {0}

  -- the same of the parts of an aggregate over rows of table u
  pub EveryPart : (F : ℕ → FieldTree → Type 0) → (P : ℕ → PartTree → Type 0) → PartTrees → Schema → ℕ → Type 0
  EveryPart F P no_part s u = Unit {0}
  EveryPart F P (part key p ps) s u = P u p × BelowPart F P p s u × EveryPart F P ps s u

  pub BelowPart : (F : ℕ → FieldTree → Type 0) → (P : ℕ → PartTree → Type 0) → PartTree → Schema → ℕ → Type 0
  BelowPart F P (summary fs) s u = Unit {0}
  BelowPart F P (nodes fs) s u = Everywhere F P fs s u
  BelowPart F P (part_typename name) s u = Unit {0}

-- R holds of each root field, and F and P of all below them
abbrev pub FromRoot : (R : FieldTree → Type 0) → (F : ℕ → FieldTree → Type 0) → (P : ℕ → PartTree → Type 0) → FieldTrees → Schema → (root : ℕ) → Type 0
FromRoot R F P no_field s root = Unit {0}
FromRoot R F P (field key f fs) s root = R f × Below F P f s root × FromRoot R F P fs s root
