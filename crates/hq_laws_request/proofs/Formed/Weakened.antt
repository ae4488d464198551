-- Facts of fields that follow from others at each place, with root fields apart.
use Rattle.std.proofs.Common.{ℕ}
use Rattle.hq_model.specs.Schema.{Schema, rel}
use Rattle.hq_request_tree.specs.Everywhere.{Everywhere, Below, EveryPart, BelowPart, FromRoot}
use Rattle.hq_request_tree.proofs.Weaken.{everywhere_weaken}
use Rattle.hq_request_tree.specs.Fields.{FieldTrees, no_field, field, FieldTree, column, typename, no_queries, object, list, by_key, aggregate, introspect, PartTrees, no_part, part, PartTree, summary, nodes, part_typename}
use Rattle.hq_request_tree.specs.Resolve.{origin_table}

module _ (F G : ℕ → FieldTree → Type 0) (P Q : ℕ → PartTree → Type 0) (s : Schema) (field_step : (t : ℕ) (f : FieldTree) → F t f → G t f) (part_step : (u : ℕ) (p : PartTree) → P u p → Q u p) where
  weakened : (fs : FieldTrees) (t : ℕ) → Everywhere F P fs s t → Everywhere G Q fs s t
  weakened = everywhere_weaken F G P Q s field_step part_step

  below_part_weakened : (p : PartTree) (u : ℕ) → BelowPart F P p s u → BelowPart G Q p s u
  below_part_weakened (summary fs) u h = tt
  below_part_weakened (nodes fs) u h = weakened fs u h
  below_part_weakened (part_typename name) u h = tt

  parts_weakened : (ps : PartTrees) (u : ℕ) → EveryPart F P ps s u → EveryPart G Q ps s u
  parts_weakened no_part u h = tt
  parts_weakened (part key p ps) u h = (part_step u p h.0, below_part_weakened p u h.1, parts_weakened ps u h.2)

  below_weakened : (f : FieldTree) (t : ℕ) → Below F P f s t → Below G Q f s t
  below_weakened (column c) t h = tt
  below_weakened (typename name) t h = tt
  below_weakened no_queries t h = tt
  below_weakened (object r fs) t h = weakened fs (rel s t r).remote h
  below_weakened (list o a fs) t h = weakened fs (origin_table o s t) h
  below_weakened (by_key u key fs) t h = weakened fs u h
  below_weakened (aggregate o a ps) t h = parts_weakened ps (origin_table o s t) h
  below_weakened (introspect f) t h = tt

  module _ (R : FieldTree → Type 0) (root : ℕ) where
    -- facts of all fields, where those of a root field follow too
    pub all_give : (root_step : (f : FieldTree) → R f → G root f) → (fs : FieldTrees) → FromRoot R F P fs s root → Everywhere G Q fs s root
    all_give root_step no_field h = tt
    all_give root_step (field key f fs) h = (root_step f h.0, below_weakened f root h.1, all_give root_step fs h.2)

    -- facts of root fields, and of all below them
    pub roots_give : (S : FieldTree → Type 0) (root_step : (f : FieldTree) → R f → S f) → (fs : FieldTrees) → FromRoot R F P fs s root → FromRoot S G Q fs s root
    roots_give S root_step no_field h = tt
    roots_give S root_step (field key f fs) h = (root_step f h.0, below_weakened f root h.1, roots_give S root_step fs h.2)
