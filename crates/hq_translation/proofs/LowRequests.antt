-- A typed request is nested few enough.
use Rattle.std.proofs.Common.{◌≡◌, ℕ, ◌≤◌, max, List, [], ◌∷◌, length, true, arith}
use Rattle.std.specs.List.{list_all}
use Rattle.std.proofs.lemmas.Bool.{and_parts}
use Rattle.std.proofs.Math.Nat.{max-le, le-max_left, le-max_right}
use Rattle.hq_base.specs.Lists.{Each}
use Rattle.hq_model.specs.Schema.{Schema, rel}
use Rattle.hq_model.specs.Selected.{SortKey, ListArguments}
use Rattle.hq_request_tree.specs.Conditions.{is_short, are_arguments, FieldFits, PartFits}
use Rattle.hq_request_tree.specs.Everywhere.{Everywhere, Below, EveryPart, BelowPart}
use Rattle.hq_request_tree.specs.Levels.{levels, field_levels, part_levels, one_part_levels}
use Rattle.hq_request_tree.specs.Fields.{FieldTrees, no_field, field, FieldTree, column, typename, no_queries, object, list, by_key, aggregate, introspect, PartTrees, no_part, part, PartTree, summary, nodes, part_typename}
use Rattle.hq_request_tree.specs.Resolve.{origin_table}
use Rattle.hq_translation.specs.Shallow.{fields_height, field_height, parts_height, part_height, AreShort, AreLow, IsLow, AreLowParts, IsLowPart}
use Rattle.hq_translation.proofs.FineConditions.{at_most, condition_low}

mutual
  pub height_levels : (fs : FieldTrees) → fields_height fs ≤ levels fs
  height_levels no_field = omega arith
  height_levels (field key f fs) =
      let a = height_level f in
      let b = height_levels fs in
      let x = le-max_left (field_levels f) (levels fs) in
      let y = le-max_right (field_levels f) (levels fs) in
      let l : field_height f ≤ max (field_levels f) (levels fs) = omega (arith, a, x) in
      let r : fields_height fs ≤ max (field_levels f) (levels fs) = omega (arith, b, y) in
      max-le l r

  height_level : (f : FieldTree) → field_height f ≤ field_levels f
  height_level (column c) = omega arith
  height_level (typename name) = omega arith
  height_level no_queries = omega arith
  height_level (object r fs) = let h = height_levels fs in omega (arith, h)
  height_level (list o a fs) = let h = height_levels fs in omega (arith, h)
  height_level (by_key u key fs) = let h = height_levels fs in omega (arith, h)
  height_level (aggregate o a ps) = let h = height_parts ps in omega (arith, h)
  height_level (introspect f) = omega arith

  height_parts : (ps : PartTrees) → parts_height ps ≤ part_levels ps
  height_parts no_part = omega arith
  height_parts (part key q ps) =
      let a = height_part q in
      let b = height_parts ps in
      let x = le-max_left (one_part_levels q) (part_levels ps) in
      let y = le-max_right (one_part_levels q) (part_levels ps) in
      let l : part_height q ≤ max (one_part_levels q) (part_levels ps) = omega (arith, a, x) in
      let r : parts_height ps ≤ max (one_part_levels q) (part_levels ps) = omega (arith, b, y) in
      max-le l r

  height_part : (q : PartTree) → part_height q ≤ one_part_levels q
  height_part (summary fs) = omega arith
  height_part (nodes fs) = let h = height_levels fs in omega (arith, h)
  height_part (part_typename name) = omega arith

sorts_short : (ks : List SortKey) → list_all is_short ks ≡ true → Each (λ k. length k.through ≤ 200) ks
sorts_short [] h = tt
sorts_short (k ∷ ks) h = let parts = and_parts _ _ h in (at_most (length k.through) 200 parts.0, sorts_short ks parts.1)

module _ (s : Schema) where
  arguments_short : (a : ListArguments) (t : ℕ) → are_arguments a s t ≡ true → AreShort a 400 200
  arguments_short a t h =
      let short = and_parts _ _ (and_parts _ _ h).0 in
      (condition_low 400 a.wanted s t (and_parts _ _ short.0).0, sorts_short a.sorts short.1)

  mutual
    pub fields_low : (fs : FieldTrees) (t : ℕ) → Everywhere (FieldFits s) (PartFits s) fs s t → AreLow fs 400 200
    fields_low no_field t h = tt
    fields_low (field key f fs) t h = (field_low f t h.0 h.1, fields_low fs t h.2)

    field_low : (f : FieldTree) (t : ℕ) → FieldFits s t f → Below (FieldFits s) (PartFits s) f s t → IsLow f 400 200
    field_low (column c) t h b = tt
    field_low (typename name) t h b = tt
    field_low no_queries t h b = tt
    field_low (object r fs) t h b = fields_low fs (rel s t r).remote b
    field_low (list o a fs) t h b = (arguments_short a (origin_table o s t) h, fields_low fs (origin_table o s t) b)
    field_low (by_key u key fs) t h b = fields_low fs u b
    field_low (aggregate o a ps) t h b = (arguments_short a (origin_table o s t) h, parts_low ps (origin_table o s t) b)
    field_low (introspect f) t h b = tt

    parts_low : (ps : PartTrees) (u : ℕ) → EveryPart (FieldFits s) (PartFits s) ps s u → AreLowParts ps 400 200
    parts_low no_part u h = tt
    parts_low (part key q ps) u h = (part_low q u h.0 h.1, parts_low ps u h.2)

    part_low : (q : PartTree) (u : ℕ) → PartFits s u q → BelowPart (FieldFits s) (PartFits s) q s u → IsLowPart q 400 200
    part_low (summary fs) u h b = tt
    part_low (nodes fs) u h b = fields_low fs u b
    part_low (part_typename name) u h b = tt
