-- The tests of two fields.
use Rattle.std.proofs.Common.{◌≡◌, Bool, true, ◌&&◌, ◌==◌, inl, inr, bytes_eq}
use Rattle.std.specs.Prelude.{not}
use Rattle.std.proofs.lemmas.Bool.{eqb-true, eq-eqb, and_parts, and_from, or_cases, or_left, or_right, not-true, not_from_false, false_from_ne_true, both_ways}
use Rattle.hq_overlap_sets.specs.Shapes.{same_shape}
use Rattle.hq_overlap_sets.specs.Sets.{LabelTree, FieldTree}
use Rattle.hq_overlap_sets.specs.Pairs.{SameLabel, Violates}
use Rattle.hq_overlap_sets.specs.Literals.{same_arguments}
use Rattle.hq_overlap_sets.specs.Places.{same_label, cannot_merge}
use Rattle.hq_overlap_sets.proofs.ShapeLemmas.{shape_true, true_shape}
use Rattle.hq_overlap_sets.proofs.ValueLemmas.{bytes_true, true_bytes, arguments_true, true_arguments}

pub label_true : (l m : LabelTree) → same_label l m ≡ true → SameLabel l m
label_true l m h =
    let parts = and_parts (bytes_eq l.name m.name) (same_arguments l.args m.args) h in
    (bytes_true l.name m.name parts.0, arguments_true l.args m.args parts.1)

pub true_label : (l m : LabelTree) → SameLabel l m → same_label l m ≡ true
true_label l m h = and_from (bytes_eq l.name m.name) (same_arguments l.args m.args) (true_bytes l.name m.name h.0) (true_arguments l.args m.args h.1)

-- a test that does not hold, and one whose fact cannot be
refuted : {P : Type 0} (b : Bool) → not b ≡ true → (P → b ≡ true) → P → ⊥
refuted b h f p = both_ways b (not-true b h) (f p)

refute : {P : Type 0} (b : Bool) → (b ≡ true → P) → (P → ⊥) → not b ≡ true
refute b f g = not_from_false b (false_from_ne_true b (λ e. g (f e)))

-- fields of one key that cannot merge, by the test
pub violates_by : (a b : FieldTree) → a.key ≡ b.key → cannot_merge a b ≡ true → Violates a b
violates_by a b key h = (
  key,
  (elim (or_cases (not (same_shape a.shape b.shape)) ((a.parent == b.parent) && not (same_label a.label b.label)) h) [
    | inl shape ↦ inl (refuted (same_shape a.shape b.shape) shape (true_shape a.shape b.shape))
    | inr two ↦
        let parts = and_parts (a.parent == b.parent) (not (same_label a.label b.label)) two in
        inr (eqb-true a.parent b.parent parts.0, refuted (same_label a.label b.label) parts.1 (true_label a.label b.label))
  ]),
)

pub by_violates : (a b : FieldTree) → Violates a b → cannot_merge a b ≡ true
by_violates a b v =
    (elim v.1 [
      | inl shape ↦
          or_left (not (same_shape a.shape b.shape)) ((a.parent == b.parent) && not (same_label a.label b.label))
          (refute (same_shape a.shape b.shape) (shape_true a.shape b.shape) shape)
      | inr two ↦
          or_right (not (same_shape a.shape b.shape)) ((a.parent == b.parent) && not (same_label a.label b.label))
          (and_from (a.parent == b.parent) (not (same_label a.label b.label)) (eq-eqb a.parent b.parent two.0)
          (refute (same_label a.label b.label) (label_true a.label b.label) two.1))
    ])
