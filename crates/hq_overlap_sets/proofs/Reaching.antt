-- Fields that the rule reaches together stand in sets that are put together, and the other way round.
use Rattle.std.proofs.Common.{◌≡◌, ◌∙◌, ℕ, ◌<◌, ◌≤◌, List, Option, Some, None, length, inl, inr, sym, refl, max, arith}
use Rattle.std.specs.Prelude.{MatchOption, ⊤}
use Rattle.std.specs.List.{Contains}
use Rattle.hq_overlap_sets.specs.Sets.{LabelTree, FieldTree, SetTree}
use Rattle.hq_overlap_sets.specs.Pairs as rule
use Rattle.hq_overlap_sets.specs.Pairs.{fields_at, Within, here, spread, Reached, SameLabel, Violates, later, AtMost}
use Rattle.hq_overlap_sets.specs.Together as walk
use Rattle.hq_overlap_sets.specs.Together.{Together, IsConflict, AreConflicts}

-- the definition by fields and the one by sets are the same
module _ (sets : List SetTree) where
  pub from_together : {s t : ℕ} → Together sets s t → (a b : FieldTree) → Within sets s a → Within sets t b → Reached sets a b
  from_together (walk.alone h) a b v w = rule.in_one h v w
  from_together (walk.left g u) a b v w = from_together g a b (spread u v) w
  from_together (walk.right g u) a b v w = from_together g a b v (spread u w)
  from_together (walk.below g x y e) a b v w = rule.below (from_together g _ _ (here x) (here y)) e v w

  abbrev InSets : FieldTree → FieldTree → Type 0
  InSets a b = (s : ℕ) × (t : ℕ) × Together sets s t × Contains (fields_at sets s) a × Contains (fields_at sets t) b

  within_right : {t : ℕ} {b : FieldTree} → Within sets t b → (s : ℕ) (a : FieldTree) → Together sets s t → Contains (fields_at sets s) a → InSets a b
  within_right (here y) s a g x = (s, _, g, x, y)
  within_right (spread u w) s a g x = within_right w s a (walk.right g u) x

  within_both : {s : ℕ} {a : FieldTree} → Within sets s a → (t : ℕ) (b : FieldTree) → Together sets s t → Within sets t b → InSets a b
  within_both (here x) t b g w = within_right w _ _ g x
  within_both (spread u v) t b g w = within_both v t b (walk.left g u) w

  pub in_sets : {a b : FieldTree} → Reached sets a b → InSets a b
  in_sets (rule.in_one h v w) = within_both v _ _ (walk.alone h) w
  in_sets (rule.below r e v w) = let x = in_sets r in within_both v _ _ (walk.below x.2 x.3 x.4 e) w

pub conflict_found : (sets : List SetTree) (p : ℕ) → IsConflict sets p → (a : FieldTree) × (b : FieldTree) × Reached sets a b × Violates a b × (later a b ≡ p)
conflict_found sets p x = (x.a, x.b, from_together sets x.together x.a x.b (here x.first) (here x.second), x.violates, x.place)

abbrev Found : List SetTree → Option ℕ → Type 0
Found sets r = MatchOption r ⊤ (λ p. (a : FieldTree) × (b : FieldTree) × Reached sets a b × Violates a b × (later a b ≡ p))

-- a place that is of a conflict is found
pub found_from : (sets : List SetTree) (r : Option ℕ) → AreConflicts sets r → Found sets r
found_from sets None f = tt
found_from sets (Some p) f = conflict_found sets p (f p refl)

pub label_turned : (l m : LabelTree) → SameLabel l m → SameLabel m l
label_turned l m h = (sym h.0, λ q. sym (h.1 q))

pub violates_turned : (a b : FieldTree) → Violates a b → Violates b a
violates_turned a b v = (
  sym v.0,
  (elim v.1 [
    | inl shape ↦ inl (λ e. shape (sym e))
    | inr label ↦ inr (sym label.0, λ h. label.1 (label_turned b.label a.label h))
  ]),
)

-- a conflict of two fields of one set
pub own_conflict_at : (sets : List SetTree) (s : ℕ) (a b : FieldTree) → s < length sets → Contains (fields_at sets s) a → Contains (fields_at sets s) b → Violates a b → IsConflict sets (later a b)
own_conflict_at sets s a b h first second v =
    record { s = s; t = s; a = a; b = b; together = walk.alone h; first = first; second = second; violates = v; place = refl }

pub at_most_left : (o : Option ℕ) (a b : ℕ) → AtMost o a → AtMost o (max a b)
at_most_left None a b h = absurd h
at_most_left (Some p) a b h = let k : p ≤ a = h in omega arith

pub at_most_right : (o : Option ℕ) (a b : ℕ) → AtMost o b → AtMost o (max a b)
at_most_right None a b h = absurd h
at_most_right (Some p) a b h = let k : p ≤ b = h in omega arith

pub label_joined : (l m n : LabelTree) → SameLabel l m → SameLabel m n → SameLabel l n
label_joined l m n h k = (h.0 ∙ k.0, λ q. h.1 q ∙ k.1 q)
