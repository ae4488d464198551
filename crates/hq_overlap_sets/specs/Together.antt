-- Selection sets that are put together, and the places of conflicts between their fields.
use Rattle.std.specs.Prelude.{◌≡◌, ℕ, ◌<◌, List, Option, Some, length}
use Rattle.std.specs.List.{Contains}
use Rattle.hq_overlap_sets.specs.Pairs.{fields_at, spreads_at, Violates, later}
use Rattle.hq_overlap_sets.specs.Sets.{FieldTree, SetTree}

-- two selection sets that are put together: each with itself, what either spreads with the other, and the sets below two fields of
-- one key
pub data Together (sets : List SetTree) : ℕ → ℕ → Type 0 where
  alone : {s : ℕ} → s < length sets → Together sets s s
  left : {s t u : ℕ} → Together sets s t → Contains (spreads_at sets s) u → Together sets u t
  right : {s t u : ℕ} → Together sets s t → Contains (spreads_at sets t) u → Together sets s u
  below : {s t : ℕ} {a b : FieldTree} → Together sets s t → Contains (fields_at sets s) a → Contains (fields_at sets t) b → a.key ≡ b.key → Together sets a.below b.below

-- the place of a later field of two that stand in sets put together and cannot merge
pub record IsConflict (sets : List SetTree) (p : ℕ) : Type 0 where
  pub s : ℕ
  pub t : ℕ
  pub a : FieldTree
  pub b : FieldTree
  pub together : Together sets s t
  pub first : Contains (fields_at sets s) a
  pub second : Contains (fields_at sets t) b
  pub violates : Violates a b
  pub place : later a b ≡ p

-- a place, if there is one, is that of a conflict
abbrev pub AreConflicts : List SetTree → Option ℕ → Type 0
AreConflicts sets place = (p : ℕ) → place ≡ Some p → IsConflict sets p
