-- Selection sets of one class, and sets that are at fault: what a document itself says, before anything is noted of it.
use Rattle.std.specs.Prelude.{◌≡◌, ℕ, ◌<◌, ◌+◌, List, length, sum_by}
use Rattle.std.specs.List.{All, Contains}
use Rattle.std.specs.List.Sorted.{IsStrictlyIncreasing}
use Rattle.hq_overlap_sets.specs.Pairs.{fields_at, spreads_at, Violates}
use Rattle.hq_overlap_sets.specs.Sets.{FieldTree, SetTree}

-- two sets of one class: a set and those that it spreads are, and the sets below two fields of one key of a class
pub data Joined (sets : List SetTree) : ℕ → ℕ → Type 0 where
  itself : {s : ℕ} → Joined sets s s
  turned : {s t : ℕ} → Joined sets s t → Joined sets t s
  through : {s t u : ℕ} → Joined sets s t → Joined sets t u → Joined sets s u
  spread : {s u : ℕ} → Contains (spreads_at sets s) u → Joined sets s u
  below : {s t : ℕ} {a b : FieldTree} → Joined sets s t → Contains (fields_at sets s) a → Contains (fields_at sets t) b → a.key ≡ b.key → Joined sets a.below b.below

-- a field stands in a set of a class
pub record IsOfClass (sets : List SetTree) (c : ℕ) (a : FieldTree) : Type 0 where
  pub set : ℕ
  pub joined : Joined sets c set
  pub stands : Contains (fields_at sets set) a

-- a set is at fault where two fields of its class cannot merge, be they selected together or not, and where a field of its class leads
-- to a set that is
pub data AtFault (sets : List SetTree) : ℕ → Type 0 where
  differ : {c : ℕ} {a b : FieldTree} → IsOfClass sets c a → IsOfClass sets c b → Violates a b → AtFault sets c
  leads : {c : ℕ} {a : FieldTree} → IsOfClass sets c a → AtFault sets a.below → AtFault sets c

-- a set counts one, and each of its fields and spreads one more
abbrev pub size_at : List SetTree → ℕ → ℕ
size_at sets s = length (fields_at sets s) + length (spreads_at sets s) + 1

-- the sets at fault, with their fields and spreads, are more than so many
abbrev pub MoreAtFault : List SetTree → (count : ℕ) → Type 0
MoreAtFault sets count = (found : List ℕ) × IsStrictlyIncreasing found × All (AtFault sets) found × (count < sum_by (size_at sets) found)
