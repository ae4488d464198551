-- What the walk over pairs of selection sets keeps.
use Rattle.std.specs.Prelude.{◌≡◌, ℕ, ◌<◌, ◌++◌, List, [], Bool, true, is_some, Some, ◌⊎◌, ◌&&◌, nat_eq, slice_get}
use Rattle.std.specs.HashMap as hash
use Rattle.std.specs.List.{Contains, All}
use Rattle.hq_overlap_sets.specs.declared.sets.Pair.{Pair}
use Rattle.hq_rules_overlap.specs.declared.walk.Walk.{Walk}
use Rattle.hq_overlap_sets.specs.Sets.{FieldTree, SetTree}
use Rattle.hq_overlap_sets.specs.Pairs.{fields_at, spreads_at, Violates, later, AtMost}
use Rattle.hq_overlap_sets.specs.Together.{Together, AreConflicts}

-- a set without fields and spreads
pub record IsEmpty (sets : List SetTree) (s : ℕ) : Type 0 where
  pub fields : fields_at sets s ≡ []
  pub spreads : spreads_at sets s ≡ []

-- the pair was met in this order
abbrev pub Met : Walk → ℕ → ℕ → Type 0
Met q s t = Contains q.pairs.items (record { left = s; right = t })

-- it has a mark
abbrev pub is_marked : Walk → ℕ → ℕ → Bool
is_marked q s t = is_some (hash.get (λ x y. nat_eq x.0 y.0 && nat_eq x.1 y.1) q.marks (s, t))

-- the pair was met in either order, or there is nothing to it
abbrev pub Known : List SetTree → Walk → ℕ → ℕ → Type 0
Known sets q s t = Met q s t ⊎ Met q t s ⊎ IsEmpty sets s ⊎ IsEmpty sets t

-- the pairs are put together, what is marked was met, and the least place so far is that of a conflict
pub record IsSound (sets : List SetTree) (q : Walk) : Type 0 where
  pub together : (s t : ℕ) → Met q s t → Together sets s t
  pub marked : (s t : ℕ) → is_marked q s t ≡ true → Met q s t
  pub found : AreConflicts sets q.best

-- a walk from one state to a later one
pub record Step (sets : List SetTree) (p q : Walk) : Type 0 where
  pub kept : (s t : ℕ) → Met p s t → Met q s t
  pub grown : (more : List Pair) × (q.pairs.items ≡ p.pairs.items ++ more)
  pub lower : (n : ℕ) → AtMost p.best n → AtMost q.best n
  pub sound : IsSound sets p → IsSound sets q

-- two fields were compared: the sets below them were met, and a conflict counts
pub record Compared (sets : List SetTree) (q : Walk) (a b : FieldTree) : Type 0 where
  pub below : a.key ≡ b.key → Known sets q a.below b.below
  pub counted : Violates a b → AtMost q.best (later a b)

-- a field was compared with each of a list
abbrev pub ComparedWith : List SetTree → Walk → FieldTree → List FieldTree → Type 0
ComparedWith sets q a bs = All (Compared sets q a) bs

-- a pair of sets is done
pub record IsDone (sets : List SetTree) (q : Walk) (s t : ℕ) : Type 0 where
  pub fields : All (λ a. ComparedWith sets q a (fields_at sets t)) (fields_at sets s)
  pub left : All (λ u. Known sets q u t) (spreads_at sets s)
  pub right : All (λ u. Known sets q s u) (spreads_at sets t)

-- the pairs so far are done
abbrev pub AreDone : List SetTree → Walk → (count : ℕ) → Type 0
AreDone sets q count = (k : ℕ) (x : Pair) → k < count → slice_get q.pairs.items k ≡ Some x → IsDone sets q x.left x.right

-- each set was put together with itself, so far
abbrev pub HasRoots : List SetTree → Walk → ℕ → Type 0
HasRoots sets q n = (s : ℕ) → s < n → Known sets q s s
