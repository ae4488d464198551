-- Selection sets that are put together, each with each: such a group stands for all its pairs.
use Rattle.std.specs.Prelude.{◌≡◌, ℕ, ◌<◌, List, [], ◌∷◌, ◌++◌, Bool, false, nat_le, Option, Some, None, slice_get, Vec}
use Rattle.std.specs.declared.alloc.Global.{Global}
use Rattle.std.specs.Borrow.{Bor}
use Rattle.std.specs.HashMap.{HashMap}
use Rattle.std.specs.List.{All, Contains}
use Rattle.hq_overlap_sets.specs.Pairs.{fields_at, spreads_at, SameLabel, Violates, later, AtMost}
use Rattle.hq_overlap_sets.specs.Rows.{row_at}
use Rattle.hq_overlap_sets.specs.Sets.{FieldTree, SetTree, place_in}
use Rattle.hq_overlap_sets.specs.Together.{Together}

-- a list has each set of another one
abbrev pub HasAll : List ℕ → List ℕ → Type 0
HasAll more list = (s : ℕ) → Contains list s → Contains more s

-- each two sets of a group are put together
abbrev pub AreTogether : List SetTree → List ℕ → Type 0
AreTogether sets group = (s t : ℕ) → Contains group s → Contains group t → Together sets s t

-- a list grew by some of these numbers, and has all of them
pub record Grows (added old new : List ℕ) : Type 0 where
  pub more : List ℕ
  pub is : new ≡ old ++ more
  pub only : All (Contains added) more
  pub has : All (Contains new) added

-- with each set a group has those that it spreads
abbrev pub IsClosed : List SetTree → List ℕ → Type 0
IsClosed sets group = (s u : ℕ) → Contains group s → Contains (spreads_at sets s) u → Contains group u

-- a field stands in some set of a group
pub record IsWithin (sets : List SetTree) (group : List ℕ) (a : FieldTree) : Type 0 where
  pub set : ℕ
  pub of_group : Contains group set
  pub stands : Contains (fields_at sets set) a

-- the fields of a group
pub record AreOf (sets : List SetTree) (group : List ℕ) (fields : List FieldTree) : Type 0 where
  pub only : All (IsWithin sets group) fields
  pub all : (a : FieldTree) → IsWithin sets group a → Contains fields a

-- two fields stand in sets that are put together, and so do each two of a list
pub record IsMet (sets : List SetTree) (a b : FieldTree) : Type 0 where
  pub s : ℕ
  pub t : ℕ
  pub together : Together sets s t
  pub first : Contains (fields_at sets s) a
  pub second : Contains (fields_at sets t) b

abbrev pub AreMet : List SetTree → List FieldTree → Type 0
AreMet sets fields = (a b : FieldTree) → Contains fields a → Contains fields b → IsMet sets a b

-- a place is known that is at most this one
abbrev pub is_at_most : Option ℕ → ℕ → Bool
is_at_most None at = false
is_at_most (Some p) at = nat_le p at

-- a field shares the shape of one of its key, and name and arguments of one of its key and parent type
pub record IsSettled (first : List ℕ → Option FieldTree) (label : List ℕ → ℕ → Option FieldTree) (a : FieldTree) : Type 0 where
  pub of_key : FieldTree
  pub of_parent : FieldTree
  pub key : first a.key ≡ Some of_key
  pub parent : label a.key a.parent ≡ Some of_parent
  pub shape : of_key.shape ≡ a.shape
  pub same : SameLabel of_parent.label a.label

-- each two fields that cannot merge count
abbrev pub AreCounted : List FieldTree → Option ℕ → Type 0
AreCounted fields least = (a b : FieldTree) → Contains fields a → Contains fields b → Violates a b → AtMost least (later a b)

-- some list has both
pub record InOne (lists : List (List ℕ)) (s t : ℕ) : Type 0 where
  pub list : List ℕ
  pub of_lists : Contains lists list
  pub first : Contains list s
  pub second : Contains list t

-- some list has both sets below each two fields of one key
abbrev pub HaveBelow : List (List ℕ) → List FieldTree → Type 0
HaveBelow lists fields = (a b : FieldTree) → Contains fields a → Contains fields b → a.key ≡ b.key → InOne lists a.below b.below

-- the field at a place of a list has the key of this one
pub record IsKeyAt (fields : List FieldTree) (at : ℕ) (a : FieldTree) : Type 0 where
  pub first : FieldTree
  pub stands : slice_get fields at ≡ Some first
  pub key : first.key ≡ a.key

-- a set of a row stands below a field with the key of the row's own field
pub record IsBelow (fields : List FieldTree) (at s : ℕ) : Type 0 where
  pub field : FieldTree
  pub stands : Contains fields field
  pub of_key : IsKeyAt fields at field
  pub is : field.below ≡ s

abbrev pub AreBelow : List FieldTree → List (Vec ℕ Global) → Type 0
AreBelow fields rows = (at s : ℕ) → Contains (row_at rows at) s → IsBelow fields at s

-- the row of a field's key has the set below it
abbrev pub HasRow : {S : Type 0} → HashMap (Bor (List ℕ)) ℕ S → List (Vec ℕ Global) → FieldTree → Type 0
HasRow keys rows a = Contains (row_at rows (place_in keys a.key)) a.below

-- a group is done: it has what its sets spread, its conflicts count, and the sets below fields of one key are listed together
pub record IsDone (sets : List SetTree) (lists : List (List ℕ)) (least : Option ℕ) (group : List ℕ) : Type 0 where
  pub closed : IsClosed sets group
  pub counted : (a b : FieldTree) → IsWithin sets group a → IsWithin sets group b → Violates a b → AtMost least (later a b)
  pub below : (a b : FieldTree) → IsWithin sets group a → IsWithin sets group b → a.key ≡ b.key → InOne lists a.below b.below

-- some group that is done has all of a list
pub record IsExplored (sets : List SetTree) (lists : List (List ℕ)) (least : Option ℕ) (list : List ℕ) : Type 0 where
  pub group : List ℕ
  pub done : IsDone sets lists least group
  pub has : HasAll group list

-- each of the first lists is, and each set with a mark is in such a group
abbrev pub AreExplored : List SetTree → List (List ℕ) → Option ℕ → (count : ℕ) → Type 0
AreExplored sets lists least count = (k : ℕ) (list : List ℕ) → k < count → slice_get lists k ≡ Some list → IsExplored sets lists least list

abbrev pub IsCovered : List SetTree → List (List ℕ) → Option ℕ → ℕ → Type 0
IsCovered sets lists least s = IsExplored sets lists least (s ∷ [])
