-- What is noted in memory of a document's sets is so: sets that share a class are of one class, what is noted of a class stands in it,
-- and what is said to be in dispute is.
use Rattle.std.specs.Prelude.{◌≡◌, ℕ, List, Bool, true, Some, ◌<◌, ◌≤◌, sum_by, slice_get, Vec}
use Rattle.std.specs.declared.alloc.Global.{Global}
use Rattle.std.specs.List.{All, Contains}
use Rattle.std.specs.List.Sorted.{IsStrictlyIncreasing}
use Rattle.hq_schema.specs.Schema.{SchemaTree}
use Rattle.hq_overlap_classes.specs.declared.classes.Classes.{Classes}
use Rattle.hq_overlap_classes.specs.declared.disputes.Disputes.{Disputes}
use Rattle.hq_overlap_classes.specs.declared.partition.Partition.{Partition}
use Rattle.hq_overlap_classes.specs.Classes.{Joined, IsOfClass, AtFault, size_at}
use Rattle.hq_overlap_classes.specs.Disputes.{first_of, label_of, is_disputed}
use Rattle.hq_overlap_sets.specs.declared.sets.Entry.{Entry}
use Rattle.hq_overlap_sets.specs.declared.sets.Pair.{Pair}
use Rattle.hq_overlap_sets.specs.Rows.{row_at}
use Rattle.hq_overlap_sets.specs.Sets.{SetTree, entry_view}

-- the class of each set, and the members of each class
abbrev pub AreClasses : List SetTree → List ℕ → Type 0
AreClasses sets classes = (s c : ℕ) → slice_get classes s ≡ Some c → Joined sets c s

abbrev pub AreMembers : List SetTree → List (Vec ℕ Global) → Type 0
AreMembers sets members = (c s : ℕ) → Contains (row_at members c) s → Joined sets c s

pub record IsPartition (sets : List SetTree) (p : Partition) : Type 0 where
  pub classes : AreClasses sets p.classes.items
  pub members : AreMembers sets p.members.items

-- sets that are still to be joined
abbrev pub AreToJoin : List SetTree → List Pair → Type 0
AreToJoin sets pending = All (λ p. Joined sets p.left p.right) pending

-- the fields that are noted stand in their classes
pub record AreNoted (s : SchemaTree) (sets : List SetTree) (x : Classes) : Type 0 where
  pub partition : IsPartition sets x.sets
  pub firsts : (c k : ℕ) (e : Entry) → first_of x c k ≡ Some e → IsOfClass sets c (entry_view s e)

-- and so do those of each parent type; a key in dispute is in a class at fault
pub record AreDisputed (s : SchemaTree) (sets : List SetTree) (d : Disputes) : Type 0 where
  pub classes : AreNoted s sets d.classes
  pub labels : (c k p : ℕ) (e : Entry) → label_of d c k p ≡ Some e → IsOfClass sets c (entry_view s e)
  pub disputed : (c k : ℕ) → is_disputed d c k ≡ true → AtFault sets c

-- an edge of a graph leads from a class at fault to one that is
abbrev pub AreEdges : List SetTree → List (Vec ℕ Global) → Type 0
AreEdges sets rows = (c t : ℕ) → Contains (row_at rows c) t → AtFault sets c → AtFault sets t

-- the classes with a mark are at fault
abbrev pub AreMarked : List SetTree → List Bool → Type 0
AreMarked sets marks = (c : ℕ) → slice_get marks c ≡ Some true → AtFault sets c

-- all that is noted is so
pub record IsSo (s : SchemaTree) (sets : List SetTree) (d : Disputes) : Type 0 where
  pub noted : AreDisputed s sets d
  pub concerned : AreMarked sets d.concerned.items

-- sets at fault in ascending order, all before a number, that count no less than a sum
pub record AreFound (sets : List SetTree) (before sum : ℕ) : Type 0 where
  pub found : List ℕ
  pub ascending : IsStrictlyIncreasing found
  pub at_fault : All (AtFault sets) found
  pub low : All (λ s. s < before) found
  pub enough : sum ≤ sum_by (size_at sets) found
