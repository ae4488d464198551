-- The range in which a condition asks a column to be (PostgreSQL, comparison operators, index scans).
use Rattle.std.specs.Prelude.{◌≡◌, ◌<◌, ◌≤◌, ℕ, List, [], ◌∷◌, filter, length, Bool, true, ◌&&◌, slice_index_or}
use Rattle.hq_base.specs.Cells.{CellTree}
use Rattle.hq_base.specs.declared.value.Val.{Val}
use Rattle.hq_load_index.specs.Keys.{cell_in, cell_view}
use Rattle.hq_model.specs.Logic.{compared, is_true}
use Rattle.hq_model.specs.declared.truth.Truth.TheVariants.{Yes}
use Rattle.hq_sql_tree.specs.Meaning.{Scope as Names, World, cell_named, truth_at}
use Rattle.hq_sql_tree.specs.Tree.{PredTree}
use Rattle.hq_sql_constants.specs.declared.ranged.Bound.{Bound}
use Rattle.hq_sql_constants.specs.declared.spans.Between.{Between}

-- whether a cell compares with a constant as it is asked to
abbrev pub meets : Bound → CellTree → Bool
meets b c = is_true (compared b.op c (cell_view b.value))

abbrev pub meets_all : List Bound → CellTree → Bool
meets_all [] c = true
meets_all (b ∷ bs) c = meets b c && meets_all bs c

-- where the condition is true, the cell of this name of the alias meets a comparison
pub record AsksBound (p : PredTree) (alias name : List ℕ) (b : Bound) : Type 0 where
  pub asks : (w : World) (m : Names) → truth_at p w m ≡ Yes → meets b (cell_named (m alias) name) ≡ true

-- the same of several
pub record AsksAll (p : PredTree) (alias name : List ℕ) (bs : List Bound) : Type 0 where
  pub asks : (w : World) (m : Names) → truth_at p w m ≡ Yes → meets_all bs (cell_named (m alias) name) ≡ true

-- the same of several, of which there is one
pub record AsksRange (p : PredTree) (alias name : List ℕ) (bs : List Bound) : Type 0 where
  pub some : 0 < length bs
  pub all : AsksAll p alias name bs

-- a number stands between two places
abbrev pub IsIn : Between → ℕ → Type 0
IsIn s i = (s.from ≤ i) × (i < s.to)

-- whether the row of an entry meets comparisons in a column
abbrev pub row_meets : (column : ℕ) → List (List Val) → List Bound → ℕ → Bool
row_meets column rows bs n = meets_all bs (cell_in (slice_index_or rows n []) column)

-- the entries whose rows meet a comparison, and that stand between two places, stand between these
pub record Narrows (column : ℕ) (rows : List (List Val)) (entries : List ℕ) (b : Bound) (old new : Between) : Type 0 where
  pub ordered : new.from ≤ new.to
  pub within : new.to ≤ old.to
  pub keeps : (i : ℕ) → i < length entries → meets b (cell_in (slice_index_or rows (slice_index_or entries i 0) []) column) ≡ true → IsIn old i → IsIn new i

-- the entries whose rows meet comparisons stand between these places
pub record StandsBetween (column : ℕ) (rows : List (List Val)) (entries : List ℕ) (bs : List Bound) (s : Between) : Type 0 where
  pub ordered : s.from ≤ s.to
  pub within : s.to ≤ length entries
  pub between : (i : ℕ) → i < length entries → row_meets column rows bs (slice_index_or entries i 0) ≡ true → IsIn s i

-- of the rows that meet comparisons both have the same, in one order
abbrev pub HaveSame : (column : ℕ) → List (List Val) → List Bound → (places others : List ℕ) → Type 0
HaveSame column rows bs places others = filter (row_meets column rows bs) places ≡ filter (row_meets column rows bs) others
