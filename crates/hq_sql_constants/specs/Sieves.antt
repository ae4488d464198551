-- Tests that tell of a row of FROM whether WHERE keeps it.
use Rattle.std.specs.Prelude.{◌≡◌, ℕ, List, [], ◌∷◌, filter, Bool, true, false, ◌&&◌}
use Rattle.std.specs.Global.{Vec}
use Rattle.hq_model.specs.Database.{Row}
use Rattle.hq_model.specs.declared.table.Column.{Column}
use Rattle.hq_sql_access.specs.Equations.{is_joined}
use Rattle.hq_sql_access.specs.declared.scope.Source.{Source}
use Rattle.hq_sql_access.specs.declared.scope.Source.TheVariants.{Stored, Made, One}
use Rattle.hq_sql_tree.specs.Meaning.{NamedRow, Scope as Names, World, joined, kept, named_row, with_alias}
use Rattle.hq_sql_tree.specs.Tree.{FilterTree, JoinTrees}
use Rattle.hq_sql_constants.specs.RowTests.{one_holds}
use Rattle.hq_sql_constants.specs.declared.row_test.RowTest.{RowTest}
use Rattle.hq_sql_constants.specs.declared.sieve.Sieve.{Sieve}
use Rattle.hq_sql_constants.specs.declared.sieve.Verdict.{Verdict}
use Rattle.hq_sql_constants.specs.declared.sieve.Verdict.TheVariants.{Kept, Dropped, Open}

-- of each list one test is true of a row
abbrev pub all_hold : List (Vec RowTest) → Row → Bool
all_hold [] row = true
all_hold (ts ∷ rest) row = one_holds ts.items row && all_hold rest row

-- the tests are true of a row of the table wherever a condition keeps it, and nowhere else, if they are all that it asks for
pub record IsSieve (w : World) (columns : List Column) (alias : List ℕ) (keeps : World → Names → Bool) (s : Sieve) : Type 0 where
  pub drops : (row : Row) (m : Names) → m alias ≡ named_row columns row → keeps w m ≡ true → all_hold s.tests.items row ≡ true
  pub decides : s.whole ≡ true → (row : Row) (m : Names) → m alias ≡ named_row columns row → all_hold s.tests.items row ≡ true → keeps w m ≡ true

-- the same of the rows of a source, where no join has the alias
abbrev pub SievesOver : World → Source → (alias : List ℕ) → JoinTrees → FilterTree → Sieve → Type 0
SievesOver w (Stored stored) alias js f s = (is_joined js alias ≡ false) × IsSieve w stored.now.table.now.columns alias (kept f) s
SievesOver w (Made rows) alias js f s = Unit {0}
SievesOver w One alias js f s = Unit {0}

-- what is told of a row is so, whatever else is in scope: WHERE keeps each row of the joins at it, or none
abbrev pub Tells : World → JoinTrees → FilterTree → (alias : List ℕ) → NamedRow → Verdict → Type 0
Tells w js f alias row Kept = (n : Names) → filter (kept f w) (joined js w (with_alias n alias row)) ≡ joined js w (with_alias n alias row)
Tells w js f alias row Dropped = (n : Names) → filter (kept f w) (joined js w (with_alias n alias row)) ≡ []
Tells w js f alias row Open = Unit {0}
