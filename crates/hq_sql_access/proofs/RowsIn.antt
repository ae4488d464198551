-- The rows of a FROM by their places.
use Rattle.std.proofs.Common.{◌≡◌, ◌<◌, ℕ, zero, suc, [], length, get_or, refl, arith}
use Rattle.hq_sql_access.specs.View.{source_view, row_in}
use Rattle.hq_sql_access.specs.declared.scope.Source.{Source}
use Rattle.hq_sql_access.specs.declared.scope.Source.TheVariants as source

-- the row at a place that there is
pub row_in_is : (from : Source) (i : ℕ) → i < length (source_view from) → get_or (source_view from) i [] ≡ row_in from i
row_in_is (source.Stored stored) i h = refl
row_in_is (source.Made made) i h = refl
row_in_is source.One zero h = refl
row_in_is source.One (suc i) h = absurd (omega arith)
