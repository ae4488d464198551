-- Databases, table by table.
use Rattle.std.specs.Prelude.{◌≡◌, ℕ, zero, suc, true, List, [], ◌∷◌, IfSome, slice_get, slice_index_or}
use Rattle.std.specs.Cmp.{first_so, second_so}
use Rattle.std.proofs.lemmas.Bool.{false≢true}
use Rattle.hq_model.specs.declared.table.Table.{Table}
use Rattle.hq_model.specs.Database.{Row, are_rows, is_database}

-- the rows of a table of the catalog are valid for it
pub rows_at-database : (tables : List Table) (all : List (List Row)) (t : ℕ) → is_database tables all ≡ true → IfSome (slice_get tables t) (λ table. are_rows table (slice_index_or all t []) ≡ true)
rows_at-database [] all t h = tt
rows_at-database (t ∷ tables) [] i h = absurd (false≢true h)
rows_at-database (t ∷ tables) (rows ∷ all) zero h = first_so (are_rows t rows) (is_database tables all) h
rows_at-database (t ∷ tables) (rows ∷ all) (suc i) h = rows_at-database tables all i (second_so (are_rows t rows) (is_database tables all) h)
