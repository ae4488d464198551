-- Databases, table by table.
use Rattle.std.proofs.Common.{◌≡◌, suc, true, List, [], ◌∷◌, length, refl, ap}
use Rattle.std.specs.Cmp.{second_so}
use Rattle.hq_model.specs.declared.table.Table.{Table}
use Rattle.hq_model.specs.Database.{Row, are_rows, is_database}

-- a database has rows for each table of its catalog
pub length-database : (tables : List Table) (all : List (List Row)) → is_database tables all ≡ true → length all ≡ length tables
length-database [] [] h = refl
length-database [] (rows ∷ all) h = cc
length-database (t ∷ tables) [] h = cc
length-database (t ∷ tables) (rows ∷ all) h = ap suc (length-database tables all (second_so (are_rows t rows) (is_database tables all) h))
