-- The rows of each table of a database.
use Rattle.std.proofs.Common.{◌≡◌, ◌<◌, List, [], ◌∷◌, ◌++◌, length, true, Some, slice_get, subst, arith}
use Rattle.std.proofs.lemmas.Bool.{and_parts}
use Rattle.hq_model.specs.Database.{Row, are_rows, is_database}
use Rattle.hq_model.specs.declared.table.Table.{Table}

-- there is a table for the rows behind others
pub table_there : (ts : List Table) (front : List (List Row)) (rows : List Row) (rest : List (List Row)) → is_database ts (front ++ rows ∷ rest) ≡ true → length front < length ts
table_there [] [] rows rest h = cc
table_there [] (f ∷ fs) rows rest h = cc
table_there (t ∷ ts) [] rows rest h = omega arith
table_there (t ∷ ts) (f ∷ fs) rows rest h = let later = table_there ts fs rows rest (and_parts (are_rows t f) (is_database ts (fs ++ rows ∷ rest)) h).1 in omega (arith, later)

-- and they are rows of it
pub rows_there : (ts : List Table) (front : List (List Row)) (rows : List Row) (rest : List (List Row)) (t : Table) → is_database ts (front ++ rows ∷ rest) ≡ true
    → slice_get ts (length front) ≡ Some t → are_rows t rows ≡ true
rows_there [] [] rows rest t h e = cc
rows_there [] (f ∷ fs) rows rest t h e = cc
rows_there (u ∷ ts) [] rows rest t h e = let same : u ≡ t = cc in subst (λ w. are_rows w rows ≡ true) same (and_parts (are_rows u rows) (is_database ts rest) h).0
rows_there (u ∷ ts) (f ∷ fs) rows rest t h e = rows_there ts fs rows rest t (and_parts (are_rows u f) (is_database ts (fs ++ rows ∷ rest)) h).1 e
