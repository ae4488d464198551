-- The rows of all tables are a database.
use Rattle.std.proofs.Common.{◌≡◌, ◌∙◌, ℕ, zero, suc, ◌<◌, List, [], ◌∷◌, length, true, Option, Some, None, refl, sym, ap₂, subst, arith}
use Rattle.std.specs.Prelude.{IfSome, slice_get, slice_index_or}
use Rattle.std.specs.Cmp.{second_so}
use Rattle.std.proofs.lemmas.Bool.{false≢true}
use Rattle.hq_model.specs.Database.{Row, are_rows, is_database}
use Rattle.hq_model.specs.declared.table.Table.{Table}

-- a database of valid rows of each table
pub whole_database : (ts : List Table) (d : List (List Row)) → length d ≡ length ts
    → ((t : ℕ) → t < length ts → IfSome (slice_get ts t) (λ table. are_rows table (slice_index_or d t []) ≡ true)) → is_database ts d ≡ true
whole_database [] [] long valid = refl
whole_database [] (rows ∷ d) long valid = absurd (omega (arith, long))
whole_database (t ∷ ts) [] long valid = absurd (omega (arith, long))
whole_database (t ∷ ts) (rows ∷ d) long valid =
    let here : are_rows t rows ≡ true = valid zero (omega arith) in
    let rest : is_database ts d ≡ true = whole_database ts d (omega (arith, long)) (λ u lt. valid (suc u) (omega arith)) in
    rw (here, rest) refl

-- lists that are as long as a catalog, and equal at each of its tables
pub same_database : (ts : List Table) (d e : List (List Row)) → length d ≡ length ts → is_database ts e ≡ true → ((t : ℕ) → t < length ts → slice_index_or d t [] ≡ slice_index_or e t []) → d ≡ e
same_database [] [] [] long valid same = refl
same_database [] [] (rows ∷ e) long valid same = absurd (false≢true valid)
same_database [] (rows ∷ d) e long valid same = absurd (omega (arith, long))
same_database (t ∷ ts) [] e long valid same = absurd (omega (arith, long))
same_database (t ∷ ts) (rows ∷ d) [] long valid same = absurd (false≢true valid)
same_database (t ∷ ts) (rows ∷ d) (others ∷ e) long valid same =
    let here : rows ≡ others = same zero (omega arith) in
    let rest : d ≡ e = same_database ts d e (omega (arith, long)) (second_so (are_rows t others) (is_database ts e) valid) (λ u lt. same (suc u) (omega arith)) in
    ap₂ (λ r l. r ∷ l) here rest

-- rows of each table, which are valid
pub valid_rows : (ts : List Table) (d : List (List Row)) (rows : ℕ → List Row) → length d ≡ length ts → ((t : ℕ) → t < length ts → slice_index_or d t [] ≡ rows t)
    → ((t : ℕ) → t < length ts → IfSome (slice_get ts t) (λ table. are_rows table (rows t) ≡ true)) → is_database ts d ≡ true
valid_rows ts d rows long same valid =
    whole_database ts d long (λ t lt. subst (λ r. IfSome (slice_get ts t) (λ table. are_rows table r ≡ true)) (sym (same t lt)) (valid t lt))

-- and those of a told database
pub told_rows : (ts : List Table) (d : List (List Row)) (rows : ℕ → List Row) (o : Option (List (List Row))) → length d ≡ length ts → ((t : ℕ) → t < length ts → slice_index_or d t [] ≡ rows t)
    → IfSome o (λ all. is_database ts all ≡ true) → ((t : ℕ) → t < length ts → IfSome o (λ all. rows t ≡ slice_index_or all t [])) → IfSome o (λ all. d ≡ all)
told_rows ts d rows None long same valid told = tt
told_rows ts d rows (Some all) long same valid told = same_database ts d all long valid (λ t lt. same t lt ∙ told t lt)
