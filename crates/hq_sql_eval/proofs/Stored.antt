-- The tables of a catalog with the rows that are pinned.
use Rattle.std.proofs.Common.{◌≡◌, ℕ, zero, suc, ◌+◌, ◌<◌, List, [], ◌∷◌, ◌++◌, length, Bool, true, cond, ⊎_elim, refl, sym, ap, subst, ◌∙◌, arith}
use Rattle.std.specs.Prelude.{IfSome, Some, slice_get, slice_index_or}
use Rattle.std.proofs.lemmas.Bool.{cases_lt}
use Rattle.std.proofs.lemmas.Option.{slice_get_read}
use Rattle.hq_model.specs.Database.{Row, are_rows}
use Rattle.hq_model.specs.declared.table.Table.{Table}
use Rattle.hq_sql_tree.specs.Meaning.{meaning}
use Rattle.hq_sql_tree.specs.Tree.{SelectTree}
use Rattle.hq_sql_check.specs.Agree.{HasRows, MeansAlike}
use Rattle.hq_sql_check.specs.Scans.{scans}

-- an item in front of the end, and the one at the end
at_front : (xs : List (List Row)) (x : List Row) (t : ℕ) → t < length xs → slice_index_or (xs ++ x ∷ []) t [] ≡ slice_index_or xs t []
at_front [] x t lt = absurd (omega arith)
at_front (y ∷ ys) x zero lt = refl
at_front (y ∷ ys) x (suc t) lt = at_front ys x t (omega arith)

at_end : (xs : List (List Row)) (x : List Row) → slice_index_or (xs ++ x ∷ []) (length xs) [] ≡ x
at_end [] x = refl
at_end (y ∷ ys) x = at_end ys x

-- the rows of one more table
pub rows_grow : (s : SelectTree) (tables : List Table) (rows : ℕ → List Row) (so_far : List (List Row)) (mark : Bool) (at : ℕ) → length so_far ≡ at → mark ≡ scans s tables at
    → ((t : ℕ) → t < at → scans s tables t ≡ true → slice_index_or so_far t [] ≡ rows t)
    → (t : ℕ) → t < at + 1 → scans s tables t ≡ true → slice_index_or (so_far ++ cond mark (rows at) [] ∷ []) t [] ≡ rows t
rows_grow s tables rows so_far mark at long marked before t lt is =
    ⊎_elim
    (λ earlier. at_front so_far (cond mark (rows at) []) t (subst (λ n. t < n) (sym long) earlier) ∙ before t earlier is)
    (λ later.
    let here : at ≡ t = omega arith in
    let scanned : mark ≡ true = marked ∙ ap (scans s tables) here ∙ is in
    ap (λ n. slice_index_or (so_far ++ cond mark (rows at) [] ∷ []) n []) (sym here ∙ sym long) ∙ at_end so_far (cond mark (rows at) []) ∙ ap (λ b. cond b (rows at) []) scanned ∙ ap rows here)
    (cases_lt t at)

-- the meaning over the pinned rows is that over each database that has them
pub means_pinned : (s : SelectTree) (tables : List Table) (rows : ℕ → List Row) (own d : List (List Row)) → MeansAlike s tables → HasRows s tables rows own → HasRows s tables rows d
    → meaning s (record { tables = tables; database = own }) ≡ meaning s (record { tables = tables; database = d })
means_pinned s tables rows own d law has_own has = law own d (λ t is. has_own t is ∙ sym (has t is))

-- the rows that are pinned of a table are valid for it
pub valid_rows : (tables : List Table) (at : ℕ) (table : Table) (rows : List Row) → slice_get tables at ≡ Some table
    → IfSome (slice_get tables at) (λ t. are_rows t rows ≡ true) → are_rows table rows ≡ true
valid_rows tables at table rows e h = rw e at h

-- a table of the catalog stands at its place
pub table_at : (tables list : List Table) (at : ℕ) (table : Table) → list ≡ tables → at < length list → table ≡ slice_index_or list at table → slice_get tables at ≡ Some table
table_at tables list at table same lt is = ap (λ l. slice_get l at) (sym same) ∙ slice_get_read list (length list) at table refl lt is
