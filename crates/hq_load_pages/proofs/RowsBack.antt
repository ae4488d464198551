-- The rows of a table read back from their run.
use Rattle.std.proofs.Common.{◌≡◌, ◌∙◌, ℕ, ◌+◌, ◌*◌, ◌<◌, ◌≤◌, true, List, [], ◌∷◌, ◌++◌, drop, length, get_or, flat_map, option_map, Some, sym, ap, subst, append_assoc}
use Rattle.std.proofs.lemmas.List.{at_drop_more, drop_all}
use Rattle.std.proofs.lemmas.Grind.{flat_map-append}
use Rattle.std.proofs.lemmas.List.Concat.{flat_map-cons}
use Rattle.hq_base.specs.Lists.{Each}
use Rattle.hq_base.specs.declared.value.Val.{Val}
use Rattle.hq_load_index.proofs.Chunked.{chunked_flat, length-flat}
use Rattle.hq_load_tables.proofs.Indexed.{rows_long}
use Rattle.hq_load_tables.specs.Tested.{rows_of_values}
use Rattle.hq_model.specs.Database.{Row, are_rows}
use Rattle.hq_model.specs.declared.table.Table.{Table}
use Rattle.hq_load_pages.specs.Cells.{cell_bytes, ReadsBack}
use Rattle.hq_load_pages.specs.Directory.{rows_of_run}
use Rattle.hq_load_pages.specs.Runs.{run_of, cells_of}
use Rattle.hq_load_pages.proofs.Cells.{run_written}

-- the values of rows
abbrev pub flat : List Row → List Val
flat rows = flat_map (λ row. row) rows

-- all of two lists
each_both : {X : Type 0} (P : X → Type 0) (xs ys : List X) → Each P xs → Each P ys → Each P (xs ++ ys)
each_both P [] ys p q = q
each_both P (x ∷ xs) ys p q = (p.0, each_both P xs ys p.1 q)

-- the values of the rows that are left are those of the next one and of the others
flat_more : (rows : List Row) (at : ℕ) → at < length rows → flat (drop at rows) ≡ get_or rows at [] ++ flat (drop (at + 1) rows)
flat_more rows at lt = at_drop_more flat rows at [] lt ∙ flat_map-cons (λ (r : List Val). r) (get_or rows at []) (drop (at + 1) rows)

-- one row more is written
pub next_written : (rows : List Row) (at : ℕ) (out new : List ℕ) → at < length rows → new ≡ out ++ run_of (get_or rows at [])
    → out ++ run_of (flat (drop at rows)) ≡ run_of (flat rows) → new ++ run_of (flat (drop (at + 1) rows)) ≡ run_of (flat rows)
next_written rows at out new lt is so_far =
    ap (λ (xs : List ℕ). xs ++ run_of (flat (drop (at + 1) rows))) is ∙ append_assoc out (run_of (get_or rows at [])) (run_of (flat (drop (at + 1) rows)))
    ∙ ap (λ (xs : List ℕ). out ++ xs) (sym (flat_map-append cell_bytes (get_or rows at []) (flat (drop (at + 1) rows))))
    ∙ ap (λ (vs : List Val). out ++ run_of vs) (sym (flat_more rows at lt)) ∙ so_far

pub next_back : (rows : List Row) (at : ℕ) → at < length rows → Each ReadsBack (get_or rows at [])
    → (Each ReadsBack (flat (drop at rows)) → Each ReadsBack (flat rows)) → Each ReadsBack (flat (drop (at + 1) rows))
    → Each ReadsBack (flat rows)
next_back rows at lt here so_far rest = so_far (subst (Each ReadsBack) (sym (flat_more rows at lt)) (each_both ReadsBack (get_or rows at []) (flat (drop (at + 1) rows)) here rest))

-- no row is left
pub all_back : (rows : List Row) (at : ℕ) → length rows ≤ at → (Each ReadsBack (flat (drop at rows)) → Each ReadsBack (flat rows)) → Each ReadsBack (flat rows)
all_back rows at le so_far = so_far (subst (λ (some : List Row). Each ReadsBack (flat some)) (sym (drop_all at rows le)) tt)

-- the rows of a table read back
pub rows_back : (t : Table) (rows : List Row) (bytes : List ℕ) → bytes ≡ run_of (flat rows) → Each ReadsBack (flat rows) → are_rows t rows ≡ true → rows_of_run t (length rows) bytes ≡ Some rows
rows_back t rows bytes is back valid =
    let long = rows_long t rows valid in
    let n = length rows in
    let w = length t.columns in
    ap (λ (b : List ℕ). option_map (rows_of_values t n) (cells_of (n * w) b)) is
    ∙ ap (λ (k : ℕ). option_map (rows_of_values t n) (cells_of k (run_of (flat rows)))) (sym (length-flat w rows long))
    ∙ ap (option_map (rows_of_values t n)) (run_written (flat rows) back) ∙ ap Some (chunked_flat w rows long)
