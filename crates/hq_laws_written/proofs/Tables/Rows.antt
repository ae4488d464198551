-- The records of a written file are read as its rows.
use Rattle.std.proofs.Common.{◌≡◌, ◌∙◌, ℕ, suc, ◌+◌, ◌==◌, List, [], ◌∷◌, ◌++◌, length, Bool, true, false, not, None, Ok, map, refl, sym, ap, eq-eqb, append_assoc, append-nil}
use Rattle.std.specs.List.{list_all, list_any, position_from}
use Rattle.std.proofs.lemmas.Bool.{and_parts, or_parts}
use Rattle.std.proofs.lemmas.List.{length-map}
use Rattle.hq_base.specs.Due.{and_then, mapped}
use Rattle.hq_base.specs.Lists.{all_differ}
use Rattle.hq_base.specs.declared.value.Val.{Val}
use Rattle.hq_model.specs.Database.{Row, key_of, row_fits, same_values}
use Rattle.hq_model.specs.declared.table.Column.{Column}
use Rattle.hq_model.specs.declared.table.Table.{Table}
use Rattle.hq_load_tables.specs.Header.{in_catalog_order, names_differ}
use Rattle.hq_load_tables.specs.Load.{line_of_key, record_due, row_due, rows_due, unless_repeated}
use Rattle.hq_laws_written.specs.Tables.Written.{field_of, is_plain}
use Rattle.hq_laws_written.proofs.Tables.Fields.{fields_back}
use Rattle.hq_laws_written.proofs.Tables.Headers.{names_of, order_back}

not_true : (b : Bool) → not b ≡ true → b ≡ false
not_true true h = cc
not_true false h = refl

-- a row that fits has a value for each column
pub as_many : (cs : List Column) (vs : List Val) → row_fits cs vs ≡ true → length vs ≡ length cs
as_many [] [] h = refl
as_many [] (v ∷ vs) h = cc
as_many (c ∷ cs) [] h = cc
as_many (c ∷ cs) (v ∷ vs) h = ap suc (as_many cs vs (and_parts _ _ h).1)

-- the record of a row is read as that row
record_back : (line : ℕ) (t : Table) (row : Row) → names_differ t.columns ≡ true → row_fits t.columns row ≡ true → list_all is_plain row ≡ true
    → record_due line t (names_of t.columns) t.columns (map field_of row) ≡ Ok row
record_back line t row differ fits plain =
    let many : (length (map field_of row) == length t.columns) ≡ true = eq-eqb _ _ (length-map row field_of ∙ as_many t.columns row fits) in
    rw many (ap (mapped (in_catalog_order t.columns (names_of t.columns))) (fields_back line 1 t.columns row fits plain) ∙ ap Ok (order_back t.columns row differ fits))

-- ---- keys

-- the two rows have one key
abbrev same_key : Table → Row → Row → Bool
same_key t x y = same_values (key_of t x) (key_of t y)

-- an item that stands somewhere passes no test that none passes
none_here : {A : Type 0} (p : A → Bool) (xs ys : List A) (y : A) → list_any p (xs ++ y ∷ ys) ≡ false → p y ≡ false
none_here p [] ys y h = (or_parts (p y) _ h).0
none_here p (x ∷ xs) ys y h = none_here p xs ys y (or_parts (p x) _ h).1

-- no earlier row has the key of this one
new_key : (t : Table) (n : ℕ) (seen rest : List Row) (row : Row) → all_differ (same_key t) (seen ++ row ∷ rest) ≡ true
    → position_from (λ x. same_values (key_of t x) (key_of t row)) n seen ≡ None
new_key t n [] rest row h = refl
new_key t n (x ∷ seen) rest row h =
    let p = and_parts _ _ h in
    rw (none_here (same_key t x) seen rest row (not_true _ p.0)) (new_key t (n + 1) seen rest row p.1)

-- the records are read as the rows
pub rows_back : (t : Table) (seen rest : List Row) → names_differ t.columns ≡ true → all_differ (same_key t) (seen ++ rest) ≡ true → list_all (row_fits t.columns) rest ≡ true
    → list_all (list_all is_plain) rest ≡ true → rows_due t (names_of t.columns) t.columns seen (map (map field_of) rest) ≡ Ok (seen ++ rest)
rows_back t seen [] differ keys fits plain = ap Ok (sym (append-nil seen))
rows_back t seen (row ∷ rest) differ keys fits plain =
    let p = and_parts _ _ fits in
    let q = and_parts _ _ plain in
    let shifted = append_assoc seen (row ∷ []) rest in
    let one : row_due t (names_of t.columns) t.columns seen (map field_of row) ≡ Ok row =
    ap (and_then (λ r. unless_repeated (length seen + 2) r (line_of_key t seen (key_of t r)))) (record_back (length seen + 2) t row differ p.0 q.0)
    ∙ ap (unless_repeated (length seen + 2) row) (new_key t 2 seen rest row keys) in
    ap (and_then (λ r. rows_due t (names_of t.columns) t.columns (seen ++ r ∷ []) (map (map field_of) rest))) one
    ∙ rows_back t (seen ++ row ∷ []) rest differ (rw shifted keys) p.1 q.1
    ∙ ap Ok shifted
