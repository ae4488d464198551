-- A written file is read back whole.
use Rattle.std.proofs.Common.{◌≡◌, ◌∙◌, ℕ, ◌<◌, List, [], ◌∷◌, ◌++◌, length, true, false, Ok, map, flat_map, ok_or, ap, arith}
use Rattle.std.specs.List.{list_all}
use Rattle.std.proofs.lemmas.Bool.{and_parts}
use Rattle.std.proofs.lemmas.List.{length-map}
use Rattle.csv.specs.Reading.{default_config, records, strip_bom}
use Rattle.csv.specs.Writing.{default_writer, row_text}
use Rattle.csv.specs.declared.parser.State.TheVariants as st
use Rattle.hq_base.specs.Due.{and_then}
use Rattle.hq_base.specs.Lists.{Each}
use Rattle.hq_model.specs.Database.{Row, row_fits}
use Rattle.hq_model.specs.declared.table.Column.{Column}
use Rattle.hq_model.specs.declared.table.Table.{Table}
use Rattle.hq_load_tables.specs.Load.{file_due, rows_due, table_due}
use Rattle.hq_load_tables.specs.Unclosed.{closed_due, ends_inside, is_quoted, state_behind}
use Rattle.hq_load_tables.specs.declared.load.refusal.LoadRefusal.TheVariants.{Header}
use Rattle.hq_laws_written.specs.Tables.Written.{IsWritable, begins_with_mark, field_of, file_of, first_name, records_of}
use Rattle.hq_laws_written.proofs.Tables.Closed.{behind_rows}
use Rattle.hq_laws_written.proofs.Tables.Front.{row_front, unmarked}
use Rattle.hq_laws_written.proofs.Tables.Headers.{header_back, names_of}
use Rattle.hq_laws_written.proofs.Tables.Records.{IsFilled, records_written}
use Rattle.hq_laws_written.proofs.Tables.Rows.{as_many, rows_back}

-- a list with a length is not empty
filled : (fields : List (List ℕ)) → 0 < length fields → IsFilled fields
filled fields some none = omega (arith, some, ap length none)

filled_rows : (cs : List Column) (rows : List Row) → 0 < length cs → list_all (row_fits cs) rows ≡ true → Each IsFilled (map (map field_of) rows)
filled_rows cs [] some h = tt
filled_rows cs (row ∷ rows) some h =
    let p = and_parts _ _ h in
    (filled (map field_of row) (omega (arith, length-map row field_of, as_many cs row p.0, some)), filled_rows cs rows some p.1)

-- the file begins as the first name does
front : (cs : List Column) (rest : List ℕ) → 0 < length cs → begins_with_mark (first_name cs) ≡ false → begins_with_mark (row_text default_writer (names_of cs) ++ rest) ≡ false
front [] rest some h = absurd (omega arith)
front (c ∷ cs) rest some h = row_front c.name (names_of cs) rest h

-- a written file is read as the rows that it was written from
pub written_back : (t : Table) (rows : List Row) → IsWritable t rows → table_due t (file_of t rows) ≡ Ok rows
written_back t rows h =
    let text = file_of t rows in
    let valid = and_parts _ _ h.valid in
    let fit = and_parts _ _ valid.0 in
    let names = filled (names_of t.columns) (omega (arith, length-map t.columns (λ c. c.name), h.some)) in
    let all : Each IsFilled (records_of t rows) = (names, filled_rows t.columns rows h.some fit.1) in
    let stripped : strip_bom text ≡ text = unmarked text (front t.columns (flat_map (row_text default_writer) (map (map field_of) rows)) h.some h.unmarked) in
    let read : records default_config (strip_bom text) ≡ records_of t rows = ap (records default_config) stripped ∙ records_written (records_of t rows) all in
    let closed : ends_inside text ≡ false =
    ap (λ bytes. is_quoted (state_behind st.StartRecord bytes)) stripped ∙ ap is_quoted (behind_rows (records_of t rows) all) in
    ap (λ b. closed_due b (length (records default_config (strip_bom text))) (file_due t (records default_config (strip_bom text)))) closed
    ∙ ap (file_due t) read
    ∙ ap (λ o. and_then (λ columns. rows_due t (names_of t.columns) columns [] (map (map field_of) rows)) (ok_or o Header)) (header_back t.columns h.differ)
    ∙ rows_back t [] rows h.differ valid.1 fit.1 h.plain
