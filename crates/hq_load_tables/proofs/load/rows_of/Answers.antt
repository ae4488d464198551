use Rattle.std.proofs.Common.{◌≡◌, ◌∙◌, ◌∷◌, ◌<◌, ◌^◌, [], true, List, Ok, Err, length, sym, ap, subst, inl, inr, rules, arith}
use Rattle.std.specs.Prelude.{◌⊎◌}
use Rattle.csv.specs.Records.{fields_of}
use Rattle.hq_base.specs.Due.{Gives}
use Rattle.hq_load_index.specs.Grids.{rows_in}
use Rattle.hq_model.specs.Database.{Row, are_rows}
use Rattle.hq_load_tables.specs.Keys.{keys_due}
use Rattle.hq_load_tables.specs.Readers.{left_of}
use Rattle.hq_load_tables.specs.Load.{file_due}
use Rattle.hq_load_tables.specs.declared.load.refusal.LoadRefusal.{LoadRefusal}
use Rattle.hq_load_tables.specs.declared.load.refusal.LoadRefusal.TheVariants as refusal
use Rattle.hq_load_tables.proofs.NextRows.{rows_read-few, file_due-header, file_due-keys, file_due-rows, valid_from}
use Rattle.hq_load_tables.proofs.Valid.{rows_due-valid}
use Rattle.hq_load_tables.proofs.load.rows_of.Goals as goal

-- the records behind the header are few
pub read_under-requires-clause-few : goal.read_under-requires-clause-few
read_under-requires-clause-few c =
    let yes : c.in_ok-next_record.field-0 ≡ true = search rules in
    let all : left_of c.args.reader.now ≡ fields_of c.next_record.new.fields ∷ left_of c.next_record.new.reader = rw yes at c.in_ok-next_record.ensures.read in
    let many = ap length all in
    omega (arith, many, c.requires.few)

-- a header that is not the table's column names
pub returns-in_err-read-clause-due : goal.returns-in_err-read-clause-due
returns-in_err-read-clause-due c =
    let yes : c.in_ok-next_record.field-0 ≡ true = search rules in
    let all : left_of c.args.reader.now ≡ fields_of c.next_record.new.fields ∷ left_of c.next_record.new.reader = rw yes at c.in_ok-next_record.ensures.read in
    let e : LoadRefusal = c.in_err-read.field-0.0 in
    let refused : (e ≡ refusal.Memory) ⊎ (file_due c.args.table.now (left_of c.args.reader.now) ≡ Err e) =
    elim c.in_err-read.ensures [
      | inl memory ↦ inl memory
      | inr header ↦ inr (file_due-header c.args.table.now (left_of c.args.reader.now) _ _ all header.1 ∙ ap Err (sym header.0))
    ] in
    search rules

-- and so are their rows
pub with_keys-requires : goal.with_keys-requires
with_keys-requires c =
    let yes : c.in_ok-next_record.field-0 ≡ true = search rules in
    let rest = left_of c.next_record.new.reader in
    let names = fields_of c.next_record.new.fields in
    let all : left_of c.args.reader.now ≡ names ∷ rest = rw yes at c.in_ok-next_record.ensures.read in
    let under = c.in_ok-read.ensures in
    let many = ap length all in
    let few = rows_read-few 2 c.args.table.now names under.columns rest in
    let rows = ap (λ p. length p.0) under.read in
    omega (arith, many, few, rows, c.requires.few)

-- the rows of the file are those of its records and their keys
pub returns-clause-due : goal.returns-clause-due
returns-clause-due c =
    let yes : c.in_ok-next_record.field-0 ≡ true = search rules in
    let rest = left_of c.next_record.new.reader in
    let names = fields_of c.next_record.new.fields in
    let all : left_of c.args.reader.now ≡ names ∷ rest = rw yes at c.in_ok-next_record.ensures.read in
    let under = c.in_ok-read.ensures in
    let due = file_due-keys c.args.table.now (left_of c.args.reader.now) names under.columns rest (rows_in c.in_ok-read.read.grid) c.in_ok-read.read.refusal all under.header under.read in
    subst (λ wanted. Gives (λ rows. rows) refusal.Memory wanted c.with_keys.result) (sym due) c.with_keys.ensures

-- and fit the table
pub returns-clause-valid : goal.returns-clause-valid
returns-clause-valid c =
    let yes : c.in_ok-next_record.field-0 ≡ true = search rules in
    let rest = left_of c.next_record.new.reader in
    let names = fields_of c.next_record.new.fields in
    let all : left_of c.args.reader.now ≡ names ∷ rest = rw yes at c.in_ok-next_record.ensures.read in
    let under = c.in_ok-read.ensures in
    let t = c.args.table.now in
    let rows = rows_in c.in_ok-read.read.grid in
    let refused = c.in_ok-read.read.refusal in
    let many = ap length all in
    let few : length rest < 2 ^ 31 = omega (arith, many, c.requires.few) in
    let keys = file_due-keys t (left_of c.args.reader.now) names under.columns rest rows refused all under.header under.read in
    let by_rows = file_due-rows t (left_of c.args.reader.now) names under.columns rest all under.header in
    let valid : (kept : List Row) → keys_due t [] rows refused ≡ Ok kept → are_rows t kept ≡ true =
    λ kept e. rows_due-valid t names under.columns rest kept c.requires.names under.header few (sym by_rows ∙ (keys ∙ e)) in
    valid_from t (keys_due t [] rows refused) c.with_keys.result c.with_keys.ensures valid
