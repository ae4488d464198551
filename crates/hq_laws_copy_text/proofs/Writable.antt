-- The file of a table of a copy is read back, and it is the text of the part of that name.
use Rattle.std.proofs.Common.{◌≡◌, ℕ, zero, suc, ◌+◌, List, [], ◌∷◌, ◌++◌, length, Bool, true, false, cond, ◌&&◌, ◌||◌, ◌==◌, Some, None, refl, sym, ap, ap₂, ◌∙◌, slice_get}
use Rattle.std.proofs.lemmas.Bool.{and_parts, and_from, or_right, eqb-true, ltb-true, not_from_false, false≢true}
use Rattle.std.proofs.lemmas.Slice.Eq.{bytes_eq-Decides}
use Rattle.std.specs.List.{list_all, list_any}
use Rattle.std.specs.Prelude.{bytes_eq, codes}
use Rattle.csv.specs.Reading.{is_bom}
use Rattle.hq_base.specs.declared.value.Val.{Val}
use Rattle.hq_base.specs.declared.value.Val.TheVariants as val
use Rattle.hq_copy.specs.Files.{file_of, files_of}
use Rattle.hq_copy_definition.specs.Refusals.{begins_with, begins_with_mark, byte_order_mark, is_null_text, refused_if, row_refusal}
use Rattle.hq_copy_definition.proofs.Apart.{Apart}
use Rattle.hq_copy_definition.proofs.Lists.{each_at}
use Rattle.hq_copy_text.specs.Parts.{table_text}
use Rattle.hq_laws_copy.proofs.Views.Refused.{neither, not_refused}
use Rattle.hq_laws_copy.proofs.Fits.Texts.{texts_differ}
use Rattle.hq_copy_text.specs.Clean.{is_clean_value}
use Rattle.hq_laws_written.specs.Tables.Written.{IsWritable, first_name, is_plain, begins_with_mark as is_marked, file_of as written}
use Rattle.hq_model.specs.Catalog.{full_name, is_table}
use Rattle.hq_model.specs.Database.{Row, are_rows, is_database}
use Rattle.hq_model.specs.declared.table.Column.{Column}
use Rattle.hq_model.specs.declared.table.Table.{Table}

-- ---- the text of a table's part

same_bytes : (x y : List ℕ) → x ≡ y → bytes_eq x y ≡ true
same_bytes x y e = (bytes_eq-Decides x y).1 e

pub text_at : (ts : List Table) (d : List (List Row)) (i : ℕ) (t : Table) (rows : List Row) → Apart (λ (a b : Table). bytes_eq (full_name a) (full_name b)) ts → slice_get ts i ≡ Some t
    → slice_get d i ≡ Some rows → table_text ts d (full_name t) ≡ Some (written t rows)
text_at [] d i t rows h e f = cc
text_at (u ∷ ts) [] i t rows h e f = cc
text_at (u ∷ ts) (r ∷ d) zero t rows h e f =
    let same : u ≡ t = cc in
    let given : r ≡ rows = cc in
    ap (λ b. cond b (Some (written u r)) (table_text ts d (full_name t))) (same_bytes (full_name u) (full_name t) (ap full_name same)) ∙ ap₂ (λ a b. Some (written a b)) same given
text_at (u ∷ ts) (r ∷ d) (suc i) t rows h e f =
    ap (λ b. cond b (Some (written u r)) (table_text ts d (full_name t))) (each_at (λ w. bytes_eq (full_name u) (full_name w) ≡ false) ts i t h.0 e) ∙ text_at ts d i t rows h.1 e f

-- a full name has a point, and no other part's name has
dotted : (xs ys : List ℕ) → list_any (λ b. b == 46) ((xs ++ codes ".") ++ ys) ≡ true
dotted [] ys = refl
dotted (x ∷ xs) ys = or_right (x == 46) (list_any (λ b. b == 46) ((xs ++ codes ".") ++ ys)) (dotted xs ys)

pub other_part : (t : Table) (name : List ℕ) → list_any (λ b. b == 46) name ≡ false → bytes_eq (full_name t) name ≡ false
other_part t name h = texts_differ (full_name t) name (λ same. false≢true (sym h ∙ sym (ap (list_any (λ b. b == 46)) same) ∙ dotted t.schema t.name))

-- ---- rows whose texts are no NULL

value_plain : (v : Val) → is_null_text v ≡ false → is_clean_value v ≡ true → is_plain v ≡ true
value_plain val.Null n h = refl
value_plain (val.Int k) n h = refl
value_plain (val.Text s) n h = let both = and_parts _ _ h in and_from _ _ both.0 (and_from _ _ both.1 (not_from_false (bytes_eq s (codes "\\N")) n))
value_plain (val.Bool b) n h = refl

row_plain : (row : Row) → list_any is_null_text row ≡ false → list_all is_clean_value row ≡ true → list_all is_plain row ≡ true
row_plain [] n h = refl
row_plain (v ∷ vs) n h =
    let both = and_parts (is_clean_value v) (list_all is_clean_value vs) h in
    let go : (b : Bool) → is_null_text v ≡ b → (b || list_any is_null_text vs) ≡ false → (is_plain v && list_all is_plain vs) ≡ true =
    elim [ true ↦ λ e g. absurd (false≢true (sym g)) | false ↦ λ e g. and_from _ _ (value_plain v e both.0) (row_plain vs g both.1) ] in
    go (is_null_text v) refl n

rows_plain : (name : List ℕ) (k : ℕ) (rows : List Row) → row_refusal name k rows ≡ None → list_all (list_all is_clean_value) rows ≡ true → list_all (list_all is_plain) rows ≡ true
rows_plain name k [] n h = refl
rows_plain name k (row ∷ rows) n h =
    let both = and_parts (list_all is_clean_value row) (list_all (list_all is_clean_value) rows) h in
    let none = neither _ (row_refusal name (k + 1) rows) n in
    and_from _ _ (row_plain row (not_refused (list_any is_null_text row) _ none.0) both.0) (rows_plain name (k + 1) rows none.1 both.1)

-- ---- the first name

marked_not : (name : List ℕ) → begins_with byte_order_mark name ≡ false → is_marked name ≡ false
marked_not [] h = refl
marked_not (a ∷ []) h = refl
marked_not (a ∷ b ∷ []) h = refl
marked_not (a ∷ b ∷ c ∷ rest) h =
    let go : (x : Bool) → is_bom a b c ≡ x → x ≡ false =
    elim [
      | true ↦ λ e.
          let last = and_parts _ _ e in
          let first = and_parts _ _ last.0 in
          let one : a ≡ 239 = eqb-true a 239 first.0 in
          let two : b ≡ 187 = eqb-true b 187 first.1 in
          let three : c ≡ 191 = eqb-true c 191 last.1 in
          let same : a ∷ b ∷ c ∷ [] ≡ 239 ∷ 187 ∷ 191 ∷ [] = cc in
          absurd (false≢true (sym h ∙ same_bytes (a ∷ b ∷ c ∷ []) byte_order_mark same))
      | false ↦ λ e. refl
    ] in
    go (is_bom a b c) refl

first_unmarked : (cs : List Column) → begins_with_mark cs ≡ false → is_marked (first_name cs) ≡ false
first_unmarked [] h = refl
first_unmarked (c ∷ cs) h = marked_not c.name h

-- ---- a table

pub writable : (ts : List Table) (t : Table) (rows : List Row) → is_table ts t ≡ true → are_rows t rows ≡ true → list_all (list_all is_clean_value) rows ≡ true → file_of t rows ≡ None
    → IsWritable t rows
writable ts t rows whole valid clean none =
    let causes = neither (refused_if (begins_with_mark t.columns) _) (row_refusal (full_name t) 1 rows) none in
    let foreign = and_parts _ _ whole in
    let holds = and_parts _ _ foreign.0 in
    let once = and_parts _ _ holds.0 in
    let key = and_parts _ _ once.0 in
    let differ = and_parts _ _ key.0 in
    let named = and_parts _ _ differ.0 in
    let most = and_parts _ _ named.0 in
    let some = and_parts _ _ most.0 in record {
      some = ltb-true 0 (length t.columns) some.1;
      differ = differ.1;
      valid = valid;
      plain = rows_plain (full_name t) 1 rows causes.1 clean;
      unmarked = first_unmarked t.columns (not_refused (begins_with_mark t.columns) _ causes.0);
    }

-- the rows at a place
pub rows_at : (ts : List Table) (d : List (List Row)) (i : ℕ) (t : Table) (rows : List Row) → is_database ts d ≡ true → slice_get ts i ≡ Some t → slice_get d i ≡ Some rows → are_rows t rows ≡ true
rows_at [] d i t rows h e f = cc
rows_at (u ∷ ts) [] i t rows h e f = cc
rows_at (u ∷ ts) (r ∷ d) zero t rows h e f = let same : u ≡ t = cc in let given : r ≡ rows = cc in ap₂ are_rows (sym same) (sym given) ∙ (and_parts (are_rows u r) (is_database ts d) h).0
rows_at (u ∷ ts) (r ∷ d) (suc i) t rows h e f = rows_at ts d i t rows (and_parts (are_rows u r) (is_database ts d) h).1 e f

pub file_at : (ts : List Table) (d : List (List Row)) (i : ℕ) (t : Table) (rows : List Row) → files_of ts d ≡ None → slice_get ts i ≡ Some t → slice_get d i ≡ Some rows → file_of t rows ≡ None
file_at [] d i t rows h e f = cc
file_at (u ∷ ts) [] i t rows h e f = cc
file_at (u ∷ ts) (r ∷ d) zero t rows h e f = let same : u ≡ t = cc in let given : r ≡ rows = cc in ap₂ file_of (sym same) (sym given) ∙ (neither (file_of u r) (files_of ts d) h).0
file_at (u ∷ ts) (r ∷ d) (suc i) t rows h e f = file_at ts d i t rows (neither (file_of u r) (files_of ts d) h).1 e f
