-- What is known of the statement of a request.
use Rattle.std.proofs.Common.{◌≡◌, ℕ, suc, List, [], ◌∷◌, length, Bool, true, false, cond, ◌&&◌, refl, ap}
use Rattle.std.specs.Prelude.{nat_le, bytes_eq}
use Rattle.std.proofs.lemmas.Bool.{and_parts}
use Rattle.hq_base.specs.Lists.{all_differ}
use Rattle.hq_model.specs.Schema.{Schema, numbered}
use Rattle.hq_model.specs.declared.table.Table.{Table}
use Rattle.hq_request_tree.specs.Fields.{FieldTrees, no_field, field}
use Rattle.hq_request_tree.specs.Root.{is_table_field, table_fields}
use Rattle.hq_sql_text.specs.Readable.{is_readable}
use Rattle.hq_sql_tree.specs.Form.{is_select, select_depth, select_fits}
use Rattle.hq_sql_tree.specs.Tree.{SelectTree}
use Rattle.hq_sql_tree.specs.WellFormed.{aliases_in, is_statement, is_statement_form, is_typed, is_well_formed, is_well_typed}
use Rattle.hq_translation.specs.Correct.{AreFew}

-- a list whose items are numbered is as long
pub numbered_long : {A B : Type 0} (f : ℕ → A → B) (k : ℕ) (xs : List A) → length (numbered f k xs) ≡ length xs
numbered_long f k [] = refl
numbered_long f k (x ∷ xs) = ap suc (numbered_long f (suc k) xs)

-- the lists of table fields are among those of all root fields
pub few_tables : (s : Schema) (root : ℕ) (fs : FieldTrees) → AreFew fs s root → AreFew (table_fields fs) s root
few_tables s root no_field h = tt
few_tables s root (field key f fs) h =
    let by : (b : Bool) → AreFew (cond b (field key f (table_fields fs)) (table_fields fs)) s root = elim [ true ↦ (h.0, few_tables s root fs h.1) | false ↦ few_tables s root fs h.1 ] in
    by (is_table_field f)

-- a well-formed statement has a text that is read back
pub statement_is_readable : (s : SelectTree) (tables : List Table) → is_statement s tables ≡ true → is_readable s ≡ true
statement_is_readable s tables h =
    let formed = and_parts (is_statement_form s) (is_well_formed s tables) h in
    let fitting = and_parts (is_well_typed s tables) (select_fits s) formed.1 in
    let typed = and_parts (is_select s && nat_le (select_depth s) 2000 && all_differ bytes_eq (aliases_in s [])) (is_typed s tables []) fitting.0 in
    let apart = and_parts (is_select s && nat_le (select_depth s) 2000) (all_differ bytes_eq (aliases_in s [])) typed.0 in
    let shape = and_parts (is_select s) (nat_le (select_depth s) 2000) apart.0 in
    rw (shape.0, shape.1, fitting.1) refl
