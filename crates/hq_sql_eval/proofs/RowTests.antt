-- Tests at the rows of a table.
use Rattle.std.proofs.Common.{◌≡◌, ◌∙◌, ◌<◌, ◌≤◌, ◌+◌, ℕ, List, [], ◌∷◌, ◌++◌, map, length, get_or, take, Bool, false, ◌&&◌, cond, sym, ap, ap₂, add-one, arith}
use Rattle.std.proofs.lemmas.List.{take_all}
use Rattle.hq_base.proofs.Lists.{map_map}
use Rattle.hq_model.specs.Database.{Row}
use Rattle.hq_model.specs.declared.table.Column.{Column}
use Rattle.hq_sql_conjuncts.specs.Split.{kept_one}
use Rattle.hq_sql_scans.proofs.Looked.{same_bytes}
use Rattle.hq_sql_tree.specs.Meaning.{World, named_row, nothing, with_alias}
use Rattle.hq_sql_tree.specs.Tree.{PredTree}
use Rattle.hq_sql_constants.specs.RowTests.{AreTests, one_holds}
use Rattle.hq_sql_constants.specs.declared.row_test.RowTest.{RowTest}
use Rattle.hq_sql_eval.specs.Narrowed.{narrowed}
use Rattle.hq_sql_eval.proofs.Learned.{at_map, length_map, map_same, narrowed_more}

-- one row more
pub rows_step : (f : Row → Bool) (rows : List Row) (before truths more : List Bool) (i : ℕ) (b : Bool)
    → length before ≡ length rows → i < length before → truths ≡ narrowed (take i before) (take i (map f rows))
    → b ≡ (get_or before i false && f (get_or rows i [])) → more ≡ truths ++ (b ∷ [])
    → more ≡ narrowed (take (i + 1) before) (take (i + 1) (map f rows))
rows_step f rows before truths more i b long lt h k grown =
    let within : i < length rows = omega (arith, long, lt) in
    let same = length_map f rows in
    let there : i < length (map f rows) = omega (arith, within, same) in
    grown ∙ ap₂ (λ x y. x ++ (y ∷ [])) h (k ∙ ap (λ t. get_or before i false && t) (sym (at_map f rows i [] false within)))
    ∙ narrowed_more before (map f rows) i lt there
    ∙ ap (λ n. narrowed (take n before) (take n (map f rows))) (sym (add-one i))

-- all rows
pub rows_end : (f : Row → Bool) (rows : List Row) (before : List Bool) (i : ℕ) → length before ≡ length rows
    → length before ≤ i → narrowed (take i before) (take i (map f rows)) ≡ narrowed before (map f rows)
rows_end f rows before i long le =
    let same = length_map f rows in
    let past : length (map f rows) ≤ i = omega (arith, long, le, same) in
    ap₂ narrowed (take_all i before le) (take_all i (map f rows) past)

-- truths by the tests are those of the condition
pub tested_rows : (w : World) (p : PredTree) (columns : List Column) (alias : List ℕ) (ts : List RowTest) (rows lent : List Row) (before truths : List Bool)
    → AreTests w columns alias p ts → lent ≡ rows → truths ≡ narrowed before (map (one_holds ts) rows)
    → truths ≡ narrowed before (map (λ row. kept_one p w (with_alias nothing alias row)) (map (named_row columns) lent))
tested_rows w p columns alias ts rows lent before truths are same e =
    e ∙ ap (narrowed before)
    (map_same (one_holds ts) (λ row. kept_one p w (with_alias nothing alias (named_row columns row))) rows
    (λ row. sym
    (are.keeps row (with_alias nothing alias (named_row columns row)) (ap (λ b. cond b (named_row columns row) []) (same_bytes alias))))
    ∙ sym (map_map (λ row. kept_one p w (with_alias nothing alias row)) (named_row columns) rows)
    ∙ ap (λ rs. map (λ row. kept_one p w (with_alias nothing alias row)) (map (named_row columns) rs)) (sym same))
