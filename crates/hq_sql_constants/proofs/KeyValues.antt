-- Keys that are known of an EXISTS as values of a column.
use Rattle.std.proofs.Common.{◌≡◌, ◌∙◌, ◌<◌, ◌+◌, ℕ, List, [], ◌∷◌, ◌++◌, map, length, get_or, take, Bool, true, false, Option, None, Some, refl, sym, ap, ap₂, add-one}
use Rattle.std.specs.Borrow.{Bor}
use Rattle.std.specs.Global.{Vec}
use Rattle.std.specs.Prelude.{IfSome}
use Rattle.std.proofs.Math.Seq.{take-suc}
use Rattle.std.proofs.lemmas.List.{map-append}
use Rattle.hq_base.specs.Cells.{CellTree, cell_of}
use Rattle.hq_base.specs.declared.value.Val.{Val}
use Rattle.hq_base.specs.declared.value.Val.TheVariants as val
use Rattle.hq_base.proofs.Lists.{any_map_of}
use Rattle.hq_load_index.specs.Grids.{rows_in}
use Rattle.hq_load_index.specs.Indexes.{columns_of, rows_with}
use Rattle.hq_load_index.specs.Keys.{cell_in, has_key}
use Rattle.hq_model.specs.Logic.{equal, is_true, truth_of}
use Rattle.hq_model.specs.declared.truth.Truth.TheVariants.{Yes}
use Rattle.hq_sql_access.specs.Equations.{is_column, key_cell}
use Rattle.hq_sql_access.specs.KeySets.{IsKeySet, keeps_key}
use Rattle.hq_sql_access.specs.Sources.{has_items}
use Rattle.hq_sql_access.specs.declared.pinned.KeySet.{KeySet}
use Rattle.hq_sql_access.proofs.Asked.{column_value}
use Rattle.hq_sql_scans.specs.Links.{has_cell}
use Rattle.hq_sql_scans.proofs.Linked.{and_true, equal_cell, equal_swapped, key_like}
use Rattle.hq_sql_tree.specs.Meaning.{World, value}
use Rattle.hq_sql_tree.specs.Tree.{PredTree}
use Rattle.hq_sql_tree.specs.View.{expr_view}
use Rattle.hq_sql_tree.specs.declared.expr.Expr.{Expr}
use Rattle.hq_sql_constants.specs.Listed.{AreKeys, AsksOneOf, is_one_of, values_in}
use Rattle.hq_sql_constants.proofs.Chosen.{any_same, items_with}

-- a row's value more
pub values_more : (column : ℕ) (rows : List (List Val)) (i : ℕ) (values more : List Val) (v : Val) → i < length rows → values ≡ values_in column (take i rows)
    → v ≡ get_or (get_or rows i []) column val.Null → more ≡ values ++ v ∷ [] → more ≡ values_in column (take (i + 1) rows)
values_more column rows i values more v lt so_far is grown =
    let longer : take (i + 1) rows ≡ take i rows ++ get_or rows i [] ∷ [] = ap (λ n. take n rows) (add-one i) ∙ take-suc rows i [] lt in
    grown ∙ ap₂ (λ xs x. xs ++ x ∷ []) so_far is ∙ sym (map-append (λ row. get_or row column val.Null) (take i rows) (get_or rows i [] ∷ []))
    ∙ ap (values_in column) (sym longer)

-- a cell equals the one of a row exactly where its key is the row's
row_has : (row : List Val) (column : ℕ) (x : CellTree) → is_true (equal x (cell_in row column)) ≡ has_key (column ∷ []) (key_cell x ∷ []) row
row_has row column x =
    equal_swapped x (cell_in row column) ∙ equal_cell (get_or row column val.Null) x
    ∙ sym (and_true (has_cell (cell_in row column) (key_cell x))) ∙ sym (key_like (column ∷ []) (key_cell x ∷ []) row refl)

-- where one of the keys is that of a scope, the column that they are asked to equal is one of them
pub keys_are : (s : KeySet) (e : Bor Expr) (column : ℕ) (alias name : List ℕ) (vs : List Val) → s.links.items ≡ e ∷ [] → columns_of s.index ≡ column ∷ []
    → is_column alias name (expr_view e.now) ≡ true → vs ≡ values_in column (rows_in s.grid) → AreKeys s alias name vs
keys_are s e column alias name vs links own is values =
    record {
      are = λ m keeps.
          let rows = rows_in s.grid in
          let x = value (expr_view e.now) [] m in
          let one : has_items (rows_with (column ∷ []) (key_cell x ∷ []) rows) ≡ true =
          ap₂ (λ es cs. has_items (rows_with cs (map (λ (l : Bor Expr). key_cell (value (expr_view l.now) [] m)) es) rows)) (sym links) (sym own) ∙ keeps in
          ap₂ is_one_of values (sym (column_value alias name (expr_view e.now) m is))
          ∙ any_map_of (λ v. is_true (equal x (cell_of v))) (λ row. get_or row column val.Null) rows
          ∙ any_same (λ row. is_true (equal x (cell_in row column))) (has_key (column ∷ []) (key_cell x ∷ [])) rows (λ row. row_has row column x)
          ∙ sym (items_with (column ∷ []) (key_cell x ∷ []) rows) ∙ one;
    }

yes_is : (b : Bool) → truth_of b ≡ Yes → b ≡ true
yes_is true e = refl
yes_is false e = cc

-- an EXISTS is true only where one of its keys is that of the scope
pub set_asks : (w : World) (p : PredTree) (s : KeySet) (alias name : List ℕ) (o : Option (Vec Val)) → IsKeySet w p s
    → IfSome o (λ vs. AreKeys s alias name vs.items) → IfSome o (λ vs. AsksOneOf w p alias name vs.items)
set_asks w p s alias name None is keys = keys
set_asks w p s alias name (Some vs) is keys = record { asks = λ m holds. keys.are m (yes_is (keeps_key s m) (sym (is.has m) ∙ holds)) }
