-- Conditions of which keys are known, at the rows of a table.
use Rattle.std.proofs.Common.{◌≡◌, ◌∙◌, ◌<◌, ◌≤◌, ◌+◌, ℕ, List, [], ◌∷◌, ◌++◌, map, length, get_or, take, refl, sym, ap, ap₂, subst, add-one, arith}
use Rattle.std.specs.Borrow.{Bor}
use Rattle.std.proofs.Math.Seq.{take-suc}
use Rattle.std.proofs.lemmas.List.{map-append}
use Rattle.hq_base.specs.Cells.{CellTree, cell_of}
use Rattle.hq_base.specs.declared.value.Val.{Val}
use Rattle.hq_base.specs.declared.value.Val.TheVariants as val
use Rattle.hq_load_index.specs.Keys.{cell_in, key_in}
use Rattle.hq_model.specs.Database.{Row}
use Rattle.hq_model.specs.Logic.{truth_of}
use Rattle.hq_model.specs.declared.table.Column.{Column}
use Rattle.hq_sql_access.specs.KeyCells.{key_cell}
use Rattle.hq_sql_access.specs.KeySets.{IsKeySet, link_keys}
use Rattle.hq_sql_access.specs.declared.pinned.KeySet.{KeySet}
use Rattle.hq_sql_scans.specs.ChosenKeys.{is_key}
use Rattle.hq_sql_scans.specs.Links.{IsOwn}
use Rattle.hq_sql_tree.specs.Meaning.{Scope as Names, World, value}
use Rattle.hq_sql_tree.specs.Tree.{PredTree}
use Rattle.hq_sql_tree.specs.View.{expr_view}
use Rattle.hq_sql_tree.specs.declared.expr.Expr.{Expr}
use Rattle.hq_sql_constants.specs.KeyTests.{AreOwn, IsKeyTest}

-- ---- the columns of a key

pub own_none : (columns : List Column) (alias : List ℕ) → AreOwn columns alias [] []
own_none columns alias = record { key = λ row m here. refl }

-- the cell of a stored value is one of a key
stored_key : (v : Val) → key_cell (cell_of v) ≡ cell_of v
stored_key val.Null = refl
stored_key (val.Int n) = refl
stored_key (val.Text t) = refl
stored_key (val.Bool b) = refl

-- one column more
pub own_more : (columns : List Column) (alias : List ℕ) (links : List (Bor Expr)) (i : ℕ) (e : Bor Expr) (own more : List ℕ) (at : ℕ)
    → i < length links → e ≡ get_or links i e → AreOwn columns alias (take i links) own → IsOwn columns alias (expr_view e.now) at
    → more ≡ own ++ at ∷ [] → AreOwn columns alias (take (i + 1) links) more
own_more columns alias links i e own more at lt is so_far one grown =
    let longer : take (i + 1) links ≡ take i links ++ e ∷ [] = ap (λ n. take n links) (add-one i) ∙ take-suc links i e lt ∙ ap (λ d. take i links ++ d ∷ []) (sym is) in
    record {
      key = λ row m here.
          let f : Bor Expr → CellTree = λ l. key_cell (value (expr_view l.now) [] m) in
          let cell : f e ≡ cell_in row at = ap key_cell (one.cell row m here) ∙ stored_key (get_or row at val.Null) in
          ap (λ ls. link_keys ls m) longer ∙ map-append f (take i links) (e ∷ [])
          ∙ ap₂ (λ xs x. xs ++ x ∷ []) (so_far.key row m here) cell
          ∙ sym (map-append (cell_in row) own (at ∷ [])) ∙ ap (λ cs. key_in cs row) (sym grown);
    }

-- the keys that are known of a condition are asked for the one that a row has in these columns
pub keyed_is : (w : World) (columns : List Column) (alias : List ℕ) (p : PredTree) (s : KeySet) (own : List ℕ)
    → IsKeySet w p s → AreOwn columns alias s.links.items own → IsKeyTest w columns alias p s own
keyed_is w columns alias p s own known are =
    record { says = λ row m here. known.has m ∙ ap (λ k. truth_of (is_key s k)) (are.key row m here) }

-- ---- the key of a row

-- one cell more
pub key_more : (columns : List ℕ) (i c : ℕ) (row : Row) (key : List CellTree) (k : CellTree) → i < length columns → c ≡ get_or columns i c
    → key ≡ key_in (take i columns) row → k ≡ cell_in row c → key ++ k ∷ [] ≡ key_in (take (i + 1) columns) row
key_more columns i c row key k lt is h one =
    let longer : take (i + 1) columns ≡ take i columns ++ c ∷ [] = ap (λ n. take n columns) (add-one i) ∙ take-suc columns i c lt ∙ ap (λ d. take i columns ++ d ∷ []) (sym is) in
    ap₂ (λ xs x. xs ++ x ∷ []) h one ∙ sym (map-append (cell_in row) (take i columns) (c ∷ [])) ∙ ap (λ cs. key_in cs row) (sym longer)
