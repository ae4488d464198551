-- The keys of the rows that an EXISTS keeps.
use Rattle.std.proofs.Common.{◌≡◌, ℕ, List, [], ◌∷◌, map, filter, flat_map, length, Bool, true, false, ◌&&◌, ◌||◌, cond, None, refl, sym, ap, ap₂, ◌∙◌}
use Rattle.std.specs.Borrow.{Bor}
use Rattle.std.specs.List.{list_any}
use Rattle.std.proofs.lemmas.List.{length-map}
use Rattle.std.proofs.lemmas.List.Concat.{flat_map-cons}
use Rattle.hq_base.proofs.Lists.{any_map_of, map_map}
use Rattle.hq_model.specs.Database.{Row}
use Rattle.hq_model.specs.Logic.{is_true, truth_of}
use Rattle.hq_model.specs.declared.table.Column.{Column}
use Rattle.hq_load_index.specs.Keys.{has_key}
use Rattle.hq_sql_conjuncts.specs.Conjuncts.{all_kept, lent_views}
use Rattle.hq_sql_conjuncts.specs.Split.{IsSplit, kept_one}
use Rattle.hq_sql_conjuncts.proofs.Conjuncts.{all_alone}
use Rattle.hq_sql_tree.specs.declared.expr.Expr.{Expr}
use Rattle.hq_sql_tree.specs.declared.select.Pred.{Pred}
use Rattle.hq_sql_tree.specs.Meaning.{NamedRow, Scope, World, has_rows, joined, kept, named_row, nothing, rows_of, truth_at, with_alias}
use Rattle.hq_sql_tree.specs.Tree as tree
use Rattle.hq_sql_tree.specs.Tree.{ExprTree, FromTree, JoinTrees, OrderTree, OutTree, PredTree, SelectTree, no_join}
use Rattle.hq_sql_access.specs.KeySets.{IsKeySet, keeps_key, link_keys}
use Rattle.hq_sql_scans.specs.ChosenKeys.{KeepsKeys, chosen}
use Rattle.hq_sql_scans.specs.Links.{AreLinks}
use Rattle.hq_sql_access.specs.Sources.{alias_in, has_items, rows_given}
use Rattle.hq_sql_access.specs.declared.pinned.KeySet.{KeySet}
use Rattle.hq_sql_scans.proofs.KeySets.{items_filter}
use Rattle.hq_sql_eval.specs.Filtered.{Filters}
use Rattle.hq_sql_eval.specs.Narrowed.{keeps_one, narrowed}
use Rattle.hq_sql_eval.proofs.Learned.{is_true_of, map_same, table_has}

-- without joins the rows stay
flat_alone : (w : World) (ms : List Scope) → flat_map (joined no_join w) ms ≡ ms
flat_alone w [] = refl
flat_alone w (m ∷ ms) = flat_map-cons (joined no_join w) m ms ∙ ap (λ l. m ∷ l) (flat_alone w ms)

-- a select over a table without joins and pages has a row where its WHERE keeps one
pub filters_is : (D : List ExprTree) (O : List OutTree) (F : FromTree) (J : JoinTrees) (p : PredTree) (K : List OrderTree) (w : World)
    (has : PredTree) (select : SelectTree) (schema name alias : List ℕ) (columns : List Column) (rows : List Row)
    → has ≡ tree.exists select → select ≡ tree.rows D O F J (tree.filter p) K None None → F ≡ tree.table schema name alias → J ≡ no_join
    → rows_given F w [] ≡ map (named_row columns) rows → Filters w has columns rows alias p
filters_is D O F J p K w has select schema name alias columns rows is sel at alone given n =
    let C = tree.filter p in
    let f : NamedRow → Scope = with_alias n alias in
    let g : Row → NamedRow = named_row columns in
    ap (λ q. truth_at q w n) is ∙ ap truth_of
    (ap (λ s. has_rows (rows_of s w n)) sel
    ∙ sym (table_has D O F J C K w n schema name alias at)
    ∙ ap (λ a. keeps_one (rows_given F w []) a J C w n) (ap alias_in at)
    ∙ ap₂ (λ x js. keeps_one x alias js C w n) given alone
    ∙ ap (λ ms. has_items (filter (kept C w) ms)) (flat_alone w (map f (map g rows)))
    ∙ items_filter (kept C w) (map f (map g rows))
    ∙ any_map_of (kept C w) f (map g rows)
    ∙ any_map_of (λ row. kept C w (f row)) g rows)

-- truths by the keys that are known of a condition are those of the condition
pub keyed_rows : (w : World) (p : PredTree) (s : KeySet) (before truths : List Bool) (alias : List ℕ) (rows : List NamedRow)
    → IsKeySet w p s → truths ≡ narrowed before (map (λ row. keeps_key s (with_alias nothing alias row)) rows)
    → truths ≡ narrowed before (map (λ row. kept_one p w (with_alias nothing alias row)) rows)
keyed_rows w p s before truths alias rows is e =
    e ∙ ap (narrowed before) (map_same (λ row. keeps_key s (with_alias nothing alias row)) (λ row. kept_one p w (with_alias nothing alias row)) rows
    (λ row. sym (is_true_of (keeps_key s (with_alias nothing alias row))) ∙ ap is_true (sym (is.has (with_alias nothing alias row)))))

any_same : {A : Type 0} (p q : A → Bool) (xs : List A) → ((x : A) → p x ≡ q x) → list_any p xs ≡ list_any q xs
any_same p q [] h = refl
any_same p q (x ∷ xs) h = ap₂ (λ a b. a || b) (h x) (any_same p q xs h)

-- one of the rows passes both tests where one of those that pass the first passes the second
any_chosen : (p q : Row → Bool) (rows : List Row) → list_any (λ row. p row && q row) rows ≡ list_any q (chosen (map p rows) rows)
any_chosen p q [] = refl
any_chosen p q (row ∷ rows) =
    let later = any_chosen p q rows in
    let go : (b : Bool) → ((b && q row) || list_any (λ row. p row && q row) rows) ≡ list_any q (cond b (row ∷ chosen (map p rows) rows) (chosen (map p rows) rows)) =
    elim [ true ↦ ap (λ b. q row || b) later | false ↦ later ] in
    go (p row)

-- where the other conjuncts are links, it has a row where a row at which the closed ones are true has their key
pub keeps_keys : (w : World) (has : PredTree) (columns : List Column) (rows : List Row) (alias : List ℕ) (p : PredTree) (m : ℕ)
    (closed rest : List (Bor Pred)) (truths : List Bool) (own : List ℕ) (links : List (Bor Expr))
    → Filters w has columns rows alias p → IsSplit (alias ∷ []) (kept_one p) m [] [] closed rest → AreLinks columns alias (lent_views rest) own links
    → truths ≡ map (λ row. all_kept (lent_views closed) w (with_alias nothing alias row)) (map (named_row columns) rows) → KeepsKeys w has rows truths own links
keeps_keys w has columns rows alias p m closed rest truths own links filters x are e =
    let T : Row → Bool = λ row. all_kept (lent_views closed) w (with_alias nothing alias (named_row columns row)) in
    let is : truths ≡ map T rows = e ∙ map_map (λ row. all_kept (lent_views closed) w (with_alias nothing alias row)) (named_row columns) rows in
    record {
      whole = ap length is ∙ length-map rows T;
      keeps = λ n.
          let H : Row → Bool = has_key own (link_keys links n) in
          let at : Row → Scope = λ row. with_alias n alias (named_row columns row) in
          let each : (row : Row) → kept_one p w (at row) ≡ (T row && H row) =
          λ row. sym (x.same w (at row)) ∙ ap₂ (λ a b. a && b) (all_alone (lent_views closed) alias w n (named_row columns row) (x.only refl)) (are.keeps w row n) in
          filters n ∙ ap truth_of (any_same (λ row. kept_one p w (at row)) (λ row. T row && H row) rows each ∙ any_chosen T H rows ∙ ap (λ bs. list_any H (chosen bs rows)) (sym is));
    }
