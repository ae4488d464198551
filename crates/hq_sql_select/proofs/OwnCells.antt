-- Expressions that are columns of FROM's table, by the numbers of the columns.
use Rattle.std.proofs.Common.{◌≡◌, ◌<◌, ◌+◌, ℕ, zero, suc, List, [], ◌∷◌, ◌++◌, map, length, get_or, take, cond, Bool, true, false, ◌||◌, Some, None, Option, IfSome, bytes_eq, refl, subst, sym, ap, ◌∙◌, arith}
use Rattle.std.specs.Borrow.{Bor}
use Rattle.std.proofs.lemmas.Bool.{or_parts}
use Rattle.std.proofs.lemmas.List.{take_more, map-append, length-map, length-take-le}
use Rattle.std.proofs.lemmas.Option.{IfSome_then}
use Rattle.hq_model.specs.Database.{Row}
use Rattle.hq_load_index.specs.Keys.{cell_in}
use Rattle.hq_sql_tree.specs.declared.expr.Expr.{Expr}
use Rattle.hq_sql_tree.specs.declared.expr.Order.{Order}
use Rattle.hq_sql_tree.specs.Meaning.{NamedRow, Scope as Names, World, named_row, rows_of, value, with_alias}
use Rattle.hq_sql_tree.specs.Tree.{ExprTree, JoinTrees, join, no_join}
use Rattle.hq_sql_tree.specs.View.{expr_view, order_view}
use Rattle.hq_sql_access.specs.Equations.{is_joined}
use Rattle.hq_sql_access.specs.Lent.{rows_lent}
use Rattle.hq_sql_access.specs.View.{beside, first_row, names_at, row_in, values_in}
use Rattle.hq_sql_access.specs.declared.place.JoinedRow.{JoinedRow}
use Rattle.hq_sql_access.specs.declared.scope.Source.{Source}
use Rattle.hq_sql_access.specs.declared.scope.Source.TheVariants as source
use Rattle.hq_sql_access.specs.declared.stored.Stored.{Stored}
use Rattle.hq_sql_access.proofs.NamedCells.{stored_row}
use Rattle.hq_sql_scans.specs.Links.{IsOwn}
use Rattle.hq_sql_scans.proofs.Looked.{same_bytes}
use Rattle.hq_sql_select.specs.OwnColumns.{AreCells, AreCellsOf, IsCellOf, key_exprs}
use Rattle.hq_sql_select.proofs.Loops.{view_key}

-- ---- one expression

-- joins change no other alias
beside_other : (js : JoinTrees) (w : World) (n : Names) (rows : List (Option NamedRow)) (b : List ℕ) → is_joined js b ≡ false → beside js w n rows b ≡ n b
beside_other no_join w n rows b e = refl
beside_other (join s a js) w n [] b e =
    let both = or_parts (bytes_eq a b) (is_joined js b) e in
    beside_other js w (with_alias n a (first_row (rows_of s w n))) [] b both.1 ∙ (rw both.0 refl)
beside_other (join s a js) w n (None ∷ rows) b e =
    let both = or_parts (bytes_eq a b) (is_joined js b) e in
    beside_other js w (with_alias n a (first_row (rows_of s w n))) rows b both.1 ∙ (rw both.0 refl)
beside_other (join s a js) w n (Some r ∷ rows) b e =
    let both = or_parts (bytes_eq a b) (is_joined js b) e in
    beside_other js w (with_alias n a r) rows b both.1 ∙ (rw both.0 refl)

-- the alias is the row of FROM, where no join has it
alias_here : (from : Source) (a : List ℕ) (js : JoinTrees) (w : World) (n : Names) (place : JoinedRow) → is_joined js a ≡ false → names_at from a js w n place a ≡ row_in from place.position
alias_here from a js w n place alone =
    beside_other js w (with_alias n a (row_in from place.position)) _ a alone
    ∙ ap (λ b. cond b (row_in from place.position) (n a)) (same_bytes a)

-- a column of the alias of a table
pub own_is : (stored : Bor Stored) (a : List ℕ) (js : JoinTrees) (e : ExprTree) (at : ℕ) → is_joined js a ≡ false
    → IsOwn stored.now.table.now.columns a e at → IsCellOf (source.Stored stored) a js e at
own_is stored a js e at alone own =
    record {
      cell = λ w n place.
          own.cell (values_in (source.Stored stored) place.position) (names_at (source.Stored stored) a js w n place)
          (alias_here (source.Stored stored) a js w n place alone ∙ sym (stored_row stored.now.table.now.columns (rows_lent stored.now.rows) place.position));
    }

-- ---- several

-- none is given a column, in one row
pub none_at : (es : List ExprTree) (row : Row) (n : Names) → AreCells es [] row n
none_at [] row n = tt
none_at (e ∷ es) row n = tt

-- none is given a column
pub none_given : (from : Source) (a : List ℕ) (js : JoinTrees) (es : List ExprTree) → AreCellsOf from a js es []
none_given from a js es = record { cells = λ w n place. none_at es _ _ }

more_at : (es : List ExprTree) (own : List (Option ℕ)) (e : ExprTree) (c : Option ℕ) (row : Row) (n : Names) → length own ≡ length es
    → AreCells es own row n → IfSome c (λ at. value e [] n ≡ cell_in row at) → AreCells (es ++ e ∷ []) (own ++ c ∷ []) row n
more_at [] [] e c row n same h one = (one, tt)
more_at [] (d ∷ own) e c row n same h one = absurd (omega arith)
more_at (f ∷ es) [] e c row n same h one = absurd (omega arith)
more_at (f ∷ es) (d ∷ own) e c row n same h one = (h.0, more_at es own e c row n (omega arith) h.1 one)

-- one more item of a list, seen as its expression
more_of : {A : Type 0} (view : A → ExprTree) (from : Source) (a : List ℕ) (js : JoinTrees) (items : List A) (i : ℕ) (item : A) (own : List (Option ℕ)) (c : Option ℕ) (e : ExprTree)
    → i < length items → item ≡ get_or items i item → length own ≡ i → view item ≡ e
    → AreCellsOf from a js (map view (take i items)) own → IfSome c (IsCellOf from a js e) → AreCellsOf from a js (map view (take (i + 1) items)) (own ++ c ∷ [])
more_of view from a js items i item own c e lt is long seen so_far one =
    let grown : map view (take (i + 1) items) ≡ map view (take i items) ++ e ∷ [] =
    ap (map view) (take_more items i item lt) ∙ map-append view (take i items) (get_or items i item ∷ [])
    ∙ ap (λ x. map view (take i items) ++ x ∷ []) (ap view (sym is) ∙ seen) in
    let count : length own ≡ length (map view (take i items)) = omega (arith, long, length-map (take i items) view, length-take-le i items (omega arith)) in
    subst (λ es. AreCellsOf from a js es (own ++ c ∷ [])) (sym grown)
    (record { cells = λ w n place. more_at (map view (take i items)) own e c _ _ count (so_far.cells w n place) (IfSome_then c one (λ at h. h.cell w n place)) })

-- one more sort key
pub more_keys : (from : Source) (a : List ℕ) (js : JoinTrees) (items : List Order) (i : ℕ) (item : Order) (own : List (Option ℕ)) (c : Option ℕ)
    → i < length items → item ≡ get_or items i item → length own ≡ i
    → AreCellsOf from a js (key_exprs (take i items)) own → IfSome c (IsCellOf from a js (expr_view item.value)) → AreCellsOf from a js (key_exprs (take (i + 1) items)) (own ++ c ∷ [])
more_keys from a js items i item own c lt is long = more_of (λ o. (order_view o).value) from a js items i item own c (expr_view item.value) lt is long (view_key item)

-- one more expression
pub more_exprs : (from : Source) (a : List ℕ) (js : JoinTrees) (items : List Expr) (i : ℕ) (item : Expr) (own : List (Option ℕ)) (c : Option ℕ)
    → i < length items → item ≡ get_or items i item → length own ≡ i
    → AreCellsOf from a js (map expr_view (take i items)) own → IfSome c (IsCellOf from a js (expr_view item)) → AreCellsOf from a js (map expr_view (take (i + 1) items)) (own ++ c ∷ [])
more_exprs from a js items i item own c lt is long = more_of expr_view from a js items i item own c (expr_view item) lt is long refl

-- the cell in the column that an item of a list is given, seen as its expression
pub item_cell : {A : Type 0} (view : A → ExprTree) (items : List A) (own : List (Option ℕ)) (i : ℕ) (item : A) (c : Option ℕ) (e : ExprTree) (row : Row) (n : Names)
    → i < length items → item ≡ get_or items i item → view item ≡ e → c ≡ get_or own i None → AreCells (map view items) own row n
    → IfSome c (λ at. value e [] n ≡ cell_in row at)
item_cell view [] own i item c e row n lt is seen told h = absurd (omega arith)
item_cell view (x ∷ xs) [] i item c e row n lt is seen told h = subst (λ d. IfSome d (λ at. value e [] n ≡ cell_in row at)) (sym told) tt
item_cell view (x ∷ xs) (d ∷ own) zero item c e row n lt is seen told h =
    subst (λ d. IfSome d (λ at. value e [] n ≡ cell_in row at)) (sym told) (subst (λ f. IfSome d (λ at. value f [] n ≡ cell_in row at)) (ap view (sym is) ∙ seen) h.0)
item_cell view (x ∷ xs) (d ∷ own) (suc i) item c e row n lt is seen told h = item_cell view xs own i item c e row n (omega arith) is seen told h.1
