-- What conditions ask the columns of an alias to equal, exactly.
use Rattle.std.proofs.Common.{◌≡◌, ◌<◌, ◌+◌, ℕ, suc, List, [], ◌∷◌, ◌++◌, map, length, length-append, get_or, take, Bool, true, false, not, ◌&&◌, ◌||◌, cond, Some, Ordering, Less, Equal, Greater, is_eq, bytes_eq, refl, sym, ap, ap₂, ◌∙◌, add-one, arith}
use Rattle.std.specs.Borrow.{Bor}
use Rattle.std.specs.Cmp.Lexicographic.{slice_cmp}
use Rattle.std.specs.List.{position}
use Rattle.std.specs.Ordering.{nat_cmp, int_cmp, ordering_then}
use Rattle.std.proofs.Math.Seq.{take-suc}
use Rattle.std.proofs.lemmas.Bool.{true≢false}
use Rattle.std.proofs.lemmas.List.{map-append}
use Rattle.hq_base.specs.Cells.{CellTree, null, int, text, bool, json, cell_of, cell_cmp}
use Rattle.hq_base.specs.declared.value.Val.{Val}
use Rattle.hq_base.specs.declared.value.Val.TheVariants as val
use Rattle.hq_model.specs.Database.{Row}
use Rattle.hq_model.specs.Logic.{is_true, truth_of, equal, null_test}
use Rattle.hq_model.specs.declared.test.Test.{Test}
use Rattle.hq_model.specs.declared.table.Column.{Column}
use Rattle.hq_model.proofs.CellOrders.{then_equal}
use Rattle.hq_load_index.specs.Keys.{cell_in, key_in, keys_cmp, has_null, has_key}
use Rattle.hq_sql_conjuncts.specs.Conjuncts.{all_kept, lent_views}
use Rattle.hq_sql_conjuncts.specs.Split.{kept_one}
use Rattle.hq_sql_conjuncts.proofs.Conjuncts.{all_append}
use Rattle.hq_sql_tree.specs.Tree as tree
use Rattle.hq_sql_tree.specs.Tree.{ExprTree, no_join}
use Rattle.hq_sql_tree.specs.View.{expr_view, pred_view}
use Rattle.hq_sql_tree.specs.declared.expr.ColumnForm.{ColumnForm}
use Rattle.hq_sql_tree.specs.declared.expr.Expr.{Expr}
use Rattle.hq_sql_tree.specs.declared.select.Pred.{Pred}
use Rattle.hq_sql_tree.specs.Meaning.{Scope as Names, World, cell_named, named_row, value, with_alias}
use Rattle.hq_sql_access.specs.Equations.{is_column, is_outer, key_cell, IsEquation}
use Rattle.hq_sql_access.specs.KeySets.{link_keys}
use Rattle.hq_sql_scans.specs.Links.{has_cell, IsOwn, IsLink, AreLinks}
use Rattle.hq_sql_scans.specs.declared.links.Link.{Link}
use Rattle.hq_sql_access.proofs.Asked.{column_value, equal_turn, named_first, outer_value}
use Rattle.hq_sql_scans.proofs.Looked.{is_yes, same_bytes}

-- ---- equal cells

is_true_of : (b : Bool) → is_true (truth_of b) ≡ b
is_true_of true = refl
is_true_of false = refl

-- a stored cell equals a cell exactly where that is its key
pub equal_cell : (v : Val) (x : CellTree) → is_true (equal (cell_of v) x) ≡ has_cell (cell_of v) (key_cell x)
equal_cell val.Null null = refl
equal_cell val.Null (int m) = refl
equal_cell val.Null (text t) = refl
equal_cell val.Null (bool b) = refl
equal_cell val.Null (json j) = refl
equal_cell (val.Int n) null = refl
equal_cell (val.Int n) (int m) = is_true_of (is_eq (int_cmp n m)) ∙ sym (ap is_eq (then_equal (int_cmp n m)))
equal_cell (val.Int n) (text t) = refl
equal_cell (val.Int n) (bool b) = refl
equal_cell (val.Int n) (json j) = refl
equal_cell (val.Text s) null = refl
equal_cell (val.Text s) (int m) = refl
equal_cell (val.Text s) (text t) = is_true_of (is_eq (slice_cmp nat_cmp s t)) ∙ sym (ap is_eq (then_equal (slice_cmp nat_cmp s t)))
equal_cell (val.Text s) (bool b) = refl
equal_cell (val.Text s) (json j) = refl
equal_cell (val.Bool a) null = refl
equal_cell (val.Bool a) (int m) = refl
equal_cell (val.Bool a) (text t) = refl
equal_cell (val.Bool true) (bool true) = refl
equal_cell (val.Bool true) (bool false) = refl
equal_cell (val.Bool false) (bool true) = refl
equal_cell (val.Bool false) (bool false) = refl
equal_cell (val.Bool a) (json j) = refl

-- the sides of an equation may be swapped
pub equal_swapped : (a b : CellTree) → is_true (equal a b) ≡ is_true (equal b a)
equal_swapped a b =
    let go : (x y : Bool) → is_true (equal a b) ≡ x → is_true (equal b a) ≡ y → x ≡ y =
    elim [
      | true ↦ elim [ true ↦ λ e f. refl | false ↦ λ e f. (let turned = ap is_true (equal_turn a b (is_yes (equal a b) e)) in absurd (true≢false (sym turned ∙ f))) ]
      | false ↦ elim [ true ↦ λ e f. (let turned = ap is_true (equal_turn b a (is_yes (equal b a) f)) in absurd (true≢false (sym turned ∙ e))) | false ↦ λ e f. refl ]
    ] in
    go (is_true (equal a b)) (is_true (equal b a)) refl refl

-- ---- one condition

-- the column of an alias has that name
pub own_column : (alias a n : List ℕ) (form : ColumnForm) → bytes_eq alias a ≡ true → is_column alias n (tree.column a n form) ≡ true
own_column alias a n form e = rw (e, same_bytes n) refl

pub own_is : (columns : List Column) (at : ℕ) (alias name : List ℕ) (own : ExprTree)
    → position (λ c. bytes_eq c.name name) columns ≡ Some at → is_column alias name own ≡ true → IsOwn columns alias own at
own_is columns at alias name own first is = record { cell = λ row m here. column_value alias name own m is ∙ ap (λ r. cell_named r name) here ∙ named_first columns row name at first }

-- the sides of an equation at a row of the alias
own_at : (columns : List Column) (alias : List ℕ) (own : ExprTree) (at : ℕ) (row : Row) (n : Names) → IsOwn columns alias own at
    → value own [] (with_alias n alias (named_row columns row)) ≡ cell_in row at
own_at columns alias own at row n is = is.cell row (with_alias n alias (named_row columns row)) (ap (λ b. cond b (named_row columns row) (n alias)) (same_bytes alias))

other_at : (columns : List Column) (alias : List ℕ) (e : ExprTree) (row : Row) (n : Names) → is_outer alias no_join e ≡ true → value e [] (with_alias n alias (named_row columns row)) ≡ value e [] n
other_at columns alias e row n outer =
    outer_value alias no_join e (with_alias n alias (named_row columns row)) n outer (λ b apart alone. ap (λ c. cond c (named_row columns row) (n b)) apart)

-- an equation is true where its sides are equal
equation_is : (l r : ExprTree) (t : Test) (es : List ExprTree) (w : World) (m : Names) → IsEquation t es r → kept_one (tree.test l t es) w m ≡ is_true (equal (value l [] m) (value r [] m))
equation_is l r t es w m equates = ap₂ (λ u operands. kept_one (tree.test l u operands) w m) equates.test equates.operand

pub link_left : (columns : List Column) (alias : List ℕ) (own e : ExprTree) (t : Test) (es : List ExprTree) (at : ℕ) → IsEquation t es e
    → IsOwn columns alias own at → is_outer alias no_join e ≡ true → IsLink columns alias (tree.test own t es) at e
link_left columns alias own e t es at equates is outer =
    record {
      keeps = λ w row n.
          equation_is own e t es w (with_alias n alias (named_row columns row)) equates
          ∙ ap₂ (λ a b. is_true (equal a b)) (own_at columns alias own at row n is) (other_at columns alias e row n outer)
          ∙ equal_cell (get_or row at val.Null) (value e [] n);
    }

pub link_right : (columns : List Column) (alias : List ℕ) (own e : ExprTree) (t : Test) (es : List ExprTree) (at : ℕ) → IsEquation t es own
    → IsOwn columns alias own at → is_outer alias no_join e ≡ true → IsLink columns alias (tree.test e t es) at e
link_right columns alias own e t es at equates is outer =
    record {
      keeps = λ w row n.
          equation_is e own t es w (with_alias n alias (named_row columns row)) equates
          ∙ ap₂ (λ a b. is_true (equal a b)) (other_at columns alias e row n outer) (own_at columns alias own at row n is)
          ∙ equal_swapped (value e [] n) (cell_in row at) ∙ equal_cell (get_or row at val.Null) (value e [] n);
    }

-- ---- keys, cell by cell

-- a row has a key where it has each cell of it
abbrev pub keys_like : (columns : List ℕ) → List CellTree → Row → Bool
keys_like (c ∷ cs) (k ∷ ks) row = has_cell (cell_in row c) k && keys_like cs ks row
keys_like [] [] row = true
keys_like [] (k ∷ ks) row = false
keys_like (c ∷ cs) [] row = false

both_equal : (o p : Ordering) → is_eq (ordering_then o p) ≡ (is_eq o && is_eq p)
both_equal Less p = refl
both_equal Equal p = refl
both_equal Greater p = refl

and_false : (b : Bool) → (b && false) ≡ false
and_false true = refl
and_false false = refl

pub and_true : (b : Bool) → (b && true) ≡ b
and_true true = refl
and_true false = refl

and_turned : (a b c d : Bool) → (not (a || b) && (c && d)) ≡ ((not a && c) && (not b && d))
and_turned true b c d = refl
and_turned false true true d = refl
and_turned false true false d = refl
and_turned false false true d = refl
and_turned false false false d = refl

and_regroup : (a b c : Bool) → ((a && b) && c) ≡ (a && (b && c))
and_regroup true b c = refl
and_regroup false b c = refl

pub key_like : (cs : List ℕ) (ks : List CellTree) (row : Row) → length cs ≡ length ks → has_key cs ks row ≡ keys_like cs ks row
key_like [] [] row e = refl
key_like [] (k ∷ ks) row e = cc
key_like (c ∷ cs) [] row e = cc
key_like (c ∷ cs) (k ∷ ks) row e =
    let o = cell_cmp (cell_in row c) k in
    let p = keys_cmp (key_in cs row) ks in
    ap (λ b. not (null_test k || has_null ks) && b) (both_equal o p)
    ∙ and_turned (null_test k) (has_null ks) (is_eq o) (is_eq p)
    ∙ ap (λ b. has_cell (cell_in row c) k && b) (key_like cs ks row (omega (arith, e)))

like_more : (cs : List ℕ) (ks : List CellTree) (c : ℕ) (k : CellTree) (row : Row) → length cs ≡ length ks
    → keys_like (cs ++ c ∷ []) (ks ++ k ∷ []) row ≡ (keys_like cs ks row && has_cell (cell_in row c) k)
like_more [] [] c k row e = and_true (has_cell (cell_in row c) k)
like_more [] (j ∷ ks) c k row e = cc
like_more (b ∷ cs) [] c k row e = cc
like_more (b ∷ cs) (j ∷ ks) c k row e =
    ap (λ x. has_cell (cell_in row b) j && x) (like_more cs ks c k row (omega (arith, e))) ∙ sym (and_regroup (has_cell (cell_in row b) j) (keys_like cs ks row) (has_cell (cell_in row c) k))

-- ---- several conditions

pub no_links : (columns : List Column) (alias : List ℕ) → AreLinks columns alias [] [] []
no_links columns alias = record { long = refl; keeps = λ w row n. refl }

length_map : {A B : Type 0} (f : A → B) (xs : List A) → length (map f xs) ≡ length xs
length_map f [] = refl
length_map f (x ∷ xs) = ap suc (length_map f xs)

-- one more
pub more_links : (columns : List Column) (alias : List ℕ) (ps : List (Bor Pred)) (i : ℕ) (p : Bor Pred) (own : List ℕ) (links : List (Bor Expr)) (l : Link) → i < length ps → p ≡ get_or ps i p
    → AreLinks columns alias (lent_views (take i ps)) own links → IsLink columns alias (pred_view p.now) l.column (expr_view l.expr.now)
    → AreLinks columns alias (lent_views (take (i + 1) ps)) (own ++ l.column ∷ []) (links ++ l.expr ∷ [])
more_links columns alias ps i p own links l lt is so_far link =
    let longer : take (i + 1) ps ≡ take i ps ++ p ∷ [] = ap (λ n. take n ps) (add-one i) ∙ take-suc ps i p lt ∙ ap (λ d. take i ps ++ d ∷ []) (sym is) in
    let short = so_far.long in
    let first = length-append own (l.column ∷ []) in
    let second = length-append links (l.expr ∷ []) in
    let long : length (own ++ l.column ∷ []) ≡ length (links ++ l.expr ∷ []) = omega (arith, short, first, second) in
    let key : Names → List CellTree = link_keys links in
    let k : Names → CellTree = λ n. key_cell (value (expr_view l.expr.now) [] n) in
    let keys_more : (n : Names) → link_keys (links ++ l.expr ∷ []) n ≡ key n ++ k n ∷ [] = λ n. map-append (λ (e : Bor Expr). key_cell (value (expr_view e.now) [] n)) links (l.expr ∷ []) in
    let fits : (n : Names) → length own ≡ length (key n) = λ n. (let same = length_map (λ (e : Bor Expr). key_cell (value (expr_view e.now) [] n)) links in omega (arith, short, same)) in
    let fits_more : (n : Names) → length (own ++ l.column ∷ []) ≡ length (key n ++ k n ∷ []) = λ n. (let a = fits n in let b = length-append (key n) (k n ∷ []) in omega (arith, a, b, first)) in
    record {
      long = long;
      keeps = λ w row n.
          let m = with_alias n alias (named_row columns row) in
          ap (λ qs. all_kept (lent_views qs) w m) longer
          ∙ ap (λ qs. all_kept qs w m) (map-append (λ (q : Bor Pred). pred_view q.now) (take i ps) (p ∷ []))
          ∙ all_append (lent_views (take i ps)) (pred_view p.now ∷ []) w m
          ∙ ap₂ (λ a b. a && (b && true)) (so_far.keeps w row n) (link.keeps w row n)
          ∙ ap₂ (λ a b. a && b) (key_like own (key n) row (fits n)) (and_true (has_cell (cell_in row l.column) (k n)))
          ∙ sym (like_more own (key n) l.column (k n) row (fits n))
          ∙ sym (key_like (own ++ l.column ∷ []) (key n ++ k n ∷ []) row (fits_more n))
          ∙ ap (λ ks. has_key (own ++ l.column ∷ []) ks row) (sym (keys_more n));
    }
