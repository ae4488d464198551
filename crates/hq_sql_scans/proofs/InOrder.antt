-- Rows in the order of an index, and what WHERE keeps of them, in the order of ORDER BY.
use Rattle.std.proofs.Common.{◌≡◌, ◌∙◌, ◌==◌, ◌<◌, ◌≤◌, refl, sym, ap, ap₂, subst, ℕ, suc, List, [], ◌∷◌, ◌++◌, map, filter, flat_map, length, reverse, get_or, Bool, true, false, cond, not, Some, Ordering, bytes_eq, arith}
use Rattle.std.specs.List.{position}
use Rattle.std.specs.Borrow.{Bor}
use Rattle.std.specs.Cmp.{IsTotalOrder}
use Rattle.std.specs.Ordering.{flip_args, nat_cmp, ordering_then}
use Rattle.std.proofs.lemmas.Bool.{or_parts, ne_eqb, false≢true}
use Rattle.std.proofs.lemmas.Cmp.{back_total}
use Rattle.hq_base.specs.Cells.{CellTree, null, int, text, bool, json, cell_cmp, key_cmp, null_rank}
use Rattle.hq_base.specs.Lists.{Each, put, sort}
use Rattle.hq_base.proofs.Lists.{each_weaken, each_filter, filter_all}
use Rattle.hq_base.proofs.Sorts.{sort_length, sort_filter}
use Rattle.hq_model.specs.Database.{Row}
use Rattle.hq_model.specs.Logic.{null_test}
use Rattle.hq_model.specs.declared.table.Column.{Column}
use Rattle.hq_load_index.specs.Indexes.{counted, by_key, columns_of, entries_of}
use Rattle.hq_load_index.specs.Keys.{key_at, cell_in, key_in, has_null}
use Rattle.hq_load_index.specs.declared.index.Index.{Index}
use Rattle.hq_sql_scans.proofs.Backward.{apart_counted, each_counted, sort_turned}
use Rattle.hq_load_index.proofs.Counted.{length-counted}
use Rattle.hq_load_index.proofs.Sorted.{by_key_total}
use Rattle.hq_sql_tree.specs.Tree.{OrderTree, JoinTrees}
use Rattle.hq_sql_tree.specs.View.{expr_view, filter_view, order_view}
use Rattle.hq_sql_tree.specs.declared.expr.Expr.{Expr}
use Rattle.hq_sql_tree.specs.declared.expr.Order.{Order}
use Rattle.hq_sql_tree.specs.Meaning.{NamedRow, Scope as Names, World, cell_named, with_alias, named_row, joined, kept, order_cmp}
use Rattle.hq_sql_access.specs.Equations.{is_joined, is_column}
use Rattle.hq_sql_scans.specs.Ordered.{Finds, IsKey, OrdersBy, HasOrder, places_looked, standing, towards, walked}
use Rattle.hq_sql_scans.specs.Positions.{FindsArranged, IsOverSource, WalksRows, kept_of, arranged, positions_of, rows_at}
use Rattle.hq_sql_scans.specs.declared.positions.Positions.{Positions}
use Rattle.hq_sql_scans.specs.declared.ordered.Looked.{Looked}
use Rattle.hq_sql_scans.specs.declared.ordered.Looked.TheVariants.{Arranged, Sorted}
use Rattle.hq_sql_access.specs.View.{scope_of, source_view}
use Rattle.hq_sql_access.specs.declared.scope.Scope.{Scope as InScope}
use Rattle.hq_sql_access.specs.declared.scope.Source.{Source}
use Rattle.hq_sql_access.specs.declared.stages.Parts.{Parts}
use Rattle.hq_sql_access.proofs.Asked.{not_true, column_value, named_first}
use Rattle.hq_sql_scans.proofs.Blocks.{sort_blocks}
use Rattle.hq_sql_scans.proofs.Looked.{Keeps, joined_keeps, kept_cons, same_bytes, stored_rows}
use Rattle.hq_sql_access.proofs.NamedCells.{stored_row}

-- ---- keys without NULLs

null_rank_of : (nulls_first : Bool) (c : CellTree) → null_test c ≡ false → null_rank nulls_first c ≡ cond nulls_first 1 0
null_rank_of nulls_first null e = cc
null_rank_of nulls_first (int n) e = refl
null_rank_of nulls_first (text t) e = refl
null_rank_of nulls_first (bool b) e = refl
null_rank_of nulls_first (json j) e = refl

-- wherever NULLs stand, cells that are none are in the order of cells, or in the one against it
key_cells : (desc nulls_first : Bool) (a b : CellTree) → null_test a ≡ false → null_test b ≡ false → key_cmp desc nulls_first a b ≡ cond desc (flip_args cell_cmp) cell_cmp a b
key_cells desc nulls_first a b e f =
    let d = cond desc (flip_args cell_cmp) cell_cmp a b in
    let same : (c : Bool) → ordering_then (nat_cmp (cond c 1 0) (cond c 1 0)) d ≡ d = elim [ true ↦ refl | false ↦ refl ] in
    ap₂ (λ m n. ordering_then (nat_cmp m n) d) (null_rank_of nulls_first a e) (null_rank_of nulls_first b f) ∙ same nulls_first

-- the first cells, and then the others
towards_more : (desc : Bool) (a b : CellTree) (xs ys : List CellTree) → ordering_then (cond desc (flip_args cell_cmp) cell_cmp a b) (towards desc xs ys) ≡ towards desc (a ∷ xs) (b ∷ ys)
towards_more true a b xs ys = refl
towards_more false a b xs ys = refl

-- the first column of a name is a sort key
pub key_is : (desc : Bool) (columns : List Column) (at : ℕ) (alias name : List ℕ) (o : OrderTree) → o.desc ≡ desc
    → position (λ c. bytes_eq c.name name) columns ≡ Some at → is_column alias name o.value ≡ true → IsKey desc columns alias at o
key_is desc columns at alias name o directed first is =
    record {
      directed = directed;
      cell = λ row m here. column_value alias name o.value m is ∙ ap (λ r. cell_named r name) here ∙ named_first columns row name at first;
    }

pub orders_none : (desc : Bool) (columns : List Column) (alias : List ℕ) → OrdersBy desc columns alias [] []
orders_none true columns alias = record { orders = λ row other m n here there whole all. refl }
orders_none false columns alias = record { orders = λ row other m n here there whole all. refl }

-- one key more in front
pub orders_more : (desc : Bool) (columns : List Column) (alias : List ℕ) (c : ℕ) (cs : List ℕ) (o : OrderTree) (os : List OrderTree)
    → IsKey desc columns alias c o → OrdersBy desc columns alias cs os → OrdersBy desc columns alias (c ∷ cs) (o ∷ os)
orders_more desc columns alias c cs o os key rest =
    record {
      orders = λ row other m n here there whole all.
          let first = or_parts (null_test (cell_in row c)) (has_null (key_in cs row)) whole in
          let second = or_parts (null_test (cell_in other c)) (has_null (key_in cs other)) all in
          ap₂ ordering_then
          (ap₂ (λ a b. key_cmp o.desc o.nulls_first a b) (key.cell row m here) (key.cell other n there)
          ∙ ap (λ d. key_cmp d o.nulls_first (cell_in row c) (cell_in other c)) key.directed
          ∙ key_cells desc o.nulls_first (cell_in row c) (cell_in other c) first.0 second.0)
          (rest.orders row other m n here there first.1 second.1)
          ∙ towards_more desc (cell_in row c) (cell_in other c) (key_in cs row) (key_in cs other);
    }

-- ---- an index that leaves no row out

at_most : {A : Type 0} (p : A → Bool) (xs : List A) → length (filter p xs) ≤ length xs
at_most p [] = omega arith
at_most p (x ∷ xs) =
    let later = at_most p xs in
    let go : (b : Bool) → length (cond b (x ∷ filter p xs) (filter p xs)) ≤ suc (length xs) = elim [ true ↦ omega (arith, later) | false ↦ omega (arith, later) ] in
    go (p x)

-- a test that leaves as many items as there are is passed by each
each_left : {A : Type 0} (p : A → Bool) (xs : List A) → length (filter p xs) ≡ length xs → Each (λ x. p x ≡ true) xs
each_left p [] e = tt
each_left p (x ∷ xs) e =
    let few = at_most p xs in
    let go : (b : Bool) → p x ≡ b → length (cond b (x ∷ filter p xs) (filter p xs)) ≡ suc (length xs) → (p x ≡ true) × Each (λ y. p y ≡ true) xs =
    elim [ true ↦ λ f g. (f, each_left p xs (omega (arith, g))) | false ↦ λ f g. absurd (omega (arith, few, g)) ] in
    go (p x) refl e

each_both : {A : Type 0} (P Q : A → Type 0) (xs : List A) → Each P xs → Each Q xs → Each (λ x. P x × Q x) xs
each_both P Q [] h k = tt
each_both P Q (x ∷ xs) h k = ((h.0, k.0), each_both P Q xs h.1 k.1)

module _ (columns : List Column) (rows : List Row) (js : JoinTrees) (w : World) (n : Names) (a : List ℕ) (keeps : Names → Bool) where
  -- what WHERE keeps of the row at a place
  abbrev block : ℕ → List Names
  block p = filter keeps (joined js w (with_alias n a (get_or (map (named_row columns) rows) p [])))

  kept_blocks : (ps : List ℕ) → kept_of js w n a keeps (map (λ p. get_or (map (named_row columns) rows) p []) ps) ≡ flat_map block ps
  kept_blocks [] = refl
  kept_blocks (p ∷ ps) =
      kept_cons js w n a keeps (get_or (map (named_row columns) rows) p []) (map (λ q. get_or (map (named_row columns) rows) q []) ps) ∙ ap (λ l. block p ++ l) (kept_blocks ps)

  -- the alias has the row there
  abbrev IsAt : ℕ → Names → Type 0
  IsAt p m = m a ≡ named_row columns (get_or rows p [])

  each_block : is_joined js a ≡ false → (p : ℕ) → Each (IsAt p) (block p)
  each_block alone p =
      let r = get_or (map (named_row columns) rows) p [] in
      each_filter (IsAt p) keeps (joined js w (with_alias n a r))
      (each_weaken (Keeps js (with_alias n a r)) (IsAt p)
      (λ m around. around a alone ∙ (ap (λ b. cond b r (n a)) (same_bytes a) ∙ sym (stored_row columns rows p)))
      (joined js w (with_alias n a r)) (joined_keeps js w (with_alias n a r)))

  -- what WHERE keeps of the rows in an order that ORDER BY agrees with is what it keeps of all of them, sorted
  blocks_sorted : (os : List OrderTree) (S : ℕ → ℕ → Ordering) (Whole : ℕ → Type 0) → IsTotalOrder S → is_joined js a ≡ false → Each Whole (counted 0 (length rows))
      → ((p r : ℕ) (x y : Names) → Whole p → Whole r → IsAt p x → IsAt r y → order_cmp os x y ≡ S p r)
      → kept_of js w n a keeps (map (λ p. get_or (map (named_row columns) rows) p []) (sort S (counted 0 (length rows)))) ≡ sort (order_cmp os) (kept_of js w n a keeps (map (named_row columns) rows))
  blocks_sorted os S Whole total alone whole agree =
      let all = counted 0 (length rows) in
      kept_blocks (sort S all) ∙ sort_blocks total (order_cmp os) block Whole IsAt (each_block alone) agree all whole
      ∙ ap (sort (order_cmp os)) (sym (kept_blocks all) ∙ ap (kept_of js w n a keeps) (stored_rows columns rows))

  -- what WHERE keeps of the rows in the order of an index, or against it, is what it keeps of all of them, sorted
  pub ordered_is : (desc : Bool) (os : List OrderTree) (index : Bor Index) → HasOrder desc columns rows a os index.now → is_joined js a ≡ false
      → kept_of js w n a keeps (map (λ p. get_or (map (named_row columns) rows) p []) (positions_of (walked desc index))) ≡ sort (order_cmp os) (kept_of js w n a keeps (map (named_row columns) rows))
  ordered_is desc os index has alone =
      let f : ℕ → NamedRow = λ p. get_or (map (named_row columns) rows) p [] in
      let cs = columns_of index.now in
      let R = by_key cs rows in
      let all = counted 0 (length rows) in
      let q : ℕ → Bool = λ k. not (has_null (key_at cs rows k)) in
      let Whole : ℕ → Type 0 = λ k. (k < length rows) × (has_null (key_at cs rows k) ≡ false) in
      let turned : entries_of index.now ≡ sort R (filter q all) = has.over.entries ∙ sort_filter (by_key_total cs rows) q all in
      let many : length (filter q all) ≡ length all = sym (sort_length R (filter q all)) ∙ ap length (sym turned) ∙ has.whole ∙ sym (length-counted 0 (length rows)) in
      let each = each_left q all many in
      let entries : entries_of index.now ≡ sort R all = turned ∙ ap (sort R) (filter_all q all each) in
      let within : Each (λ k. k < length rows) all = each_counted (λ k. k < length rows) 0 (length rows) (λ k le lt. omega (arith, lt)) in
      let whole : Each Whole all =
      each_both (λ k. k < length rows) (λ k. has_null (key_at cs rows k) ≡ false) all within
      (each_weaken (λ k. q k ≡ true) (λ k. has_null (key_at cs rows k) ≡ false) (λ k e. not_true (has_null (key_at cs rows k)) e) all
      each) in
      let walk : (d : Bool) → HasOrder d columns rows a os index.now
      → kept_of js w n a keeps (map f (positions_of (walked d index)))
      ≡ sort (order_cmp os) (kept_of js w n a keeps (map (named_row columns) rows)) =
      elim [
        | false ↦ λ h. ap (λ ps. kept_of js w n a keeps (map f ps)) entries
            ∙ blocks_sorted os R Whole (by_key_total cs rows) alone whole (λ p r x y pp pr px py. h.orders.orders p r x y pp.0 pr.0 px py pp.1 pr.1)
        | true ↦ λ h.
            (let apart = apart_counted R 0 (length rows) (λ i j less lt. h.unique refl i j less (omega (arith, lt))) in
            ap (λ ps. kept_of js w n a keeps (map f (reverse ps))) entries ∙ ap (λ ps. kept_of js w n a keeps (map f ps)) (sym (sort_turned (by_key_total cs rows) all apart))
            ∙ blocks_sorted os (flip_args R) Whole (back_total (by_key_total cs rows)) alone whole (λ p r x y pp pr px py. h.orders.orders p r x y pp.0 pr.0 px py pp.1 pr.1))
      ] in
      walk desc has

-- ---- without ORDER BY

put_first : (x : Names) (xs : List Names) → put (order_cmp []) x xs ≡ x ∷ xs
put_first x [] = refl
put_first x (y ∷ ys) = refl

-- the rows keep their order
sort_none : (xs : List Names) → sort (order_cmp []) xs ≡ xs
sort_none [] = refl
sort_none (x ∷ xs) = ap (put (order_cmp []) x) (sort_none xs) ∙ put_first x xs

-- without ORDER BY the rows stay
pub none_sorted : (os : List Order) (xs : List Names) → (length os == 0) ≡ true → xs ≡ sort (order_cmp (map order_view os)) xs
none_sorted [] xs e = sym (sort_none xs)
none_sorted (o ∷ os) xs e = absurd (false≢true (sym (ne_eqb (length (o ∷ os)) 0 (λ j. absurd (omega arith))) ∙ e))

-- without ORDER BY and DISTINCT ON the rows stay
pub none_arranged : (os : List Order) (es : List Expr) (xs : List Names) → (length os == 0) ≡ true → (length es == 0) ≡ true → xs ≡ arranged (map expr_view es) (map order_view os) xs
none_arranged [] [] xs e k = sym (sort_none xs)
none_arranged (o ∷ os) es xs e k = absurd (false≢true (sym (ne_eqb (length (o ∷ os)) 0 (λ j. absurd (omega arith))) ∙ e))
none_arranged [] (x ∷ es) xs e k = absurd (false≢true (sym (ne_eqb (length (x ∷ es)) 0 (λ j. absurd (omega arith))) ∙ k))

-- ---- what stands as ORDER BY leaves it

-- without DISTINCT ON all is left
pub standing_none : (es : List Expr) (n : ℕ) (positions : Positions) → n ≡ length es → (n == 0) ≡ true → Arranged positions ≡ standing es positions
standing_none [] n positions long e = refl
standing_none (x ∷ es) n positions long e = absurd (false≢true (sym (ne_eqb n 0 (λ j. absurd (omega (arith, j, long)))) ∙ e))

pub standing_some : (es : List Expr) (n : ℕ) (positions : Positions) → n ≡ length es → (n == 0) ≡ false → Sorted positions ≡ standing es positions
standing_some [] n positions long e = let none : n ≡ 0 = long in absurd (false≢true (sym e ∙ ap (λ k. k == 0) none))
standing_some (x ∷ es) n positions long e = refl

-- they are looked at
pub standing_places : (es : List Expr) (positions : Positions) → places_looked (standing es positions) ≡ positions
standing_places [] positions = refl
standing_places (e ∷ es) positions = refl

-- what is walked in the order of an index over the rows of a table
pub walked_rows : (desc : Bool) (source : Source) (index : Bor Index) → IsOverSource source index.now → WalksRows source (walked desc index)
walked_rows false source index over = over
walked_rows true source index over = over

-- places that stand as ORDER BY leaves them walk what they walked
pub standing_walks : (es : List Expr) (source : Source) (positions : Positions) (looked : Looked) → looked ≡ standing es positions → WalksRows source positions
    → WalksRows source (places_looked looked)
standing_walks es source positions looked is walks = subst (WalksRows source) (sym (ap places_looked is ∙ standing_places es positions)) walks

pub stands : (js : JoinTrees) (scope : InScope) (alias : List ℕ) (parts : Parts) (source : Source) (positions : Positions) (es : List Expr) → es ≡ parts.distinct.now.items
    → FindsArranged js scope alias (filter_view parts.filter.now) [] (map order_view parts.order.now.items) source
    (rows_at source positions)
    → Finds js scope alias parts source (standing es positions)
stands js scope alias parts source positions [] is finds =
    λ w. finds w ∙ ap (λ ds. arranged (map expr_view ds) (map order_view parts.order.now.items) (kept_of js w (scope_of scope w) alias (kept (filter_view parts.filter.now) w) (source_view source))) is
stands js scope alias parts source positions (e ∷ es) is finds = finds
