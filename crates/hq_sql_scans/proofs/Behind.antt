-- Sort keys behind those of a unique key.
use Rattle.std.proofs.Common.{◌≡◌, ◌∙◌, ◌==◌, refl, sym, ap, ap₂, subst, ℕ, List, [], ◌∷◌, ◌++◌, length, get_or, map, take, drop, append-nil, Bool, true, false, ⊎_elim, Ordering, Less, Equal, Greater, is_eq, arith}
use Rattle.std.specs.Ordering.{ordering_then}
use Rattle.std.proofs.lemmas.Bool.{cases_lt, false≢true, ne_eqb}
use Rattle.std.proofs.lemmas.Cmp.{tied_itself}
use Rattle.std.proofs.lemmas.List.{map-append, take-append-drop}
use Rattle.hq_base.specs.Cells.{CellTree, key_cmp}
use Rattle.hq_base.proofs.Orders.{key_cmp_total}
use Rattle.hq_load_index.specs.Indexes.{by_key}
use Rattle.hq_load_index.specs.Keys.{key_at}
use Rattle.hq_load_index.specs.Repeats.{KeysDiffer}
use Rattle.hq_load_index.proofs.Sorted.{by_key_total}
use Rattle.hq_model.specs.Database.{Row}
use Rattle.hq_model.specs.declared.table.Column.{Column}
use Rattle.hq_sql_tree.specs.Meaning.{Scope as Names, cell_named, named_row, order_cmp, value}
use Rattle.hq_sql_tree.specs.Tree as tree
use Rattle.hq_sql_tree.specs.Tree.{ExprTree, OrderTree}
use Rattle.hq_sql_tree.specs.View.{order_view}
use Rattle.hq_sql_tree.specs.declared.expr.Order.{Order}
use Rattle.hq_sql_scans.specs.Ordered.{OrdersBy, OrdersRows, TiesAt, is_own, towards}
use Rattle.hq_sql_access.proofs.Asked.{same_name}

then_assoc : (a b c : Ordering) → ordering_then a (ordering_then b c) ≡ ordering_then (ordering_then a b) c
then_assoc Less b c = refl
then_assoc Equal b c = refl
then_assoc Greater b c = refl

then_equal : (a : Ordering) → ordering_then a Equal ≡ a
then_equal Less = refl
then_equal Equal = refl
then_equal Greater = refl

first_decides : (a b : Ordering) → is_eq a ≡ false → ordering_then a b ≡ a
first_decides Less b e = refl
first_decides Equal b e = cc
first_decides Greater b e = refl

-- the first sort keys decide, and then the others
cmp_append : (first more : List OrderTree) (m n : Names) → order_cmp (first ++ more) m n ≡ ordering_then (order_cmp first m n) (order_cmp more m n)
cmp_append [] more m n = refl
cmp_append (o ∷ os) more m n =
    let d : Ordering = key_cmp o.desc o.nulls_first (value o.value [] m) (value o.value [] n) in
    ap (ordering_then d) (cmp_append os more m n) ∙ then_assoc d (order_cmp os m n) (order_cmp more m n)

-- ---- sort keys that tie at one row

pub ties_none : (alias : List ℕ) → TiesAt alias []
ties_none alias = record { ties = λ m n same. refl }

-- one key more in front
pub ties_more : (alias : List ℕ) (o : OrderTree) (os : List OrderTree) → TiesAt alias (o ∷ []) → TiesAt alias os → TiesAt alias (o ∷ os)
ties_more alias o os one rest =
    record {
      ties = λ m n same.
          let d : Ordering = key_cmp o.desc o.nulls_first (value o.value [] m) (value o.value [] n) in
          ap₂ ordering_then (sym (then_equal d) ∙ one.ties m n same) (rest.ties m n same);
    }

own_value : (alias : List ℕ) (e : ExprTree) (m n : Names) → is_own alias e ≡ true → m alias ≡ n alias → value e [] m ≡ value e [] n
own_value alias (tree.column a name form) m n is same =
    let e : alias ≡ a = same_name alias a is in
    ap (λ r. cell_named r name) (ap m (sym e) ∙ same ∙ ap n e)
own_value alias (tree.int i) m n is same = cc
own_value alias (tree.text t) m n is same = cc
own_value alias (tree.uuid t) m n is same = cc
own_value alias (tree.bool b) m n is same = cc
own_value alias (tree.object ps) m n is same = cc
own_value alias (tree.aggregate a) m n is same = cc

-- a column of the alias is a sort key that does
pub own_ties : (alias : List ℕ) (o : OrderTree) → is_own alias o.value ≡ true → TiesAt alias (o ∷ [])
own_ties alias o is =
    record {
      ties = λ m n same.
          let c : CellTree = value o.value [] n in
          ap (λ x. ordering_then (key_cmp o.desc o.nulls_first x c) Equal) (own_value alias o.value m n is same)
          ∙ ap (λ p. ordering_then p Equal) (tied_itself (key_cmp_total o.desc o.nulls_first) c);
    }

-- ---- rows by their keys

-- with no key behind
pub orders_alone : (desc : Bool) (columns : List Column) (rows : List Row) (alias : List ℕ) (cs : List ℕ) (os : List OrderTree)
    → OrdersBy desc columns alias cs os → OrdersRows desc columns rows alias cs os
orders_alone desc columns rows alias cs os by =
    record { orders = λ i j m n li lj here there whole all. by.orders (get_or rows i []) (get_or rows j []) m n here there whole all }

module _ (rows : List Row) (cs : List ℕ) where
  reversed_apart : (i j : ℕ) → is_eq (by_key cs rows i j) ≡ false → is_eq (by_key cs rows j i) ≡ false
  reversed_apart i j e =
      let o = by_key_total cs rows in
      let go : (p : Ordering) → by_key cs rows i j ≡ p → is_eq p ≡ false → is_eq (by_key cs rows j i) ≡ false =
      elim [ Less ↦ λ q g. rw (o.antisymm j i, q) refl | Equal ↦ λ q g. cc | Greater ↦ λ q g. rw (o.antisymm j i, q) refl ] in
      go (by_key cs rows i j) refl e

  towards_apart : (desc : Bool) (i j : ℕ) → is_eq (by_key cs rows i j) ≡ false → is_eq (towards desc (key_at cs rows i) (key_at cs rows j)) ≡ false
  towards_apart true i j e = reversed_apart i j e
  towards_apart false i j e = e

  -- behind a key in which no two rows are alike, with keys behind that tie at one row
  pub orders_behind : (desc : Bool) (columns : List Column) (alias : List ℕ) (first more : List OrderTree)
      → OrdersBy desc columns alias cs first → TiesAt alias more → KeysDiffer cs rows (length rows)
      → OrdersRows desc columns rows alias cs (first ++ more)
  orders_behind desc columns alias first more by tie differ =
      record {
        orders = λ i j m n li lj here there whole all.
            let told : order_cmp first m n ≡ towards desc (key_at cs rows i) (key_at cs rows j) = by.orders (get_or rows i []) (get_or rows j []) m n here there whole all in
            let rest = order_cmp more m n in
            let apart : is_eq (by_key cs rows i j) ≡ false → ordering_then (order_cmp first m n) rest ≡ towards desc (key_at cs rows i) (key_at cs rows j) =
            λ e. ap (λ p. ordering_then p rest) told ∙ first_decides (towards desc (key_at cs rows i) (key_at cs rows j)) rest (towards_apart desc i j e) in
            let same : i ≡ j → ordering_then (order_cmp first m n) rest ≡ towards desc (key_at cs rows i) (key_at cs rows j) =
            λ e. ap (ordering_then (order_cmp first m n)) (tie.ties m n (here ∙ ap (λ k. named_row columns (get_or rows k [])) e ∙ sym there)) ∙ then_equal (order_cmp first m n) ∙ told in
            cmp_append first more m n
            ∙ ⊎_elim (λ lt. apart (differ i j lt lj)) (λ le. ⊎_elim (λ lt. apart (reversed_apart j i (differ j i lt li))) (λ ge. same (omega (arith, le, ge))) (cases_lt j i)) (cases_lt i j);
      }

-- ---- ORDER BY cut behind so many keys

cut : (order first more : List Order) (w : ℕ) → first ≡ take w order → more ≡ drop w order → map order_view first ++ map order_view more ≡ map order_view order
cut order first more w front back =
    sym (map-append order_view first more) ∙ ap (map order_view) (ap₂ (λ a b. a ++ b) front back ∙ take-append-drop w order)

-- behind a unique key
pub rows_behind : (desc : Bool) (columns : List Column) (rows : List Row) (alias : List ℕ) (cs : List ℕ) (order first more : List Order) (w : ℕ) → first ≡ take w order → more ≡ drop w order
    → OrdersBy desc columns alias cs (map order_view first) → TiesAt alias (map order_view more) → KeysDiffer cs rows (length rows) → OrdersRows desc columns rows alias cs (map order_view order)
rows_behind desc columns rows alias cs order first more w front back by tie differ =
    subst (λ os. OrdersRows desc columns rows alias cs os) (cut order first more w front back) (orders_behind rows cs desc columns alias (map order_view first) (map order_view more) by tie differ)

-- with no key behind
pub rows_alone : (desc : Bool) (columns : List Column) (rows : List Row) (alias : List ℕ) (cs : List ℕ) (order first more : List Order) (w : ℕ) → first ≡ take w order → more ≡ drop w order
    → OrdersBy desc columns alias cs (map order_view first) → (length more == 0) ≡ true → OrdersRows desc columns rows alias cs (map order_view order)
rows_alone desc columns rows alias cs order first [] w front back by none =
    subst (λ os. OrdersRows desc columns rows alias cs os) (sym (append-nil (map order_view first)) ∙ cut order first [] w front back)
    (orders_alone desc columns rows alias cs (map order_view first) by)
rows_alone desc columns rows alias cs order first (o ∷ more) w front back by none = absurd (false≢true (sym (ne_eqb (length (o ∷ more)) 0 (λ j. absurd (omega arith))) ∙ none))
