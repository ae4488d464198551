-- A set of the values that were seen tells groups apart as DISTINCT ON does.
use Rattle.std.proofs.Common.{◌≡◌, List, [], ◌∷◌, ◌++◌, map, cond, not, Bool, true, false, ◌&&◌, ◌||◌, refl, sym, ap, ap₂, ◌∙◌, Ordering, Less, Equal, Greater, is_eq}
use Rattle.std.specs.Cmp.{IsTotalOrder}
use Rattle.std.specs.Cmp.Lexicographic.{slice_cmp}
use Rattle.std.specs.List.{list_any}
use Rattle.std.specs.Ordering.{nat_cmp, int_cmp, ordering_then, ordering_reverse, match_ordering}
use Rattle.std.specs.BTreeSet.{insert_key}
use Rattle.std.specs.Global.{Vec}
use Rattle.hq_sql_cells.specs.declared.kept.Kept.{Kept}
use Rattle.hq_base.specs.Cells.{cell_cmp}
use Rattle.hq_sql_cells.specs.contracts.seen.SeenCellOrd.TheImpl as seen_ord
use Rattle.hq_sql_cells.specs.declared.cell.Cell.{Cell}
use Rattle.hq_sql_cells.specs.declared.cell.Cell.TheVariants.{Null, Int, Text, Bool as Flag, Json}
use Rattle.hq_sql_cells.specs.declared.seen.SeenCell.{SeenCell}
use Rattle.hq_sql_cells.specs.declared.seen.SeenCell.TheVariants as seen
use Rattle.hq_base.specs.declared.json.Json.TheVariants as json
use Rattle.hq_base.proofs.Orders.{cell_cmp_total}
use Rattle.std.proofs.lemmas.Cmp.{lists_total}
use Rattle.hq_sql_cells.specs.Keys.{same_cells, same_group}
use Rattle.hq_sql_cells.specs.Seen.{seen_of}
use Rattle.hq_sql_cells.specs.View.{cell_view}
use Rattle.hq_base.specs.Lists.{firsts}
use Rattle.hq_base.proofs.Lists.{filter_all, each_all}
use Rattle.hq_sql_cells.proofs.Orders.{then_equal}
use Rattle.hq_sql_cells.proofs.Fresh.{fresh, fresh_step}

-- cells of a set stand in the order of the cells that they were taken from
seen_cmp_is : (a b : Cell) → seen_ord.ghosts.cmp (seen_of a) (seen_of b) ≡ cell_cmp (cell_view a) (cell_view b)
seen_cmp_is Null Null = refl
seen_cmp_is Null (Int n) = refl
seen_cmp_is Null (Text t) = refl
seen_cmp_is Null (Flag c) = refl
seen_cmp_is Null (Json k) = refl
seen_cmp_is (Int m) Null = refl
seen_cmp_is (Int m) (Int n) = sym (then_equal (int_cmp m n))
seen_cmp_is (Int m) (Text t) = refl
seen_cmp_is (Int m) (Flag c) = refl
seen_cmp_is (Int m) (Json k) = refl
seen_cmp_is (Text s) Null = refl
seen_cmp_is (Text s) (Int n) = refl
seen_cmp_is (Text s) (Text t) = sym (then_equal (slice_cmp nat_cmp s.now t.now))
seen_cmp_is (Text s) (Flag c) = refl
seen_cmp_is (Text s) (Json k) = refl
seen_cmp_is (Flag b) Null = refl
seen_cmp_is (Flag b) (Int n) = refl
seen_cmp_is (Flag b) (Text t) = refl
seen_cmp_is (Flag b) (Flag c) = refl
seen_cmp_is (Flag b) (Json k) = refl
seen_cmp_is (Json j) Null = refl
seen_cmp_is (Json j) (Int n) = refl
seen_cmp_is (Json j) (Text t) = refl
seen_cmp_is (Json j) (Flag c) = refl
seen_cmp_is (Json j) (Json k) = refl

-- a cell that a cell of a set was taken from
abbrev pub cell_from : SeenCell → Cell
cell_from seen.Null = Null
cell_from (seen.Int n) = Int n
cell_from (seen.Text t) = Text t
cell_from (seen.Bool b) = Flag b
cell_from seen.Json = Json json.Null

taken_from : (s : SeenCell) → seen_of (cell_from s) ≡ s
taken_from seen.Null = refl
taken_from (seen.Int n) = refl
taken_from (seen.Text t) = refl
taken_from (seen.Bool b) = refl
taken_from seen.Json = refl

seen_cmp_from : (s t : SeenCell) → seen_ord.ghosts.cmp s t ≡ cell_cmp (cell_view (cell_from s)) (cell_view (cell_from t))
seen_cmp_from s t = ap₂ seen_ord.ghosts.cmp (sym (taken_from s)) (sym (taken_from t)) ∙ seen_cmp_is (cell_from s) (cell_from t)

-- an order that is a total one of images is total
total_by : {A B : Type 0} (R : A → A → Ordering) {S : B → B → Ordering} (n : A → B) → ((x y : A) → R x y ≡ S (n x) (n y)) → IsTotalOrder S → IsTotalOrder R
total_by R n agree o = record {
  antisymm = λ x y. rw (agree x y, agree y x) (o.antisymm (n x) (n y));
  trans = λ x y z h g. agree x z ∙ o.trans (n x) (n y) (n z) (sym (agree x y) ∙ h) (sym (agree y z) ∙ g);
  congr = λ x y z h. agree x z ∙ o.congr (n x) (n y) (n z) (sym (agree x y) ∙ h) ∙ sym (agree y z);
}

-- the order of rows of such cells
abbrev pub rows_cmp : List SeenCell → List SeenCell → Ordering
rows_cmp = slice_cmp seen_ord.ghosts.cmp

rows_cmp_total : IsTotalOrder rows_cmp
rows_cmp_total = lists_total (total_by seen_ord.ghosts.cmp (λ s. cell_view (cell_from s)) seen_cmp_from cell_cmp_total)

then_is_eq : (o p : Ordering) → is_eq (ordering_then o p) ≡ (is_eq o && is_eq p)
then_is_eq Less p = refl
then_is_eq Equal p = refl
then_is_eq Greater p = refl

-- rows that are equal in it are not distinct
pub same_rows : (xs ys : List Cell) → is_eq (rows_cmp (map seen_of xs) (map seen_of ys)) ≡ same_cells (map cell_view xs) (map cell_view ys)
same_rows [] [] = refl
same_rows [] (y ∷ ys) = refl
same_rows (x ∷ xs) [] = refl
same_rows (x ∷ xs) (y ∷ ys) =
    then_is_eq (seen_ord.ghosts.cmp (seen_of x) (seen_of y)) (rows_cmp (map seen_of xs) (map seen_of ys))
    ∙ rw (seen_cmp_is x y, same_rows xs ys) refl

-- ---- what a set has once a key is put into it

or_turn : (a b c : Bool) → (b || (a || c)) ≡ (a || (b || c))
or_turn true true c = refl
or_turn true false c = refl
or_turn false true c = refl
or_turn false false c = refl

or_twice : (a b : Bool) → (a || b) ≡ (a || (a || b))
or_twice true b = refl
or_twice false b = refl

-- a test that equal keys pass alike finds the new key or one that was there
pub any_inserted : {K : Type 0} (R : K → K → Ordering) (p : K → Bool) (alike : (x y : K) → R x y ≡ Equal → p x ≡ p y) (k : K) (ks : List K)
    → list_any p (insert_key R ks k) ≡ (p k || list_any p ks)
any_inserted R p alike k [] = refl
any_inserted R p alike k (x ∷ xs) =
    let later = any_inserted R p alike k xs in
    let go : (o : Ordering) → R k x ≡ o → list_any p (match_ordering o (k ∷ x ∷ xs) (x ∷ xs) (x ∷ insert_key R xs k)) ≡ (p k || (p x || list_any p xs)) =
    elim [
      | Less ↦ λ e. refl
      | Equal ↦ λ e. rw (alike k x e) (or_twice (p x) (list_any p xs))
      | Greater ↦ λ e. rw later (or_turn (p k) (p x) (list_any p xs))
    ] in
    go (R k x) refl

-- ---- groups of kept rows

-- the row's group was seen, where the set has these keys
abbrev pub seen_in : {T : Type 0} → List (Vec SeenCell) → Kept T → Bool
seen_in keys row = list_any (λ k. is_eq (rows_cmp k.items (map seen_of row.distinct.items))) keys

flip_is_eq : (xs ys : List SeenCell) → is_eq (rows_cmp xs ys) ≡ is_eq (rows_cmp ys xs)
flip_is_eq xs ys =
    let go : (o : Ordering) → is_eq (ordering_reverse o) ≡ is_eq o = elim [ Less ↦ refl | Equal ↦ refl | Greater ↦ refl ] in
    rw (rows_cmp_total.antisymm xs ys) (go (rows_cmp ys xs))

-- once the values of a row are in the set, the rows of its group are seen too
pub seen_grows : {T : Type 0} (keys : List (Vec SeenCell)) (key : Vec SeenCell) (x : Kept T) → key.items ≡ map seen_of x.distinct.items → (y : Kept T)
    → seen_in (insert_key (λ j k. rows_cmp j.items k.items) keys key) y ≡ (same_group x y || seen_in keys y)
seen_grows keys key x is y =
    let test : Vec SeenCell → Bool = λ k. is_eq (rows_cmp k.items (map seen_of y.distinct.items)) in
    any_inserted (λ j k. rows_cmp j.items k.items) test (λ j k e. ap is_eq (rows_cmp_total.congr j.items k.items (map seen_of y.distinct.items) e)) key keys
    ∙ ap (λ b. b || list_any test keys) (ap (λ ks. is_eq (rows_cmp ks (map seen_of y.distinct.items))) is ∙ same_rows x.distinct.items y.distinct.items)

-- whether the set has the values of a row
seen_found : {T : Type 0} (keys : List (Vec SeenCell)) (key : Vec SeenCell) (x : Kept T) → key.items ≡ map seen_of x.distinct.items
    → list_any (λ k. is_eq (rows_cmp key.items k.items)) keys ≡ seen_in keys x
seen_found [] key x is = refl
seen_found (k ∷ keys) key x is =
    ap₂ (λ a b. a || b) (flip_is_eq key.items k.items ∙ ap (λ ks. is_eq (rows_cmp k.items ks)) is) (seen_found keys key x is)

append_assoc : {A : Type 0} (xs ys zs : List A) → (xs ++ ys) ++ zs ≡ xs ++ (ys ++ zs)
append_assoc [] ys zs = refl
append_assoc (x ∷ xs) ys zs = ap (λ l. x ∷ l) (append_assoc xs ys zs)

-- no row was seen by the empty set
pub fresh_begin : {T : Type 0} (keys : List (Vec SeenCell)) (kept old rows : List (Kept T)) → keys ≡ [] → kept ≡ [] → old ≡ rows → kept ++ fresh same_group (seen_in keys) old ≡ firsts same_group rows
fresh_begin {T} keys kept old rows k e is =
    let none : fresh same_group (seen_in []) rows ≡ firsts same_group rows =
    filter_all (λ x. not (seen_in [] x)) (firsts same_group rows)
    (each_all (λ (x : Kept T). not (seen_in [] x) ≡ true) (λ x. refl) (firsts same_group rows)) in
    rw (k, e, is) none

abbrev inserted : List (Vec SeenCell) → Vec SeenCell → List (Vec SeenCell)
inserted keys key = insert_key (λ j k. rows_cmp j.items k.items) keys key

module _ {T : Type 0} (keys later : List (Vec SeenCell)) (key : Vec SeenCell) (x : Kept T) (kept old new all : List (Kept T))
    (is : key.items ≡ map seen_of x.distinct.items) (puts : later ≡ inserted keys key) (next : old ≡ x ∷ new)
    (before : kept ++ fresh same_group (seen_in keys) old ≡ all) where
  step : kept ++ cond (seen_in keys x) (fresh same_group (seen_in later) new) (x ∷ fresh same_group (seen_in later) new) ≡ all
  step =
      let grows : (y : Kept T) → seen_in later y ≡ (same_group x y || seen_in keys y) = λ y. ap (λ ks. seen_in ks y) puts ∙ seen_grows keys key x is y in
      ap (λ l. kept ++ l) (sym (fresh_step same_group (seen_in keys) (seen_in later) x grows new)) ∙ ap (λ l. kept ++ fresh same_group (seen_in keys) l) (sym next) ∙ before

  -- a row whose group is new is kept
  pub fresh_kept : (more : List (Kept T)) → not (list_any (λ k. is_eq (rows_cmp key.items k.items)) keys) ≡ true → more ≡ kept ++ x ∷ [] → more ++ fresh same_group (seen_in later) new ≡ all
  fresh_kept more found grown =
      let unseen : not (seen_in keys x) ≡ true = ap not (sym (seen_found keys key x is)) ∙ found in
      let go : (b : Bool) → not b ≡ true → kept ++ cond b (fresh same_group (seen_in later) new) (x ∷ fresh same_group (seen_in later) new) ≡ all → more ++ fresh same_group (seen_in later) new ≡ all =
      elim [ true ↦ λ e h. cc | false ↦ λ e h. ap (λ l. l ++ fresh same_group (seen_in later) new) grown ∙ append_assoc kept (x ∷ []) (fresh same_group (seen_in later) new) ∙ h ] in
      go (seen_in keys x) unseen step

  -- another one is passed over
  pub fresh_passed : not (list_any (λ k. is_eq (rows_cmp key.items k.items)) keys) ≡ false → kept ++ fresh same_group (seen_in later) new ≡ all
  fresh_passed found =
      let seen : not (seen_in keys x) ≡ false = ap not (sym (seen_found keys key x is)) ∙ found in
      let go : (b : Bool) → not b ≡ false
      → kept ++ cond b (fresh same_group (seen_in later) new) (x ∷ fresh same_group (seen_in later) new) ≡ all
      → kept ++ fresh same_group (seen_in later) new ≡ all =
      elim [ true ↦ λ e h. h | false ↦ λ e h. cc ] in
      go (seen_in keys x) seen step
