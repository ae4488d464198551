-- The order of rows of keys: it is total, it is found key by key, and std's sort by it is the sort of the definitions.
use Rattle.std.proofs.Common.{◌≡◌, ℕ, zero, suc, length, map, drop, drop-cons, get_or, add-one, ◌<◌, ◌≤◌, arith, ◌+◌, List, [], ◌∷◌, Bool, false, refl, ap, ap₂, ◌∙◌, Ordering, Less, Equal, Greater, is_lt, is_eq}
use Rattle.std.specs.Cmp.{IsTotalOrder, IsStrictWeakOrder}
use Rattle.std.specs.Fn.{ComparesAs, Called}
use Rattle.std.specs.List.Sorted.{IsSortedBy, IsStableBy}
use Rattle.std.specs.Ordering.{on, ordering_then}
use Rattle.std.proofs.lemmas.Fn.{always_returns_same}
use Rattle.std.proofs.lemmas.List.Sorted.{ranks_by}
use Rattle.std.proofs.lemmas.Cmp.{then_total, on_total}
use denote.Ref.{Bor}
use denote.Param.Members.{Mut}
use Rattle.hq_base.specs.Aggregates.{first_cell}
use Rattle.hq_base.specs.Cells.{CellTree, null, key_cmp}
use Rattle.hq_sql_cells.specs.View.{cell_view}
use Rattle.hq_sql_cells.specs.declared.cell.Cell.{Cell}
use Rattle.hq_base.specs.Lists.{sort}
use Rattle.hq_base.proofs.Orders.{key_cmp_total}
use Rattle.hq_base.proofs.StableSorts.{std_sort}
use Rattle.hq_sql_cells.specs.Keys.{keys_cmp, other_cells}
use Rattle.hq_sql_cells.specs.declared.order.Direction.{Direction}

-- ---- the order is total

none_total : {A : Type 0} → IsTotalOrder {K = A} (λ x y. Equal)
none_total = record { antisymm = λ x y. refl; trans = λ x y z h g. h; congr = λ x y z h. refl }

pub keys_cmp_total : (ds : List Direction) → IsTotalOrder (keys_cmp ds)
keys_cmp_total [] = none_total
keys_cmp_total (d ∷ ds) = then_total (on_total first_cell (key_cmp_total d.desc d.nulls_first)) (on_total other_cells (keys_cmp_total ds))

-- ---- key by key

pub other_drop : (i : ℕ) (cs : List CellTree) → other_cells (drop i cs) ≡ drop (i + 1) cs
other_drop zero [] = refl
other_drop zero (c ∷ cs) = refl
other_drop (suc i) [] = let s : suc i + 1 ≡ suc (i + 1) = omega arith in rw s refl
other_drop (suc i) (c ∷ cs) = let s : suc i + 1 ≡ suc (i + 1) = omega arith in rw s (other_drop i cs)

-- the cell at a place
pub cell_at : (xs : List Cell) (i : ℕ) (c : Cell) → i < length xs → c ≡ get_or xs i c → cell_view c ≡ first_cell (drop i (map cell_view xs))
cell_at [] i c h is = absurd (omega arith)
cell_at (x ∷ xs) zero c h is = ap cell_view is
cell_at (x ∷ xs) (suc i) c h is = cell_at xs i c (omega arith) is

-- and beyond the last one
pub no_cell_at : (xs : List Cell) (i : ℕ) → length xs ≤ i → null ≡ first_cell (drop i (map cell_view xs))
no_cell_at [] zero h = refl
no_cell_at [] (suc i) h = refl
no_cell_at (x ∷ xs) zero h = absurd (omega arith)
no_cell_at (x ∷ xs) (suc i) h = no_cell_at xs i (omega arith)

-- the order from the i-th key on begins with that key
keys_from : (ds : List Direction) (i : ℕ) (d : Direction) (xs ys : List CellTree) → i < length ds
    → keys_cmp (drop i ds) (drop i xs) (drop i ys)
    ≡ ordering_then (key_cmp (get_or ds i d).desc (get_or ds i d).nulls_first (first_cell (drop i xs)) (first_cell (drop i ys))) (keys_cmp (drop (i + 1) ds) (drop (i + 1) xs) (drop (i + 1) ys))
keys_from ds i d xs ys h =
    let s : drop i ds ≡ get_or ds i d ∷ drop (i + 1) ds = rw add-one (drop-cons ds i d h) in
    let first : Ordering = key_cmp (get_or ds i d).desc (get_or ds i d).nulls_first (first_cell (drop i xs)) (first_cell (drop i ys)) in
    rw s (ap₂ (λ us vs. ordering_then first (keys_cmp (drop (i + 1) ds) us vs)) (other_drop i xs) (other_drop i ys))

-- an equal key leads on to the next
pub keys_step : (ds : List Direction) (i : ℕ) (d : Direction) (xs ys : List CellTree) → i < length ds
    → key_cmp (get_or ds i d).desc (get_or ds i d).nulls_first (first_cell (drop i xs)) (first_cell (drop i ys)) ≡ Equal
    → keys_cmp (drop i ds) (drop i xs) (drop i ys) ≡ keys_cmp (drop (i + 1) ds) (drop (i + 1) xs) (drop (i + 1) ys)
keys_step ds i d xs ys h e = keys_from ds i d xs ys h ∙ rw e refl

-- another one decides
pub keys_other : (ds : List Direction) (i : ℕ) (d : Direction) (xs ys : List CellTree) → i < length ds
    → is_eq (key_cmp (get_or ds i d).desc (get_or ds i d).nulls_first (first_cell (drop i xs)) (first_cell (drop i ys))) ≡ false
    → keys_cmp (drop i ds) (drop i xs) (drop i ys) ≡ key_cmp (get_or ds i d).desc (get_or ds i d).nulls_first (first_cell (drop i xs)) (first_cell (drop i ys))
keys_other ds i d xs ys h e =
    let go : (p q : Ordering) → is_eq p ≡ false → ordering_then p q ≡ p = elim [ Less ↦ λ q g. refl | Equal ↦ λ q g. cc | Greater ↦ λ q g. refl ] in
    keys_from ds i d xs ys h ∙ go _ _ e

-- ---- std's sort by a closure that compares by a total order of what n takes of each item

pub sorted_by_closure : {X K F : Type 0} {R : K → K → Ordering} (o : IsTotalOrder R) (n : X → K) {g : Mut F (Bor X × (Bor X × Unit {0})) Ordering} {f : F} (xs ys : List X)
    → ((lt : X → X → Bool) → IsStrictWeakOrder lt → ComparesAs g lt f → IsSortedBy lt ys)
    → ((lt : X → X → Bool) → IsStrictWeakOrder lt → ComparesAs g lt f → IsStableBy lt xs ys)
    → ((a : Bor X × (Bor X × Unit {0})) (r : Ordering) (f' : F) → Called g f a r f' → (r ≡ R (n a.0.now) (n a.1.0.now)) × (f' ≡ f))
    → ys ≡ sort (on n R) xs
sorted_by_closure {X = X} {R = R} o n {g = g} {f = f} xs ys sorted stable h =
    let lt : X → X → Bool = λ x y. is_lt (R (n x) (n y)) in
    let same : ComparesAs g lt f = always_returns_same g (λ a r. is_lt r ≡ is_lt (R (n a.0.now) (n a.1.0.now))) f (λ a r f' k. (ap is_lt (h a r f' k).0, (h a r f' k).1)) in
    std_sort (on_total n o) xs ys (sorted lt (ranks_by o n) same) (stable lt (ranks_by o n) same)
