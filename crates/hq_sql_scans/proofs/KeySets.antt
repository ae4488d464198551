-- The keys of the rows that an EXISTS keeps.
use Rattle.std.proofs.Common.{◌≡◌, ◌<◌, ◌≤◌, ◌+◌, ◌*◌, ◌^◌, ℕ, zero, suc, List, [], ◌∷◌, ◌++◌, map, filter, flat_map, length, length-append, get_or, take, ◌==◌, Bool, true, false, not, ◌&&◌, ◌||◌, is_eq, cond, refl, sym, ap, ap₂, subst, ◌∙◌, add-one, arith}
use Rattle.std.specs.Borrow.{Bor}
use Rattle.std.specs.List.{list_any}
use Rattle.std.proofs.Math.Seq.{take-suc}
use Rattle.std.proofs.lemmas.Grind.{flat_map-append}
use Rattle.std.proofs.lemmas.Bool.{ne_eqb}
use Rattle.std.proofs.lemmas.List.{map-append, length-map, get_or-map, append-nil, take_all}
use Rattle.hq_base.specs.Cells.{CellTree, null, cell_of}
use Rattle.hq_base.specs.Lists.{Each}
use Rattle.hq_base.specs.declared.value.Val.{Val}
use Rattle.hq_base.specs.declared.value.Val.TheVariants as val
use Rattle.hq_base.proofs.Lists.{filter_map_of}
use Rattle.hq_model.specs.Database.{Row}
use Rattle.hq_model.specs.Logic.{truth_of}
use Rattle.hq_load_index.specs.Chunks.{chunked}
use Rattle.hq_load_index.specs.Grids.{rows_in}
use Rattle.hq_load_index.specs.Indexes.{IsOver, columns_of, counted, rows_with}
use Rattle.hq_load_index.proofs.Chunked.{chunked_flat, length-chunked, length-flat}
use Rattle.hq_load_index.specs.Keys.{cell_in, key_in, keys_cmp, has_null, has_key}
use Rattle.hq_sql_tree.specs.Meaning.{Scope as Names, World, value}
use Rattle.hq_sql_tree.specs.Tree.{PredTree}
use Rattle.hq_sql_tree.specs.View.{expr_view}
use Rattle.hq_sql_tree.specs.declared.expr.Expr.{Expr}
use Rattle.hq_sql_access.specs.Equations.{key_cell}
use Rattle.hq_sql_access.specs.KeySets.{IsKeySet, keeps_key, link_keys}
use Rattle.hq_sql_scans.specs.ChosenKeys.{Gathers, KeepsKeys, chosen, is_key, picked}
use Rattle.hq_sql_access.specs.Sources.{has_items}
use Rattle.hq_sql_access.specs.View.{scope_of}
use Rattle.hq_sql_access.specs.declared.pinned.KeySet.{KeySet}
use Rattle.hq_sql_access.specs.declared.scope.Scope.{Scope}
use Rattle.hq_sql_scans.proofs.Looked.{counted_all}

-- what is known of a condition is known of the same one
pub same_set : (w : World) (p other : PredTree) (s : KeySet) → p ≡ other → IsKeySet w p s → IsKeySet w other s
same_set w p other s e h = subst (λ t. IsKeySet w t s) e h

-- ---- the key of a scope

pub no_key : (scope : Scope) (w : World) → [] ≡ link_keys [] (scope_of scope w)
no_key scope w = refl

-- a cell more
pub more_key : (links : List (Bor Expr)) (i : ℕ) (e : Bor Expr) (scope : Scope) (w : World) (key : List CellTree) (k : CellTree) → i < length links → e ≡ get_or links i e
    → key ≡ link_keys (take i links) (scope_of scope w) → k ≡ key_cell (value (expr_view e.now) [] (scope_of scope w)) → key ++ k ∷ [] ≡ link_keys (take (i + 1) links) (scope_of scope w)
more_key links i e scope w key k lt is h j =
    let longer : take (i + 1) links ≡ take i links ++ e ∷ [] = ap (λ n. take n links) (add-one i) ∙ take-suc links i e lt ∙ ap (λ d. take i links ++ d ∷ []) (sym is) in
    ap₂ (λ xs x. xs ++ x ∷ []) h j
    ∙ sym (map-append (λ (l : Bor Expr). key_cell (value (expr_view l.now) [] (scope_of scope w))) (take i links) (e ∷ []))
    ∙ ap (λ ls. link_keys ls (scope_of scope w)) (sym longer)

-- ---- the cells of a row

pub picked_more : (columns : List ℕ) (i : ℕ) (c : ℕ) (row : Row) → i < length columns → c ≡ get_or columns i c
    → picked (take i columns) row ++ get_or row c val.Null ∷ [] ≡ picked (take (i + 1) columns) row
picked_more columns i c row lt is =
    let longer : take (i + 1) columns ≡ take i columns ++ c ∷ [] = ap (λ n. take n columns) (add-one i) ∙ take-suc columns i c lt ∙ ap (λ d. take i columns ++ d ∷ []) (sym is) in
    sym (map-append (λ c. get_or row c val.Null) (take i columns) (c ∷ [])) ∙ ap (λ cs. picked cs row) (sym longer)

pub each_long : (columns : List ℕ) (rows : List Row) → Each (λ row. length row ≡ length columns) (map (picked columns) rows)
each_long columns [] = tt
each_long columns (row ∷ rows) = (length-map columns (λ c. get_or row c val.Null), each_long columns rows)

-- ---- the rows that are chosen

chosen_more : (bs : List Bool) (rows : List Row) (i : ℕ) → i < length bs → i < length rows
    → chosen (take (suc i) bs) (take (suc i) rows) ≡ chosen (take i bs) (take i rows) ++ cond (get_or bs i false) (get_or rows i [] ∷ []) []
chosen_more [] rows i h k = absurd (omega arith)
chosen_more (b ∷ bs) [] i h k = absurd (omega arith)
chosen_more (true ∷ bs) (row ∷ rows) zero h k = refl
chosen_more (false ∷ bs) (row ∷ rows) zero h k = refl
chosen_more (true ∷ bs) (row ∷ rows) (suc i) h k = ap (λ l. row ∷ l) (chosen_more bs rows i (omega arith) (omega arith))
chosen_more (false ∷ bs) (row ∷ rows) (suc i) h k = chosen_more bs rows i (omega arith) (omega arith)

pub chosen_few : (bs : List Bool) (rows : List Row) → length (chosen bs rows) ≤ length rows
chosen_few [] rows = omega arith
chosen_few (b ∷ bs) [] = omega arith
chosen_few (true ∷ bs) (row ∷ rows) = let later = chosen_few bs rows in omega (arith, later)
chosen_few (false ∷ bs) (row ∷ rows) = let later = chosen_few bs rows in omega (arith, later)

pub gathers_none : (columns : List ℕ) (bs : List Bool) (rows : List Row) → Gathers columns bs rows 0 [] 0
gathers_none columns bs rows = record { cells = refl; number = refl; few = omega arith }

pub gathers_one : (columns : List ℕ) (bs : List Bool) (rows : List Row) (i : ℕ) (values more : List Val) (count next : ℕ) → i < length bs
    → length bs ≡ length rows → get_or bs i false ≡ true → Gathers columns bs rows i values count
    → more ≡ values ++ picked columns (get_or rows i []) → next ≡ count + 1 → Gathers columns bs rows (i + 1) more next
gathers_one columns bs rows i values more count next lt long is h grown e =
    let row = get_or rows i [] in
    let old = chosen (take i bs) (take i rows) in
    let flat : List (List Val) → List Val = flat_map (λ r. r) in
    let longer : chosen (take (i + 1) bs) (take (i + 1) rows) ≡ old ++ row ∷ [] =
    ap (λ n. chosen (take n bs) (take n rows)) (add-one i) ∙ chosen_more bs rows i lt (omega (arith, lt, long)) ∙ ap (λ b. old ++ cond b (row ∷ []) []) is in
    let few = h.few in
    let number = h.number in
    let one = length-append old (row ∷ []) in
    let same : next ≡ length (old ++ row ∷ []) = omega (arith, number, one, e) in
    record {
      cells = grown ∙ ap₂ (λ a b. a ++ b) h.cells (sym (append-nil (picked columns row))) ∙ sym (flat_map-append (λ (r : List Val). r) (map (picked columns) old) (picked columns row ∷ []))
          ∙ ap flat (sym (map-append (picked columns) old (row ∷ []))) ∙ ap (λ l. flat (map (picked columns) l)) (sym longer);
      number = same ∙ ap length (sym longer);
      few = omega (arith, few, e);
    }

pub gathers_other : (columns : List ℕ) (bs : List Bool) (rows : List Row) (i : ℕ) (values : List Val) (count : ℕ) → i < length bs
    → length bs ≡ length rows → get_or bs i false ≡ false → Gathers columns bs rows i values count
    → Gathers columns bs rows (i + 1) values count
gathers_other columns bs rows i values count lt long is h =
    let old = chosen (take i bs) (take i rows) in
    let same : chosen (take (i + 1) bs) (take (i + 1) rows) ≡ old =
    ap (λ n. chosen (take n bs) (take n rows)) (add-one i) ∙ chosen_more bs rows i lt (omega (arith, lt, long)) ∙ ap (λ b. old ++ cond b (get_or rows i [] ∷ []) []) is ∙ append-nil old in
    let few = h.few in
    record {
      cells = h.cells ∙ ap (λ l. flat_map (λ (r : List Val). r) (map (picked columns) l)) (sym same);
      number = h.number ∙ ap length (sym same);
      few = omega (arith, few);
    }

-- ---- keys among rows

-- whether there are items, by their number
pub items_told : (ns : List ℕ) → not (length ns == 0) ≡ has_items ns
items_told [] = refl
items_told (n ∷ ns) = ap not (ne_eqb (suc (length ns)) 0 (λ j. absurd (omega (arith, j))))

key_picked : (columns : List ℕ) (row : Row) → key_in (counted 0 (length columns)) (picked columns row) ≡ key_in columns row
key_picked columns row =
    let f = cell_in (picked columns row) in
    let xs = key_in columns row in
    let long : length xs ≡ length columns = length-map columns (cell_in row) in
    let same : (i : ℕ) → i < length xs → f (0 + i) ≡ get_or xs i null =
    λ i lt.
    let zero_more : 0 + i ≡ i = omega arith in
    let within : i < length columns = omega (arith, lt, long) in
    ap f zero_more ∙ ap cell_of (get_or-map (λ c. get_or row c val.Null) columns i 0 val.Null within) ∙ sym (get_or-map (cell_in row) columns i 0 null within) in
    ap (λ n. map f (counted 0 n)) (sym long) ∙ counted_all xs f 0 null same

-- as many items stand behind a map
pub items_map : {A B : Type 0} (f : A → B) (xs : List A) → has_items (map f xs) ≡ has_items xs
items_map f [] = refl
items_map f (x ∷ xs) = refl

pub items_filter : {A : Type 0} (p : A → Bool) (xs : List A) → has_items (filter p xs) ≡ list_any p xs
items_filter p [] = refl
items_filter p (x ∷ xs) =
    let later = items_filter p xs in
    let go : (b : Bool) → has_items (cond b (x ∷ filter p xs) (filter p xs)) ≡ (b || list_any p xs) = elim [ true ↦ refl | false ↦ later ] in
    go (p x)

any_picked : (columns : List ℕ) (key : List CellTree) (rows : List Row) → list_any (has_key (counted 0 (length columns)) key) (map (picked columns) rows) ≡ list_any (has_key columns key) rows
any_picked columns key [] = refl
any_picked columns key (row ∷ rows) =
    ap₂ (λ a b. a || b) (ap (λ k. has_cells key k) (key_picked columns row)) (any_picked columns key rows)
  where
    has_cells : List CellTree → List CellTree → Bool
    has_cells k own = not (has_null k) && is_eq (keys_cmp own k)

-- one of the rows has a key exactly where one of their cells in its columns is that key
pub keys_among : (columns : List ℕ) (key : List CellTree) (rows : List Row) → list_any (has_key columns key) rows ≡ has_items (rows_with (counted 0 (length columns)) key (map (picked columns) rows))
keys_among columns key rows =
    let cs = counted 0 (length columns) in
    let all = map (picked columns) rows in
    let f : ℕ → List Val = λ n. get_or all n [] in
    let ns = counted 0 (length all) in
    let every : map f ns ≡ all = counted_all all f 0 [] (λ i lt. let e : 0 + i ≡ i = omega arith in ap f e) in
    sym (any_picked columns key rows) ∙ sym (items_filter (has_key cs key) all) ∙ ap (λ l. has_items (filter (has_key cs key) l)) (sym every)
    ∙ ap has_items (filter_map_of (has_key cs key) f ns) ∙ items_map f (rows_with cs key all)

-- ---- the grid of keys

pub grid_whole : (columns : List ℕ) (bs : List Bool) (rows : List Row) (i : ℕ) (values : List Val) (count width : ℕ)
    → Gathers columns bs rows i values count → width ≡ length columns → length values ≡ count * width
grid_whole columns bs rows i values count width h e =
    ap length h.cells
    ∙ length-flat width (map (picked columns) (chosen (take i bs) (take i rows)))
    (subst (λ n. Each (λ row. length row ≡ n) (map (picked columns) (chosen (take i bs) (take i rows)))) (sym e)
    (each_long columns (chosen (take i bs) (take i rows))))
    ∙ ap (λ n. n * width) (length-map (chosen (take i bs) (take i rows)) (picked columns) ∙ sym h.number)

-- its rows are the keys
pub grid_rows : (columns : List ℕ) (bs : List Bool) (rows : List Row) (values : List Val) (count width : ℕ) (g : List (List Val))
    → Gathers columns bs rows (length bs) values count → width ≡ length columns → length bs ≡ length rows
    → g ≡ chunked width count values → g ≡ map (picked columns) (chosen bs rows)
grid_rows columns bs rows values count width g h e long is =
    let i = length bs in
    let xs = chosen (take i bs) (take i rows) in
    let all = map (picked columns) xs in
    let each : Each (λ row. length row ≡ width) all = subst (λ n. Each (λ row. length row ≡ n) all) (sym e) (each_long columns xs) in
    let same : xs ≡ chosen bs rows = ap₂ chosen (take_all i bs (omega arith)) (take_all i rows (omega (arith, long))) in
    is ∙ ap₂ (λ n vs. chunked width n vs) (h.number ∙ sym (length-map xs (picked columns))) h.cells ∙ chunked_flat width all each ∙ ap (map (picked columns)) same

pub grid_few : (columns : List ℕ) (bs : List Bool) (rows : List Row) (i : ℕ) (values : List Val) (count width : ℕ) (g : List (List Val))
    → Gathers columns bs rows i values count → i < 2 ^ 31 → g ≡ chunked width count values → length g < 2 ^ 32
grid_few columns bs rows i values count width g h lt is =
    let long : length g ≡ count = ap length is ∙ length-chunked width count values in
    let few = h.few in
    omega (arith, long, few, lt)

-- the keys with their index are those of the condition
pub set_is : (w : World) (p : PredTree) (rows : List Row) (bs : List Bool) (columns : List ℕ) (links : List (Bor Expr)) (s : KeySet)
    → KeepsKeys w p rows bs columns links → s.links.items ≡ links → IsOver (rows_in s.grid) s.index
    → columns_of s.index ≡ counted 0 (length columns) → rows_in s.grid ≡ map (picked columns) (chosen bs rows) → IsKeySet w p s
set_is w p rows bs columns links s keeps same over own is =
    record {
      over = over;
      has = λ n.
          keeps.keeps n ∙ ap truth_of (keys_among columns (link_keys links n) (chosen bs rows)
          ∙ ap₂ (λ cs g. has_items (rows_with cs (link_keys links n) g)) (sym own) (sym is)
          ∙ ap (λ ls. has_items (rows_with (columns_of s.index) (link_keys ls n) (rows_in s.grid))) (sym same));
    }

-- whether this is one of the keys, as a look-up tells it
pub told_has : (s : KeySet) (key : List CellTree) (found : List ℕ) → found ≡ rows_with (columns_of s.index) key (rows_in s.grid) → not (length found == 0) ≡ is_key s key
told_has s key found is = items_told found ∙ ap has_items is
