-- Places at whose rows a column is one of constants.
use Rattle.std.proofs.Common.{◌≡◌, ◌∙◌, ◌<◌, ◌+◌, ◌^◌, ◌≤◌, ⊎_elim, ℕ, List, [], ◌∷◌, ◌++◌, map, filter, flat_map, length, get_or, take, Bool, true, false, ◌||◌, cond, Option, None, Some, bytes_eq, refl, sym, ap, ap₂, subst, add-one, arith}
use Rattle.std.specs.List.{list_any, position}
use Rattle.std.specs.Borrow.{Bor}
use Rattle.std.specs.Global.{Vec}
use Rattle.std.specs.Prelude.{IfSome}
use Rattle.std.proofs.Math.Seq.{take-suc}
use Rattle.std.specs.Prelude.{◌==◌}
use Rattle.std.proofs.lemmas.Bool.{eq-eqb, false≢true, cases_lt}
use Rattle.std.proofs.lemmas.List.{length-map, take_all, get_or_past}
use Rattle.std.proofs.lemmas.List.Concat.{flat_map-cons}
use Rattle.std.proofs.lemmas.List.Elements.{filter-append}
use Rattle.hq_base.specs.Cells.{CellTree, cell_of}
use Rattle.hq_base.specs.Lists.{Each}
use Rattle.hq_base.specs.declared.value.Val.{Val}
use Rattle.hq_base.specs.declared.value.Val.TheVariants as val
use Rattle.hq_base.proofs.Orders.{same_value}
use Rattle.hq_base.proofs.Lists.{any_map_of, each_weaken, filter_map_of}
use Rattle.hq_load_index.proofs.Chunked.{chunked_flat, length-chunked}
use Rattle.hq_load_index.proofs.Sorted.{filter_weaker}
use Rattle.hq_load_index.specs.Chunks.{chunked}
use Rattle.hq_load_index.specs.Grids.{rows_in}
use Rattle.hq_load_index.specs.Indexes.{IsOver, columns_of, counted, rows_with}
use Rattle.hq_load_index.specs.Keys.{cell_in, has_key}
use Rattle.hq_model.specs.Database.{Row}
use Rattle.hq_model.specs.Logic.{equal, is_true}
use Rattle.hq_model.specs.declared.truth.Truth.TheVariants.{Yes}
use Rattle.hq_model.specs.declared.table.Column.{Column}
use Rattle.hq_sql_access.specs.Equations.{is_joined, key_cell}
use Rattle.hq_sql_access.specs.Sources.{has_items}
use Rattle.hq_sql_access.specs.View.{row_in, scope_of, source_view}
use Rattle.hq_sql_access.specs.declared.scope.Scope.{Scope}
use Rattle.hq_sql_access.specs.declared.stages.Parts.{Parts}
use Rattle.hq_sql_access.specs.declared.scope.Source.{Source}
use Rattle.hq_sql_access.proofs.Asked.{named_first}
use Rattle.hq_sql_access.proofs.NamedCells.{stored_row}
use Rattle.hq_sql_tree.specs.Meaning.{NamedRow, Scope as Names, World, cell_named, joined, kept, named_row, truth_at, with_alias}
use Rattle.hq_sql_tree.specs.Tree as tree
use Rattle.hq_sql_tree.specs.Tree.{JoinTrees, PredTree}
use Rattle.hq_sql_tree.specs.View.{filter_view}
use Rattle.hq_sql_access.specs.Lent.{rows_lent}
use Rattle.hq_sql_access.specs.declared.scope.Source.TheVariants as source
use Rattle.hq_sql_access.specs.declared.stored.Stored.{Stored}
use Rattle.hq_sql_constants.specs.Listed.{AsksOneOf, is_one_of}
use Rattle.hq_sql_constants.proofs.RangeEntries.{cells_stand}
use Rattle.hq_model.specs.declared.op.Op.TheVariants.{Eq}
use Rattle.hq_sql_constants.specs.Ranged.{AsksRange, HaveSame, meets_all}
use Rattle.hq_sql_constants.specs.Sifted.{AreConstants, AreTaken, FindsOver, HasSlots, IsLeft, KeepsSame, MarksAll, as_looked, has_constant, places_left, slot_of, with_places}
use Rattle.hq_sql_constants.specs.declared.marked.Constants.{Constants}
use Rattle.hq_sql_constants.specs.declared.ranged.Bound.{Bound}
use Rattle.hq_sql_constants.specs.declared.sifted.Left.{Left}
use Rattle.hq_sql_scans.specs.Links.{has_cell}
use Rattle.hq_sql_scans.specs.Ordered.{Finds, places_looked}
use Rattle.hq_sql_scans.specs.Positions.{kept_of, positions_of, rows_at}
use Rattle.hq_sql_scans.specs.declared.ordered.Looked.{Looked}
use Rattle.hq_sql_scans.specs.declared.positions.Positions.{Positions}
use Rattle.hq_sql_scans.specs.declared.ordered.Looked.TheVariants.{Arranged, Sorted, Unsorted}
use Rattle.hq_sql_scans.proofs.KeySets.{items_filter, items_map}
use Rattle.hq_sql_scans.proofs.Linked.{and_true, equal_cell, equal_swapped, key_like}
use Rattle.hq_sql_scans.proofs.Looked.{Keeps, counted_all, is_yes, joined_keeps, left_out, none_kept, same_bytes}

-- ---- constants as the rows of a grid

abbrev one_each : List Val → List (List Val)
one_each vs = map (λ v. v ∷ []) vs

each_one : (vs : List Val) → Each (λ row. length row ≡ 1) (one_each vs)
each_one [] = tt
each_one (v ∷ vs) = (refl, each_one vs)

flat_one : (vs : List Val) → flat_map (λ (row : List Val). row) (one_each vs) ≡ vs
flat_one [] = refl
flat_one (v ∷ vs) = flat_map-cons (λ (row : List Val). row) (v ∷ []) (one_each vs) ∙ ap (λ l. v ∷ l) (flat_one vs)

chunked_one : (vs : List Val) → chunked 1 (length vs) vs ≡ one_each vs
chunked_one vs = ap₂ (chunked 1) (sym (length-map vs (λ v. v ∷ []))) (sym (flat_one vs)) ∙ chunked_flat 1 (one_each vs) (each_one vs)

pub ones_few : (n count : ℕ) (vs : List Val) (g : List (List Val)) → count ≡ n → n < 2 ^ 31 → g ≡ chunked 1 count vs → length g < 2 ^ 32
ones_few n count vs g e lt is = let long = ap length is ∙ length-chunked 1 count vs in omega (arith, long, lt, e)

pub constants_are : (vs : List Val) (count : ℕ) (s : Constants) → count ≡ length vs → rows_in s.grid ≡ chunked 1 count vs
    → IsOver (rows_in s.grid) s.index → columns_of s.index ≡ 0 ∷ [] → AreConstants vs s
constants_are vs count s e is over own = record { over = over; columns = own; rows = is ∙ ap (λ n. chunked 1 n vs) e ∙ chunked_one vs }

-- ---- a look-up among them

-- rows have a key where the numbers of those that have it are some
pub items_with : (cs : List ℕ) (key : List CellTree) (rows : List (List Val)) → has_items (rows_with cs key rows) ≡ list_any (has_key cs key) rows
items_with cs key rows =
    let f : ℕ → List Val = λ n. get_or rows n [] in
    let ns = counted 0 (length rows) in
    let every : map f ns ≡ rows = counted_all rows f 0 [] (λ i lt. let e : 0 + i ≡ i = omega arith in ap f e) in
    sym (items_map f (rows_with cs key rows)) ∙ ap has_items (sym (filter_map_of (has_key cs key) f ns)) ∙ ap (λ l. has_items (filter (has_key cs key) l)) every ∙ items_filter (has_key cs key) rows

key_of_value : (x : Val) → key_cell (cell_of x) ≡ cell_of x
key_of_value val.Null = refl
key_of_value (val.Int n) = refl
key_of_value (val.Text t) = refl
key_of_value (val.Bool b) = refl

-- a value equals a constant exactly where the constant's row has it as its key
one_key : (x v : Val) → is_true (equal (cell_of x) (cell_of v)) ≡ has_key (0 ∷ []) (cell_of x ∷ []) (v ∷ [])
one_key x v =
    equal_swapped (cell_of x) (cell_of v) ∙ equal_cell v (cell_of x) ∙ ap (has_cell (cell_of v)) (key_of_value x)
    ∙ sym (and_true (has_cell (cell_of v) (cell_of x))) ∙ sym (key_like (0 ∷ []) (cell_of x ∷ []) (v ∷ []) refl)

pub any_same : {A : Type 0} (p q : A → Bool) (xs : List A) → ((x : A) → p x ≡ q x) → list_any p xs ≡ list_any q xs
any_same p q [] h = refl
any_same p q (x ∷ xs) h = ap₂ (λ a b. a || b) (h x) (any_same p q xs h)

has_one : (vs : List Val) (s : Constants) (x : Val) → AreConstants vs s → is_one_of vs (cell_of x) ≡ has_constant s (cell_of x)
has_one vs s x are =
    let key = cell_of x ∷ [] in
    any_same (λ v. is_true (equal (cell_of x) (cell_of v))) (λ v. has_key (0 ∷ []) key (v ∷ [])) vs (one_key x)
    ∙ sym (any_map_of (has_key (0 ∷ []) key) (λ v. v ∷ []) vs)
    ∙ sym (items_with (0 ∷ []) key (one_each vs))
    ∙ ap₂ (λ cs g. has_items (rows_with cs key g)) (sym are.columns) (sym are.rows)

-- a value whose slot no constant has is none of them
none_slot : (vs : List Val) (x : Val) → list_any (λ u. u == slot_of x) (map slot_of vs) ≡ false → is_one_of vs (cell_of x) ≡ false
none_slot [] x e = refl
none_slot (v ∷ vs) x e =
    let go : (b : Bool) → is_true (equal (cell_of x) (cell_of v)) ≡ b → (b || is_one_of vs (cell_of x)) ≡ false =
    elim [
      | true ↦ λ h.
          let same : x ≡ v = same_value x v (cells_stand Eq (cell_of x) (cell_of v) h) in
          absurd (false≢true (sym e ∙ ap (λ c. c || list_any (λ u. u == slot_of x) (map slot_of vs)) (ap (λ y. slot_of y == slot_of x) (sym same) ∙ eq-eqb (slot_of x) (slot_of x) refl)))
      | false ↦ λ h. none_slot vs x (or_right _ _ e)
    ] in
    go (is_true (equal (cell_of x) (cell_of v))) refl
  where
    or_right : (a b : Bool) → (a || b) ≡ false → b ≡ false
    or_right true b e = cc
    or_right false b e = e

pub has_slots : (vs : List Val) (s : Constants) → AreConstants vs s → AreTaken vs s.taken.items → HasSlots s
has_slots vs s are marks = record { none = λ x out. sym (has_one vs s x are) ∙ none_slot vs x (marks.none x out) }

-- ---- the places, one after the other

pub places_more : (q : ℕ → Bool) (ps : List ℕ) (i p : ℕ) (places more : List ℕ) → i < length ps → p ≡ get_or ps i 0
    → places ≡ filter q (take i ps) → more ≡ places ++ filter q (p ∷ []) → more ≡ filter q (take (i + 1) ps)
places_more q ps i p places more lt is so_far grown =
    let longer : take (i + 1) ps ≡ take i ps ++ p ∷ [] = ap (λ n. take n ps) (add-one i) ∙ take-suc ps i 0 lt ∙ ap (λ d. take i ps ++ d ∷ []) (sym is) in
    grown ∙ ap (λ l. l ++ filter q (p ∷ [])) so_far ∙ sym (filter-append q (take i ps) (p ∷ [])) ∙ ap (filter q) (sym longer)

pub places_end : (q : ℕ → Bool) (ps : List ℕ) (i : ℕ) (places : List ℕ) → length ps ≤ i → places ≡ filter q (take i ps) → places ≡ filter q ps
places_end q ps i places le so_far = so_far ∙ ap (filter q) (take_all i ps le)

-- ---- what WHERE keeps

-- of the rows whose column is as a condition asks it to be both have the same, in one order: then WHERE keeps the same of both
alike_is : (w : World) (columns : List Column) (rows : List Row) (js : JoinTrees) (alias name : List ℕ) (p : PredTree) (good : CellTree → Bool) (at : ℕ)
    (places ps : List ℕ)
    → ((m : Names) → truth_at p w m ≡ Yes → good (cell_named (m alias) name) ≡ true)
    → position (λ c. bytes_eq c.name name) columns ≡ Some at → is_joined js alias ≡ false
    → filter (λ k. good (cell_in (get_or rows k []) at)) places ≡ filter (λ k. good (cell_in (get_or rows k []) at)) ps
    → KeepsSame w js alias (tree.filter p)
    (map (λ k. get_or (map (named_row columns) rows) k []) places)
    (map (λ k. get_or (map (named_row columns) rows) k []) ps)
alike_is w columns rows js alias name p good at places ps asked first alone same =
    let f : ℕ → NamedRow = λ k. get_or (map (named_row columns) rows) k [] in
    let q : ℕ → Bool = λ k. good (cell_in (get_or rows k []) at) in
    let never : (n : Names) (k : ℕ) → q k ≡ false → (m : Names) → Keeps js (with_alias n alias (f k)) m → kept (tree.filter p) w m ≡ true → ⊥ =
    λ n k out m around e.
    let here : m alias ≡ named_row columns (get_or rows k []) = around alias alone ∙ (ap (λ b. cond b (f k) (n alias)) (same_bytes alias) ∙ sym (stored_row columns rows k)) in
    let cell : cell_named (m alias) name ≡ cell_in (get_or rows k []) at = ap (λ r. cell_named r name) here ∙ named_first columns (get_or rows k []) name at first in
    let one = asked m (is_yes (truth_at p w m) e) in
    false≢true (sym out ∙ ap good (sym cell) ∙ one) in
    let none : (n : Names) (k : ℕ) → q k ≡ false → filter (kept (tree.filter p) w) (joined js w (with_alias n alias (f k))) ≡ [] =
    λ n k out. none_kept (kept (tree.filter p) w) (joined js w (with_alias n alias (f k)))
    (each_weaken (Keeps js (with_alias n alias (f k))) (λ m. kept (tree.filter p) w m ≡ true → ⊥) (λ m around. never n k out m around)
    (joined js w (with_alias n alias (f k))) (joined_keeps js w (with_alias n alias (f k))))
    in
    record {
      same = λ n.
          sym (left_out js w n alias (kept (tree.filter p) w) f q (none n) places)
          ∙ ap (λ l. kept_of js w n alias (kept (tree.filter p) w) (map f l)) same
          ∙ left_out js w n alias (kept (tree.filter p) w) f q (none n) ps;
    }

-- the same of rows that are lent
alike_at : (w : World) (columns : List Column) (rows lent : List Row) (js : JoinTrees) (alias name : List ℕ) (p : PredTree) (good : CellTree → Bool)
    (at : ℕ) (places ps : List ℕ)
    → lent ≡ rows → ((m : Names) → truth_at p w m ≡ Yes → good (cell_named (m alias) name) ≡ true)
    → position (λ c. bytes_eq c.name name) columns ≡ Some at → is_joined js alias ≡ false
    → filter (λ k. good (cell_in (get_or rows k []) at)) places ≡ filter (λ k. good (cell_in (get_or rows k []) at)) ps
    → KeepsSame w js alias (tree.filter p) (map (λ k. get_or (map (named_row columns) lent) k []) places) (map (λ k. get_or (map (named_row columns) lent) k []) ps)
alike_at w columns rows lent js alias name p good at places ps same asked first alone alike =
    subst (λ rs. KeepsSame w js alias (tree.filter p) (map (λ k. get_or (map (named_row columns) rs) k []) places) (map (λ k. get_or (map (named_row columns) rs) k []) ps)) (sym same)
    (alike_is w columns rows js alias name p good at places ps asked first alone alike)

not_out : (b : Bool) → (b ≡ false → ⊥) → b ≡ true
not_out true h = refl
not_out false h = absurd (h refl)

-- places at whose rows the column is not as a condition asks it to be may be left out
left_at : (w : World) (columns : List Column) (rows lent : List Row) (js : JoinTrees) (alias name : List ℕ) (p : PredTree) (good : CellTree → Bool)
    (at : ℕ) (q : ℕ → Bool) (ps places : List ℕ)
    → lent ≡ rows → ((m : Names) → truth_at p w m ≡ Yes → good (cell_named (m alias) name) ≡ true)
    → position (λ c. bytes_eq c.name name) columns ≡ Some at → is_joined js alias ≡ false
    → ((k : ℕ) → q k ≡ false → good (cell_in (get_or rows k []) at) ≡ false)
    → places ≡ filter q ps
    → KeepsSame w js alias (tree.filter p) (map (λ k. get_or (map (named_row columns) lent) k []) places) (map (λ k. get_or (map (named_row columns) lent) k []) ps)
left_at w columns rows lent js alias name p good at q ps places same asked first alone bad chosen =
    let g : ℕ → Bool = λ k. good (cell_in (get_or rows k []) at) in
    alike_at w columns rows lent js alias name p good at places ps same asked first alone
    (ap (filter g) chosen ∙ filter_weaker g q (λ k e. not_out (q k) (λ out. false≢true (sym (bad k out) ∙ e))) ps)

-- ---- marks

-- a value in a row equals another exactly where the row has that as its key
row_key : (row : List Val) (at : ℕ) (v : Val) → is_true (equal (cell_in row at) (cell_of v)) ≡ has_key (at ∷ []) (cell_of v ∷ []) row
row_key row at v =
    equal_cell (get_or row at val.Null) (cell_of v) ∙ ap (has_cell (cell_in row at)) (key_of_value v)
    ∙ sym (and_true (has_cell (cell_in row at) (cell_of v))) ∙ sym (key_like (at ∷ []) (cell_of v ∷ []) row refl)

null_one : (vs : List Val) → is_one_of vs (cell_of val.Null) ≡ false
null_one [] = refl
null_one (val.Null ∷ vs) = null_one vs
null_one (val.Int n ∷ vs) = null_one vs
null_one (val.Text t ∷ vs) = null_one vs
null_one (val.Bool b ∷ vs) = null_one vs

-- what is not marked is none of the values
unmarked : (rows : List Row) (at : ℕ) (vs : List Val) (marks : List Bool) (k : ℕ) → MarksAll rows (at ∷ []) vs marks → get_or marks k false ≡ false
    → is_one_of vs (cell_in (get_or rows k []) at) ≡ false
unmarked rows at vs marks k all out =
    ⊎_elim
    (λ near. any_same (λ v. is_true (equal (cell_in (get_or rows k []) at) (cell_of v))) (λ v. has_key (at ∷ []) (cell_of v ∷ []) (get_or rows k [])) vs
    (row_key (get_or rows k []) at) ∙ all.none k near out)
    (λ far. ap (λ row. is_one_of vs (cell_in row at)) (get_or_past rows k [] far) ∙ null_one vs)
    (cases_lt k (length rows))

-- ---- places of a table

module _ (w : World) (js : JoinTrees) (alias name : List ℕ) (p : PredTree) (stored : Bor Stored) (positions : Positions) (rows : List Row) (at : ℕ)
    (places : List ℕ) where
  -- the first column of this name
  abbrev IsFirst : Type 0
  IsFirst = position (λ c. bytes_eq c.name name) stored.now.table.now.columns ≡ Some at

  -- WHERE keeps the same at these places
  abbrev KeepsAt : Type 0
  KeepsAt = KeepsSame w js alias (tree.filter p) (map (row_in (source.Stored stored)) places) (rows_at (source.Stored stored) positions)

  -- those at whose rows the column is not as a condition asks it to be may be left out
  left_of_table : (good : CellTree → Bool) (q : ℕ → Bool) → rows_lent stored.now.rows ≡ rows
      → ((m : Names) → truth_at p w m ≡ Yes → good (cell_named (m alias) name) ≡ true) → IsFirst → is_joined js alias ≡ false
      → ((k : ℕ) → q k ≡ false → good (cell_in (get_or rows k []) at) ≡ false) → places ≡ filter q (positions_of positions) → KeepsAt
  left_of_table good q =
      left_at w stored.now.table.now.columns rows (rows_lent stored.now.rows) js alias name p good at q (positions_of positions) places

  -- where it is none of the constants that the condition asks it to be one of
  pub sifted_at : (vs : List Val) (s : Constants) → rows_lent stored.now.rows ≡ rows → AsksOneOf w p alias name vs → IsFirst → AreConstants vs s
      → is_joined js alias ≡ false → places ≡ filter (λ k. has_constant s (cell_in (get_or rows k []) at)) (positions_of positions) → KeepsAt
  sifted_at vs s same asked first are alone =
      left_of_table (is_one_of vs) (λ k. has_constant s (cell_in (get_or rows k []) at)) same asked.asks first alone
      (λ k out. has_one vs s (get_or (get_or rows k []) at val.Null) are ∙ out)

  -- where the row is not marked
  pub marked_at : (vs : List Val) (own : List ℕ) (marks : List Bool) → rows_lent stored.now.rows ≡ rows → AsksOneOf w p alias name vs → IsFirst
      → is_joined js alias ≡ false → own ≡ at ∷ [] → MarksAll rows own vs marks
      → places ≡ filter (λ k. get_or marks k false) (positions_of positions) → KeepsAt
  marked_at vs own marks same asked first alone over all =
      left_of_table (is_one_of vs) (λ k. get_or marks k false) same asked.asks first alone
      (λ k out. unmarked rows at vs marks k (subst (λ cs. MarksAll rows cs vs marks) over all) out)

  -- places with the same of the rows whose column meets the comparisons that the condition asks for may stand in their place
  pub ranged_at : (bs : List Bound) → rows_lent stored.now.rows ≡ rows → AsksRange p alias name bs → IsFirst → is_joined js alias ≡ false
      → HaveSame at rows bs places (positions_of positions) → KeepsAt
  ranged_at bs same asked first alone alike =
      alike_at w stored.now.table.now.columns rows (rows_lent stored.now.rows) js alias name p (meets_all bs) at places (positions_of positions)
      same (asked.all.asks w) first alone alike

-- ---- what a scan finds

-- what is kept of rows as of others, and of these as of others again
pub keeps_both : (w : World) (js : JoinTrees) (alias : List ℕ) (f : tree.FilterTree) (rows others more : List NamedRow)
    → KeepsSame w js alias f rows others → KeepsSame w js alias f others more → KeepsSame w js alias f rows more
keeps_both w js alias f rows others more first second = record { same = λ n. first.same n ∙ second.same n }

-- what a scan finds, it finds over these tables
finds_over : (w : World) (js : JoinTrees) (scope : Scope) (alias : List ℕ) (parts : Parts) (source : Source) (looked : Looked)
    → Finds js scope alias parts source looked → FindsOver w js scope alias parts source looked
finds_over w js scope alias parts source (Arranged at) finds = finds w
finds_over w js scope alias parts source (Sorted at) finds = finds w
finds_over w js scope alias parts source (Unsorted at) finds = finds w

-- other places stand as those did
stand_alike : (parts : Parts) (looked : Looked) (positions : Positions) (names : List Names) → as_looked parts (with_places looked positions) names ≡ as_looked parts looked names
stand_alike parts (Arranged at) positions names = refl
stand_alike parts (Sorted at) positions names = refl
stand_alike parts (Unsorted at) positions names = refl

-- what a scan finds at its places it finds over these tables at those that are left
pub left_finds : (w : World) (js : JoinTrees) (scope : Scope) (alias : List ℕ) (parts : Parts) (source : Source) (looked : Looked) (left : Left) (again : Looked)
    → Finds js scope alias parts source looked
    → KeepsSame w js alias (filter_view parts.filter.now) (map (row_in source) (places_left left)) (rows_at source (places_looked looked))
    → IsLeft looked left again → FindsOver w js scope alias parts source again
left_finds w js scope alias parts source looked left again finds keeps is =
    let keep : List NamedRow → List Names = kept_of js w (scope_of scope w) alias (kept (filter_view parts.filter.now) w) in
    let all = keep (source_view source) in
    ap (λ l. keep (map (row_in source) l)) is.1 ∙ keeps.same (scope_of scope w) ∙ finds_over w js scope alias parts source looked finds
    ∙ sym (stand_alike parts looked (places_looked again) all) ∙ ap (λ l. as_looked parts l all) (sym is.0)

-- other places, which stand as those did, are left of them
pub left_placed : (looked again : Looked) (positions : Positions) (left : Left) → again ≡ with_places looked positions
    → positions_of positions ≡ places_left left → IsLeft looked left again
left_placed (Arranged at) again positions left is e = subst (IsLeft (Arranged at) left) (sym is) (refl, e)
left_placed (Sorted at) again positions left is e = subst (IsLeft (Sorted at) left) (sym is) (refl, e)
left_placed (Unsorted at) again positions left is e = subst (IsLeft (Unsorted at) left) (sym is) (refl, e)
