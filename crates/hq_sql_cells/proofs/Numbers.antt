-- Different whole numbers among cells, counted as numbers.
use Rattle.std.proofs.Common.{◌≡◌, ◌∙◌, ◌<◌, ◌≤◌, ◌+◌, ℕ, zero, suc, List, [], ◌∷◌, ◌++◌, map, filter, length, take, drop, get_or, Bool, true, false, cond, not, Option, None, Some, is_eq, refl, sym, ap, ap₂, add-one, arith}
use Rattle.std.specs.Prelude.{ℤ, pos}
use Rattle.std.specs.Ordering.{int_cmp}
use Rattle.std.proofs.Math.ListN.{drop_of_length-le}
use Rattle.std.proofs.Math.Seq.{take-suc}
use Rattle.std.proofs.lemmas.Cmp.{int_cmp_total}
use Rattle.std.proofs.lemmas.List.{length-map, map-append, take_all}
use Rattle.std.proofs.lemmas.List.Elements.{filter-append}
use Rattle.hq_base.specs.Aggregates.{is_taken}
use Rattle.hq_base.specs.Cells.{CellTree, int, cell_cmp, same_cell}
use Rattle.hq_base.specs.Lists.{Ascends, Each, firsts, sort}
use Rattle.hq_base.proofs.Lists.{each_all, firsts_map_on}
use Rattle.hq_base.proofs.Sorts.{sort_map, sort_on}
use Rattle.hq_model.proofs.CellOrders.{cell_cmp_between}
use Rattle.hq_sql_cells.specs.Totals.{same_number, starts_run}
use Rattle.hq_sql_cells.specs.View.{cell_view}
use Rattle.hq_sql_cells.specs.declared.cell.Cell.{Cell}
use Rattle.hq_sql_cells.proofs.Groups.{firsts_in_one_pass, pass, pass_from}
use Rattle.hq_sql_tree.proofs.Next.{next_item}

-- ---- the numbers that cells are

-- with one cell more
taken_next : (cells : List Cell) (i : ℕ) (cell : Cell) → i < length cells → cell ≡ get_or cells i cell
    → filter is_taken (map cell_view (take (i + 1) cells)) ≡ filter is_taken (map cell_view (take i cells)) ++ filter is_taken (cell_view cell ∷ [])
taken_next cells i cell lt is =
    let longer : take (i + 1) cells ≡ take i cells ++ cell ∷ [] = ap (λ n. take n cells) (add-one i) ∙ take-suc cells i cell lt ∙ ap (λ d. take i cells ++ d ∷ []) (sym is) in
    ap (λ l. filter is_taken (map cell_view l)) longer ∙ ap (filter is_taken) (map-append cell_view (take i cells) (cell ∷ []))
    ∙ filter-append is_taken (map cell_view (take i cells)) (cell_view cell ∷ [])

-- which is a number
pub numbers_taken : (cells : List Cell) (i : ℕ) (cell : Cell) (n : ℤ) (ns more : List ℤ) → i < length cells → cell ≡ get_or cells i cell → cell_view cell ≡ int n
    → map int ns ≡ filter is_taken (map cell_view (take i cells)) → more ≡ ns ++ n ∷ [] → map int more ≡ filter is_taken (map cell_view (take (i + 1) cells))
numbers_taken cells i cell n ns more lt is number so_far grown =
    ap (map int) grown ∙ map-append int ns (n ∷ []) ∙ ap (λ l. l ++ int n ∷ []) so_far
    ∙ sym (taken_next cells i cell lt is ∙ ap (λ c. filter is_taken (map cell_view (take i cells)) ++ filter is_taken (c ∷ [])) number)

-- or which is passed over
pub numbers_passed : (cells : List Cell) (i : ℕ) (cell : Cell) (ns : List ℤ) → i < length cells → cell ≡ get_or cells i cell → is_taken (cell_view cell) ≡ false
    → map int ns ≡ filter is_taken (map cell_view (take i cells)) → map int ns ≡ filter is_taken (map cell_view (take (i + 1) cells))
numbers_passed cells i cell ns lt is out so_far =
    let none : filter is_taken (cell_view cell ∷ []) ≡ [] = rw out refl in
    so_far ∙ sym (taken_next cells i cell lt is ∙ ap (λ l. filter is_taken (map cell_view (take i cells)) ++ l) none ∙ append_none (filter is_taken (map cell_view (take i cells))))
  where
    append_none : (xs : List CellTree) → xs ++ [] ≡ xs
    append_none [] = refl
    append_none (x ∷ xs) = ap (λ l. x ∷ l) (append_none xs)

-- with all
pub numbers_end : (cells : List Cell) (i : ℕ) (ns : List ℤ) → length cells ≤ i → map int ns ≡ filter is_taken (map cell_view (take i cells))
    → map int ns ≡ filter is_taken (map cell_view cells)
numbers_end cells i ns le so_far = so_far ∙ ap (λ l. filter is_taken (map cell_view l)) (take_all i cells le)

-- ---- the different ones

next_number : (ns : List ℤ) (i : ℕ) (x : ℤ) → i < length ns → x ≡ get_or ns i (pos 0) → drop i ns ≡ x ∷ drop (i + 1) ns
next_number ns i x lt is = next_item ns i x lt (is ∙ get_or_any ns i (pos 0) x lt)
  where
    get_or_any : (ns : List ℤ) (i : ℕ) (d e : ℤ) → i < length ns → get_or ns i d ≡ get_or ns i e
    get_or_any [] i d e lt = absurd (omega arith)
    get_or_any (n ∷ ns) zero d e lt = refl
    get_or_any (n ∷ ns) (suc i) d e lt = get_or_any ns i d e (omega (arith, lt))

-- the next one is another one than the last
pub runs_more : (n i more : ℕ) (last : Option ℤ) (x : ℤ) (ns : List ℤ) (total : ℕ) → i < length ns → x ≡ get_or ns i (pos 0) → starts_run last x ≡ true
    → n + length (pass_from same_number last (drop i ns)) ≡ total → more ≡ n + 1 → more + length (pass_from same_number (Some x) (drop (i + 1) ns)) ≡ total
runs_more n i more last x ns total lt is other so_far grown =
    let rest = drop (i + 1) ns in
    let begins : (l : Option ℤ) → starts_run l x ≡ true → length (pass_from same_number l (x ∷ rest)) ≡ suc (length (pass_from same_number (Some x) rest)) =
    elim [
      | None ↦ λ e. refl
      | Some y
          ↦ λ e.
          (let go : (b : Bool) → not b ≡ true
          → length (cond b (pass same_number y rest) (x ∷ pass same_number x rest))
          ≡ suc (length (pass same_number x rest)) = elim [ true ↦ λ k. cc | false ↦ λ k. refl ] in go (same_number y x) e)
    ] in
    let here : n + length (pass_from same_number last (x ∷ rest)) ≡ total = ap (λ l. n + length (pass_from same_number last l)) (sym (next_number ns i x lt is)) ∙ so_far in
    let long = begins last other in
    omega (arith, here, long, grown)

-- or the same
pub runs_stay : (n i : ℕ) (last : Option ℤ) (x : ℤ) (ns : List ℤ) (total : ℕ) → i < length ns → x ≡ get_or ns i (pos 0) → starts_run last x ≡ false
    → n + length (pass_from same_number last (drop i ns)) ≡ total → n + length (pass_from same_number last (drop (i + 1) ns)) ≡ total
runs_stay n i last x ns total lt is other so_far =
    let rest = drop (i + 1) ns in
    let stays : (l : Option ℤ) → starts_run l x ≡ false → pass_from same_number l (x ∷ rest) ≡ pass_from same_number l rest =
    elim [
      | None ↦ λ e. cc
      | Some y
          ↦ λ e.
          (let go : (b : Bool) → not b ≡ false
          → cond b (pass same_number y rest) (x ∷ pass same_number x rest)
          ≡ pass same_number y rest = elim [ true ↦ λ k. refl | false ↦ λ k. cc ] in go (same_number y x) e)
    ] in
    ap (λ l. n + length l) (sym (stays last other)) ∙ ap (λ l. n + length (pass_from same_number last l)) (sym (next_number ns i x lt is)) ∙ so_far

-- their number, once the pass has come to the end
pub runs_end : (n i : ℕ) (last : Option ℤ) (ns : List ℤ) → length ns ≤ i
    → n + length (pass_from same_number last (drop i ns)) ≡ length (pass_from same_number None ns) → Ascends int_cmp ns → n ≡ length (firsts same_number ns)
runs_end n i last ns over h up =
    let none : (l : Option ℤ) → length (pass_from same_number l []) ≡ 0 = elim [ None ↦ refl | Some x ↦ refl ] in
    let g : n + length (pass_from same_number last (drop i ns)) ≡ n = rw (drop_of_length-le ns over) (rw (none last) (omega arith)) in
    sym g ∙ h ∙ ap length (sym (firsts_in_one_pass int_cmp_total ns up))

-- numbers are ordered as their cells are
as_numbers : (m n : ℤ) → cell_cmp (int m) (int n) ≡ int_cmp m n
as_numbers m n = cell_cmp_between (int m) (int n) (int_cmp m n) refl

-- there are as many as of their cells
pub runs_are_groups : (ns : List ℤ) → length (firsts same_number (sort int_cmp ns)) ≡ length (firsts same_cell (sort cell_cmp (map int ns)))
runs_are_groups ns =
    let Any : ℤ → Type 0 = λ n. Unit {0} in
    let each : (xs : List ℤ) → Each Any xs = each_all Any (λ n. tt) in
    let sorted : sort cell_cmp (map int ns) ≡ map int (sort int_cmp ns) =
    sort_map int cell_cmp ns ∙ ap (map int) (sort_on Any (λ m n. cell_cmp (int m) (int n)) int_cmp (λ m n p q. as_numbers m n) ns (each ns)) in
    sym
    (ap (λ l. length (firsts same_cell l)) sorted
    ∙ ap length (firsts_map_on Any int same_number same_cell (λ m n p q. ap is_eq (as_numbers m n)) (sort int_cmp ns) (each (sort int_cmp ns)))
    ∙ length-map (firsts same_number (sort int_cmp ns)) int)
