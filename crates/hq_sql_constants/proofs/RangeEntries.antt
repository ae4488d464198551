-- The entries of an index over one column whose rows meet comparisons stand between two places.
use Rattle.std.proofs.Common.{◌≡◌, ◌∙◌, ◌<◌, ◌≤◌, ◌+◌, ◌-◌, ⊎_elim, ℕ, zero, suc, List, [], ◌∷◌, ◌++◌, filter, length, get_or, take, drop, Bool, true, false, not, ◌&&◌, ◌||◌, cond, Option, None, Some, Ordering, Less, Equal, Greater, is_gt, is_lt, is_ge, is_le, refl, sym, ap, ap₂, subst, add-one, arith}
use Rattle.std.specs.Prelude.{◌==◌}
use Rattle.std.specs.List.{list_any}
use Rattle.std.specs.Ordering.{nat_cmp}
use Rattle.std.proofs.Math.Seq.{take-suc}
use Rattle.std.proofs.lemmas.Bool.{and_parts, cases_lt, eqb-false, eqb-true, false≢true}
use Rattle.std.proofs.lemmas.Cmp.{nat_cmp_total}
use Rattle.std.proofs.lemmas.List.{get_or_past, take_all}
use Rattle.std.proofs.lemmas.Map.Keys.{le_from_not_gt}
use Rattle.hq_base.specs.Cells.{CellTree, null, int, text, bool, json, cell_cmp}
use Rattle.hq_base.specs.Lists.{Ascends, Before, Each, put, sort}
use Rattle.hq_base.proofs.Sorts.{commute, sort_ascending, sort_filter, turned}
use Rattle.hq_base.specs.declared.value.Val.{Val}
use Rattle.hq_load_index.proofs.Sorted.{filter_weaker}
use Rattle.hq_load_index.specs.Indexes.{by_key, counted, indexed_rows}
use Rattle.hq_load_index.specs.Keys.{cell_in, cell_view, has_null, key_at, keys_cmp}
use Rattle.hq_load_index.specs.Places.{IsPlace, before_or}
use Rattle.hq_model.proofs.CellOrders.{cell_cmp_between, then_equal}
use Rattle.hq_model.specs.Logic.{compared, is_true, op_test, order_between, tested, truth_of}
use Rattle.hq_model.specs.declared.op.Op.{Op}
use Rattle.hq_model.specs.declared.op.Op.TheVariants.{Lt, Le, Gt, Ge}
use Rattle.hq_sql_constants.specs.Ranged.{HaveSame, IsIn, Narrows, StandsBetween, meets, meets_all, row_meets}
use Rattle.hq_sql_constants.specs.declared.ranged.Bound.{Bound}
use Rattle.hq_sql_constants.specs.declared.spans.Between.{Between}

-- ---- a comparison in the order of keys

is_so : (b : Bool) → is_true (truth_of b) ≡ true → b ≡ true
is_so true e = refl
is_so false e = e

-- what meets a comparison stands to its constant as that asks
pub cells_stand : (op : Op) (x y : CellTree) → is_true (compared op x y) ≡ true → op_test op (cell_cmp x y) ≡ true
cells_stand op x y e =
    let go : (o : Option Ordering) → order_between x y ≡ o → is_true (tested (op_test op) o) ≡ true → op_test op (cell_cmp x y) ≡ true =
    elim [ None ↦ λ is h. cc | Some o ↦ λ is h. ap (op_test op) (cell_cmp_between x y o is) ∙ is_so (op_test op o) h ] in
    go (order_between x y) refl e

-- the same of keys of one cell
keys_stand : (op : Op) (x y : CellTree) → is_true (compared op x y) ≡ true → op_test op (keys_cmp (x ∷ []) (y ∷ [])) ≡ true
keys_stand op x y e = ap (op_test op) (then_equal (cell_cmp x y)) ∙ cells_stand op x y e

-- what is more than a constant does not stand before it, or at it, and so on
gt_behind : (o : Ordering) → is_gt o ≡ true → before_or o true ≡ true → ⊥
gt_behind Less e h = cc
gt_behind Equal e h = cc
gt_behind Greater e h = cc

ge_behind : (o : Ordering) → is_ge o ≡ true → before_or o false ≡ true → ⊥
ge_behind Less e h = cc
ge_behind Equal e h = cc
ge_behind Greater e h = cc

lt_before : (o : Ordering) → is_lt o ≡ true → before_or o false ≡ false → ⊥
lt_before Less e h = cc
lt_before Equal e h = cc
lt_before Greater e h = cc

le_before : (o : Ordering) → is_le o ≡ true → before_or o true ≡ false → ⊥
le_before Less e h = cc
le_before Equal e h = cc
le_before Greater e h = cc

module _ (column : ℕ) (rows : List (List Val)) (entries : List ℕ) (b : Bound) (old new : Between) (place : ℕ) where
  -- a place of the constant among the entries
  abbrev At : (after : Bool) → Type 0
  At after = IsPlace (column ∷ []) rows entries (cell_view b.value ∷ []) after place

  -- the new places stand between the old ones, and have those from a place on
  abbrev FromOn : Type 0
  FromOn = (new.from ≤ new.to) × (new.to ≤ old.to) × ((i : ℕ) → IsIn old i → place ≤ i → IsIn new i)

  -- or those before it
  abbrev UpTo : Type 0
  UpTo = (new.from ≤ new.to) × (new.to ≤ old.to) × ((i : ℕ) → IsIn old i → i < place → IsIn new i)

  -- an entry that meets the comparison stands to the constant as that asks
  stands_so : (op : Op) → b.op ≡ op → (i : ℕ) → meets b (cell_in (get_or rows (get_or entries i 0) []) column) ≡ true
      → op_test op (keys_cmp (key_at (column ∷ []) rows (get_or entries i 0)) (cell_view b.value ∷ [])) ≡ true
  stands_so op is i e =
      let cell = cell_in (get_or rows (get_or entries i 0) []) column in
      keys_stand op cell (cell_view b.value) (subst (λ o. is_true (compared o cell (cell_view b.value)) ≡ true) is e)

  -- where what meets it stands behind a place, the places are narrowed by it
  narrows_from : (op : Op) (after : Bool) → ((o : Ordering) → op_test op o ≡ true → before_or o after ≡ true → ⊥)
      → b.op ≡ op → At after → FromOn → Narrows column rows entries b old new
  narrows_from op after never is at h = record {
    ordered = h.0;
    within = h.1;
    keeps = λ i lt e here. h.2 i here (⊎_elim (λ less. absurd (never _ (stands_so op is i e) (at.before i less))) (λ ge. ge) (cases_lt i place));
  }

  -- and where it stands before one
  narrows_to : (op : Op) (after : Bool) → ((o : Ordering) → op_test op o ≡ true → before_or o after ≡ false → ⊥)
      → b.op ≡ op → At after → UpTo → Narrows column rows entries b old new
  narrows_to op after never is at h = record {
    ordered = h.0;
    within = h.1;
    keeps = λ i lt e here. h.2 i here (⊎_elim (λ less. less) (λ ge. absurd (never _ (stands_so op is i e) (at.behind i ge lt))) (cases_lt i place));
  }

  -- what is more than a constant stands behind those that are it
  pub narrows_gt : b.op ≡ Gt → At true → FromOn → Narrows column rows entries b old new
  narrows_gt = narrows_from Gt true gt_behind

  -- what is not less than it stands from the first that is it on
  pub narrows_ge : b.op ≡ Ge → At false → FromOn → Narrows column rows entries b old new
  narrows_ge = narrows_from Ge false ge_behind

  -- what is less stands before the first that is it
  pub narrows_lt : b.op ≡ Lt → At false → UpTo → Narrows column rows entries b old new
  narrows_lt = narrows_to Lt false lt_before

  -- what is not more stands before those behind it
  pub narrows_le : b.op ≡ Le → At true → UpTo → Narrows column rows entries b old new
  narrows_le = narrows_to Le true le_before

-- ---- several comparisons

meets_first : (bs : List Bound) (b : Bound) (c : CellTree) → meets_all (bs ++ b ∷ []) c ≡ true → (meets_all bs c ≡ true) × (meets b c ≡ true)
meets_first [] b c e = (refl, (and_parts (meets b c) true e).0)
meets_first (a ∷ bs) b c e =
    let both = and_parts (meets a c) (meets_all (bs ++ b ∷ []) c) e in
    let later = meets_first bs b c both.1 in
    (ap₂ (λ x y. x && y) both.0 later.0, later.1)

-- all entries, before any comparison
pub span_first : (column : ℕ) (rows : List (List Val)) (entries : List ℕ) (bs : List Bound) (s : Between) → s.from ≡ 0 → s.to ≡ length entries
    → StandsBetween column rows entries (take 0 bs) s
span_first column rows entries bs s from to =
    record { ordered = omega (arith, from); within = omega (arith, to); between = λ i lt e. (omega (arith, from), omega (arith, lt, to)) }

-- with one comparison more
pub span_more : (column : ℕ) (rows : List (List Val)) (entries : List ℕ) (bs : List Bound) (i : ℕ) (b : Bound) (old new : Between)
    → i < length bs → b ≡ get_or bs i b → StandsBetween column rows entries (take i bs) old → Narrows column rows entries b old new
    → StandsBetween column rows entries (take (i + 1) bs) new
span_more column rows entries bs i b old new lt is so_far more =
    let longer : take (i + 1) bs ≡ take i bs ++ b ∷ [] = ap (λ n. take n bs) (add-one i) ∙ take-suc bs i b lt ∙ ap (λ d. take i bs ++ d ∷ []) (sym is) in
    record {
      ordered = more.ordered;
      within = omega (arith, more.within, so_far.within);
      between = λ k near e.
          let c = cell_in (get_or rows (get_or entries k 0) []) column in
          let both = meets_first (take i bs) b c (ap (λ l. meets_all l c) (sym longer) ∙ e) in
          more.keeps k near both.1 (so_far.between k near both.0);
    }

-- with all
pub span_end : (column : ℕ) (rows : List (List Val)) (entries : List ℕ) (bs : List Bound) (i : ℕ) (s : Between) → length bs ≤ i
    → StandsBetween column rows entries (take i bs) s → StandsBetween column rows entries bs s
span_end column rows entries bs i s le h = subst (λ l. StandsBetween column rows entries l s) (take_all i bs le) h

-- ---- what stands between two places

none_there : {A : Type 0} (q : A → Bool) (xs : List A) (d : A) → ((i : ℕ) → i < length xs → q (get_or xs i d) ≡ true → ⊥) → filter q xs ≡ []
none_there q [] d h = refl
none_there q (x ∷ xs) d h =
    let later = none_there q xs d (λ i lt. h (suc i) (omega (arith, lt))) in
    let go : (b : Bool) → q x ≡ b → cond b (x ∷ filter q xs) (filter q xs) ≡ [] = elim [ true ↦ λ e. absurd (h 0 (omega arith) e) | false ↦ λ e. later ] in
    go (q x) refl

-- a test that is true of nothing before one place, and from another one on, keeps the same of what stands between them
middle_kept : {A : Type 0} (q : A → Bool) (xs : List A) (d : A) (from n : ℕ)
    → ((i : ℕ) → i < length xs → q (get_or xs i d) ≡ true → (from ≤ i) × (i < from + n)) → filter q (take n (drop from xs)) ≡ filter q xs
middle_kept q [] d zero zero h = refl
middle_kept q [] d zero (suc n) h = refl
middle_kept q [] d (suc from) zero h = refl
middle_kept q [] d (suc from) (suc n) h = refl
middle_kept q (x ∷ xs) d zero zero h = sym (none_there q (x ∷ xs) d (λ i lt e. let b = (h i lt e).1 in omega (arith, b)))
middle_kept q (x ∷ xs) d zero (suc n) h =
    let later = middle_kept q xs d 0 n (λ i lt e. let b = (h (suc i) (omega (arith, lt)) e).1 in (omega arith, omega (arith, b))) in
    ap (λ l. cond (q x) (x ∷ l) l) later
middle_kept q (x ∷ xs) d (suc from) n h =
    let later = middle_kept q xs d from n (λ i lt e. let b = h (suc i) (omega (arith, lt)) e in (omega (arith, b.0), omega (arith, b.1))) in
    let go : (b : Bool) → q x ≡ b → filter q xs ≡ cond b (x ∷ filter q xs) (filter q xs) =
    elim [ true ↦ λ e. (let b = (h 0 (omega arith) e).0 in absurd (omega (arith, b))) | false ↦ λ e. refl ] in
    later ∙ go (q x) refl

-- a NULL meets no comparison
some_null : (bs : List Bound) → 0 < length bs → meets_all bs null ≡ true → ⊥
some_null [] lt e = omega (arith, lt)
some_null (b ∷ bs) lt e = cc

-- rows that meet comparisons have a key
has_key_cell : (bs : List Bound) (c : CellTree) → 0 < length bs → meets_all bs c ≡ true → not (has_null (c ∷ [])) ≡ true
has_key_cell bs null some e = absurd (some_null bs some e)
has_key_cell bs (int n) some e = refl
has_key_cell bs (text t) some e = refl
has_key_cell bs (bool b) some e = refl
has_key_cell bs (json j) some e = refl

-- of the rows that meet comparisons the entries between two places have the same as all entries
pub span_kept : (column : ℕ) (rows : List (List Val)) (entries : List ℕ) (bs : List Bound) (s : Between)
    → StandsBetween column rows entries bs s → HaveSame column rows bs (take (s.to - s.from) (drop s.from entries)) entries
span_kept column rows entries bs s h =
    middle_kept (row_meets column rows bs) entries 0 s.from (s.to - s.from) (λ i lt e. let b = h.between i lt e in (b.0, omega (arith, b.1, h.ordered)))

-- or as all rows, in the order of their keys
span_sorted : (column : ℕ) (rows : List (List Val)) (entries : List ℕ) (bs : List Bound) (s : Between) → 0 < length bs
    → entries ≡ indexed_rows (column ∷ []) rows → StandsBetween column rows entries bs s
    → HaveSame column rows bs (take (s.to - s.from) (drop s.from entries)) (sort (by_key (column ∷ []) rows) (counted 0 (length rows)))
span_sorted column rows entries bs s some is h =
    let q = row_meets column rows bs in
    span_kept column rows entries bs s h
    ∙ ap (filter q) is
    ∙ filter_weaker q (λ n. not (has_null (key_at (column ∷ []) rows n))) (λ n e. has_key_cell bs (cell_in (get_or rows n []) column) some e) _

-- ---- marks

any_put : {A : Type 0} (R : A → A → Ordering) (p : A → Bool) (x : A) (ys : List A) → list_any p (put R x ys) ≡ list_any p (x ∷ ys)
any_put R p x [] = refl
any_put R p x (y ∷ ys) =
    let later = any_put R p x ys in
    let turn : (a b c : Bool) → (b || (a || c)) ≡ (a || (b || c)) = elim [ true ↦ elim [ true ↦ λ c. refl | false ↦ λ c. refl ] | false ↦ λ b c. refl ] in
    let go : (b : Bool) → list_any p (cond b (y ∷ put R x ys) (x ∷ (y ∷ ys))) ≡ (p x || (p y || list_any p ys)) =
    elim [ true ↦ ap (λ r. p y || r) later ∙ turn (p x) (p y) (list_any p ys) | false ↦ refl ] in
    go (is_gt (R x y))

any_sort : {A : Type 0} (R : A → A → Ordering) (p : A → Bool) (xs : List A) → list_any p (sort R xs) ≡ list_any p xs
any_sort R p [] = refl
any_sort R p (x ∷ xs) = any_put R p x (sort R xs) ∙ ap (λ r. p x || r) (any_sort R p xs)

-- a number that passes is one of those that do where it is one of all
any_passes : (q : ℕ → Bool) (k : ℕ) (xs : List ℕ) → q k ≡ true → list_any (λ u. u == k) (filter q xs) ≡ list_any (λ u. u == k) xs
any_passes q k [] e = refl
any_passes q k (x ∷ xs) e =
    let later = any_passes q k xs e in
    let go : (b c : Bool) → q x ≡ b → (x == k) ≡ c → list_any (λ u. u == k) (cond b (x ∷ filter q xs) (filter q xs)) ≡ (c || list_any (λ u. u == k) xs) =
    elim [
      | true ↦ λ c is same. ap₂ (λ a r. a || r) same later
      | false ↦ elim [
        | true ↦ λ is same. absurd (false≢true (sym is ∙ ap q (eqb-true x k same) ∙ e))
        | false ↦ λ is same. later
      ]
    ] in
    go (q x) (x == k) refl refl

-- a number below the end of a count is one of it
any_counted : (from count k : ℕ) → from ≤ k → k < from + count → list_any (λ u. u == k) (counted from count) ≡ true
any_counted from zero k le lt = absurd (omega (arith, le, lt))
any_counted from (suc count) k le lt =
    let go : (b : Bool) → (from == k) ≡ b → (b || list_any (λ u. u == k) (counted (suc from) count)) ≡ true =
    elim [ true ↦ λ e. refl | false ↦ λ e. any_counted (suc from) count k (later from k le e) (omega (arith, lt)) ] in
    go (from == k) refl
  where
    later : (a b : ℕ) → a ≤ b → (a == b) ≡ false → suc a ≤ b
    later a b le other = omega (arith, le, eqb-false a b other)

-- a row that meets comparisons is one of the entries between two places
meets_marked : (column : ℕ) (rows : List (List Val)) (entries : List ℕ) (bs : List Bound) (s : Between) (k : ℕ) → 0 < length bs
    → entries ≡ indexed_rows (column ∷ []) rows → StandsBetween column rows entries bs s → k < length rows → row_meets column rows bs k ≡ true
    → list_any (λ u. u == k) (take (s.to - s.from) (drop s.from entries)) ≡ true
meets_marked column rows entries bs s k some is h lt e =
    let q = row_meets column rows bs in
    let R = by_key (column ∷ []) rows in
    let all = counted 0 (length rows) in
    let span = take (s.to - s.from) (drop s.from entries) in
    sym (any_passes q k span e) ∙ ap (list_any (λ u. u == k)) (span_sorted column rows entries bs s some is h)
    ∙ any_passes q k (sort R all) e ∙ any_sort R (λ u. u == k) all ∙ any_counted 0 (length rows) k (omega arith) (omega (arith, lt))

-- places that are marked have the same of the rows that meet comparisons as all places
pub marked_same : (column : ℕ) (rows : List (List Val)) (entries own : List ℕ) (bs : List Bound) (s : Between) (marks : List Bool) (ps places : List ℕ) → 0 < length bs
    → own ≡ column ∷ [] → entries ≡ indexed_rows own rows → StandsBetween column rows entries bs s
    → ((t : ℕ) → t < length rows → get_or marks t false ≡ list_any (λ u. u == t) (take (s.to - s.from) (drop s.from entries)))
    → places ≡ filter (λ k. get_or marks k false) ps → HaveSame column rows bs places ps
marked_same column rows entries own bs s marks ps places some alone is h set chosen =
    let q = row_meets column rows bs in
    let over : entries ≡ indexed_rows (column ∷ []) rows = is ∙ ap (λ cs. indexed_rows cs rows) alone in
    let past : (k : ℕ) → length rows ≤ k → q k ≡ true → ⊥ = λ k far e. some_null bs some (ap (λ row. meets_all bs (cell_in row column)) (sym (get_or_past rows k [] far)) ∙ e) in
    ap (filter q) chosen
    ∙ filter_weaker q (λ k. get_or marks k false)
    (λ k e. ⊎_elim (λ near. set k near ∙ meets_marked column rows entries bs s k some over h near e) (λ far. absurd (past k far e)) (cases_lt k (length rows))) ps

-- ---- rows in file order

-- numbers in a row stand in order
counted_before : (low from count : ℕ) → low < from → Each (Before nat_cmp low) (counted from count)
counted_before low from zero lt = tt
counted_before low from (suc count) lt = (not_more low from lt, counted_before low (suc from) count (omega (arith, lt)))
  where
    not_more : (a b : ℕ) → a < b → is_gt (nat_cmp a b) ≡ false
    not_more a b lt =
        let go : (c : Bool) → is_gt (nat_cmp a b) ≡ c → is_gt (nat_cmp a b) ≡ false =
        elim [ true ↦ λ e. (let le : b ≤ a = le_from_not_gt b a (turned nat_cmp_total a b e) in absurd (omega (arith, lt, le))) | false ↦ λ e. e ] in
        go (is_gt (nat_cmp a b)) refl

counted_ascends : (from count : ℕ) → Ascends nat_cmp (counted from count)
counted_ascends from zero = tt
counted_ascends from (suc count) = (counted_before from (suc from) count (omega arith), counted_ascends (suc from) count)

-- two numbers may be put in either order
put_either : (x y : ℕ) (zs : List ℕ) → put nat_cmp x (put nat_cmp y zs) ≡ put nat_cmp y (put nat_cmp x zs)
put_either x y zs =
    let go : (b c : Bool) → is_gt (nat_cmp x y) ≡ b → is_gt (nat_cmp y x) ≡ c → put nat_cmp x (put nat_cmp y zs) ≡ put nat_cmp y (put nat_cmp x zs) =
    elim [
      | true ↦ λ c g k. commute nat_cmp_total y x (turned nat_cmp_total x y g) g zs
      | false ↦ elim [
        | true ↦ λ g k. sym (commute nat_cmp_total x y g k zs)
        | false ↦ λ g k. ap₂ (λ a b. put nat_cmp a (put nat_cmp b zs)) (alike x y g k) (sym (alike x y g k))
      ]
    ] in
    go (is_gt (nat_cmp x y)) (is_gt (nat_cmp y x)) refl refl
  where
    alike : (a b : ℕ) → is_gt (nat_cmp a b) ≡ false → is_gt (nat_cmp b a) ≡ false → a ≡ b
    alike a b g k = let le : a ≤ b = le_from_not_gt a b g in let ge : b ≤ a = le_from_not_gt b a k in omega (arith, le, ge)

sort_put : (R : ℕ → ℕ → Ordering) (x : ℕ) (ys : List ℕ) → sort nat_cmp (put R x ys) ≡ put nat_cmp x (sort nat_cmp ys)
sort_put R x [] = refl
sort_put R x (y ∷ ys) =
    let later = sort_put R x ys in
    let go : (b : Bool) → sort nat_cmp (cond b (y ∷ put R x ys) (x ∷ (y ∷ ys))) ≡ put nat_cmp x (put nat_cmp y (sort nat_cmp ys)) =
    elim [ true ↦ ap (put nat_cmp y) later ∙ put_either y x (sort nat_cmp ys) | false ↦ refl ] in
    go (is_gt (R x y))

-- however numbers were sorted before, a sort of them is one of those
sort_again : (R : ℕ → ℕ → Ordering) (xs : List ℕ) → sort nat_cmp (sort R xs) ≡ sort nat_cmp xs
sort_again R [] = refl
sort_again R (x ∷ xs) = sort_put R x (sort R xs) ∙ ap (put nat_cmp x) (sort_again R xs)

-- the entries between two places, in file order, have the same of the rows that meet comparisons as all rows
pub sorted_same : (column : ℕ) (rows : List (List Val)) (entries own : List ℕ) (bs : List Bound) (s : Between) (ps places : List ℕ) → 0 < length bs
    → own ≡ column ∷ [] → entries ≡ indexed_rows own rows → StandsBetween column rows entries bs s → ps ≡ counted 0 (length rows)
    → places ≡ sort nat_cmp (take (s.to - s.from) (drop s.from entries)) → HaveSame column rows bs places ps
sorted_same column rows entries own bs s ps places some alone is h all chosen =
    let q = row_meets column rows bs in
    let R = by_key (column ∷ []) rows in
    let count = counted 0 (length rows) in
    let over : entries ≡ indexed_rows (column ∷ []) rows = is ∙ ap (λ cs. indexed_rows cs rows) alone in
    ap (filter q) chosen ∙ sort_filter nat_cmp_total q (take (s.to - s.from) (drop s.from entries))
    ∙ ap (sort nat_cmp) (span_sorted column rows entries bs s some over h) ∙ sym (sort_filter nat_cmp_total q (sort R count))
    ∙ ap (filter q) (sort_again R count ∙ sort_ascending nat_cmp_total count (counted_ascends 0 (length rows))) ∙ ap (filter q) (sym all)
