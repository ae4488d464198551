-- Where the keys of whole numbers begin among the entries.
use Rattle.std.proofs.Common.{◌≡◌, ◌∙◌, ℕ, suc, ℤ, pos, ◌+ℤ◌, ◌+◌, ◌<◌, ◌≤◌, ⊎_elim, List, [], ◌∷◌, length, get_or, Bool, true, false, Option, Some, None, IfSome, Ordering, Less, Equal, Greater, refl, sym, ap, subst, arith}
use Rattle.std.specs.Ordering.{int_cmp}
use Rattle.std.proofs.lemmas.Bool.{cases_lt}
use Rattle.std.proofs.lemmas.Int.{ints}
use Rattle.hq_base.specs.Cells.{CellTree, null, int, text, bool, json}
use Rattle.hq_base.specs.declared.value.Val.{Val}
use Rattle.hq_load_index.specs.Direct.{AreStarts, IsSpan, IsSpanOf, number_key}
use Rattle.hq_load_index.specs.Indexes.{indexed_rows}
use Rattle.hq_load_index.specs.Keys.{cell_in, key_at, keys_cmp}
use Rattle.hq_load_index.specs.Places.{IsPlace, before_or, stands_before}
use Rattle.hq_load_index.specs.declared.span.Span.{Span}
use Rattle.hq_load_index.proofs.Numbers.{one_number}
use Rattle.hq_load_index.proofs.Sorted.{keys_cmp_total}
use Rattle.hq_load_index.proofs.Spans.{stands_behind}

-- ---- the numbers from the least one on

number_before : (m : ℤ) (i j : ℕ) → i < j → before_or (int_cmp (m +ℤ pos i) (m +ℤ pos j)) false ≡ true
number_before m i j lt = grind (arith, ints)

number_behind : (m : ℤ) (i j : ℕ) → j ≤ i → before_or (int_cmp (m +ℤ pos i) (m +ℤ pos j)) false ≡ false
number_behind m i j le = grind (arith, ints)

-- starts that go on with one place
pub record GoesOn (old new : List ℕ) (place : ℕ) : Type 0 where
  pub same : (i : ℕ) → i < length new → i < length old → get_or new i 0 ≡ get_or old i 0
  pub more : (i : ℕ) → i < length new → length old ≤ i → get_or new i 0 ≡ place

-- the numbers up to that of the entries before a place have their starts, and these entries stand before the next number
pub record BeginUpTo (column : ℕ) (rows : List (List Val)) (entries : List ℕ) (least : ℤ) (starts : List ℕ) (place : ℕ) : Type 0 where
  pub starts_are : AreStarts (column ∷ []) rows entries least starts
  pub before : (j : ℕ) → j < place → stands_before (column ∷ []) rows (number_key least (length starts)) false (get_or entries j 0) ≡ true

module _ (column : ℕ) (rows : List (List Val)) (entries : List ℕ) (least : ℤ) where
  -- whether the entry at a place stands before the number so many behind the least one
  abbrev stands : (number place : ℕ) → Bool
  stands i place = stands_before (column ∷ []) rows (number_key least i) false (get_or entries place 0)

  -- the number of the entry at a place
  abbrev HasNumber : (place number : ℕ) → Type 0
  HasNumber place at = cell_in (get_or rows (get_or entries place 0) []) column ≡ int (least +ℤ pos at)

  -- an entry stands before the numbers behind its own
  before_own : (place at i : ℕ) → HasNumber place at → at < i → stands i place ≡ true
  before_own place at i is lt = rw (is, one_number (least +ℤ pos at) (least +ℤ pos i)) (number_before least at i lt)

  -- and not before its own, or one before that
  behind_own : (place at i : ℕ) → HasNumber place at → i ≤ at → stands i place ≡ false
  behind_own place at i is le = rw (is, one_number (least +ℤ pos at) (least +ℤ pos i)) (number_behind least at i le)

  -- what stands before a number stands before those behind it
  before_later : (i j place : ℕ) → i ≤ j → stands i place ≡ true → stands j place ≡ true
  before_later i j place le e =
      let less : (o : Ordering) → before_or o false ≡ true → o ≡ Less = elim [ Less ↦ λ g. refl | Equal ↦ λ g. cc | Greater ↦ λ g. cc ] in
      let key = key_at (column ∷ []) rows (get_or entries place 0) in
      ⊎_elim
      (λ lt. let step = one_number (least +ℤ pos i) (least +ℤ pos j) ∙ less _ (number_before least i j lt) in
      ap (λ o. before_or o false) (keys_cmp_total.trans key (number_key least i) (number_key least j) (less _ e) step))
      (λ ge. let same : i ≡ j = omega arith in subst (λ k. stands k place ≡ true) same e)
      (cases_lt i j)

  -- starts that go on are starts where each number that is new begins there
  starts_on : (old new : List ℕ) (place : ℕ) → GoesOn old new place → AreStarts (column ∷ []) rows entries least old
      → ((i : ℕ) → i < length new → length old ≤ i → IsPlace (column ∷ []) rows entries (number_key least i) false place)
      → AreStarts (column ∷ []) rows entries least new
  starts_on old new place g h p = record {
    places = λ i lt.
        let begins : ℕ → Type 0 = λ q. IsPlace (column ∷ []) rows entries (number_key least i) false q in
        ⊎_elim (λ few. subst begins (sym (g.same i lt few)) (h.places i few)) (λ more. subst begins (sym (g.more i lt more)) (p i lt more))
        (cases_lt i (length old));
  }

  -- at an entry begin the numbers behind that of the entry before it, up to its own
  pub begin_more : (old new : List ℕ) (place at : ℕ) → entries ≡ indexed_rows (column ∷ []) rows → place < length entries → HasNumber place at
      → length old ≤ length new → at < length new → (length old < length new → length new ≡ at + 1) → GoesOn old new place
      → BeginUpTo column rows entries least old place → BeginUpTo column rows entries least new (place + 1)
  begin_more old new place at index lt is longer below last g h = record {
    starts_are = starts_on old new place g h.starts_are
        (λ i short more. record {
          within = omega arith;
          before = λ j k. before_later (length old) i j more (h.before j k);
          behind = (let up : i ≤ at = (let end = last (omega arith) in omega arith) in
              stands_behind (column ∷ []) rows (number_key least i) false entries index place (behind_own place at i is up));
        });
    before = λ j k. ⊎_elim
        (λ less. before_later (length old) (length new) j longer (h.before j less))
        (λ ge. let here : place ≡ j = omega arith in subst (λ p. stands (length new) p ≡ true) here (before_own place at (length new) is below))
        (cases_lt j place);
  }

  -- behind all entries begin those that are left
  pub begin_end : (old new : List ℕ) (place : ℕ) → place ≡ length entries → GoesOn old new place → BeginUpTo column rows entries least old place
      → AreStarts (column ∷ []) rows entries least new
  begin_end old new place end g h =
      starts_on old new place g h.starts_are
      (λ i short more. record {
        within = omega arith;
        before = λ j k. before_later (length old) i j more (h.before j k);
        behind = λ j ge k. absurd (omega arith);
      })

-- ---- behind a number is where the next one begins, in one column

next_number : (n m : ℤ) → before_or (int_cmp n (m +ℤ pos 1)) false ≡ before_or (int_cmp n m) true
next_number n m = grind (arith, ints)

next_cell : (c : CellTree) (m : ℤ) → before_or (keys_cmp (c ∷ []) (int (m +ℤ pos 1) ∷ [])) false ≡ before_or (keys_cmp (c ∷ []) (int m ∷ [])) true
next_cell null m = refl
next_cell (int n) m = rw (one_number n (m +ℤ pos 1), one_number n m) (next_number n m)
next_cell (text s) m = refl
next_cell (bool b) m = refl
next_cell (json j) m = refl

-- one column's first entry that does not stand before the next number is the first one behind the number
pub place_behind : (column : ℕ) (rows : List (List Val)) (entries : List ℕ) (least : ℤ) (i place : ℕ)
    → IsPlace (column ∷ []) rows entries (number_key least (i + 1)) false place → IsPlace (column ∷ []) rows entries (number_key least i) true place
place_behind column rows entries least i place p =
    let far : least +ℤ pos (i + 1) ≡ (least +ℤ pos i) +ℤ pos 1 = grind (arith, ints) in
    let same : (entry : ℕ) → stands_before (column ∷ []) rows (number_key least (i + 1)) false entry ≡ stands_before (column ∷ []) rows (number_key least i) true entry =
    λ entry. ap (λ n. before_or (keys_cmp (key_at (column ∷ []) rows entry) (int n ∷ [])) false) far ∙ next_cell (cell_in (get_or rows entry []) column) (least +ℤ pos i) in
    record {
      within = p.within;
      before = λ j lt. sym (same (get_or entries j 0)) ∙ p.before j lt;
      behind = λ j ge lt. sym (same (get_or entries j 0)) ∙ p.behind j ge lt;
    }

-- the place behind a key is not in front of its place
pub place_order : (columns : List ℕ) (rows : List (List Val)) (entries : List ℕ) (key : List CellTree) (from to : ℕ)
    → IsPlace columns rows entries key false from → IsPlace columns rows entries key true to → from ≤ to
place_order columns rows entries key from to f t =
    ⊎_elim
    (λ below.
    let fits = f.within in
    let weaker : (o : Ordering) → before_or o false ≡ true → before_or o true ≡ true = elim [ Less ↦ λ g. refl | Equal ↦ λ g. refl | Greater ↦ λ g. cc ] in
    let here = weaker (keys_cmp (key_at columns rows (get_or entries to 0)) key) (f.before to below) in
    let not_here = t.behind to (omega arith) (omega arith) in
    cc)
    (λ ge. ge) (cases_lt to from)

-- the entries of a number that is told are those of its key
pub told_span : (column : ℕ) (rows : List (List Val)) (entries : List ℕ) (least : ℤ) (starts : List ℕ) (number : ℤ) (s : Span)
    → AreStarts (column ∷ []) rows entries least starts → IsSpanOf least starts number s → IsSpan (column ∷ []) rows entries (int number ∷ []) s
told_span column rows entries least starts number s h t =
    let far : suc t.at ≡ t.at + 1 = omega arith in
    let below : t.at + 1 < length starts = (let w = t.within in omega arith) in
    record {
      whole = refl;
      from = rw (t.is, t.from) (h.places t.at (let w = t.within in omega arith));
      to = rw (t.is, t.to, far) (place_behind column rows entries least t.at (get_or starts (t.at + 1) 0) (h.places (t.at + 1) below));
      free = t.free;
    }

pub told_is : (columns : List ℕ) (rows : List (List Val)) (entries : List ℕ) (key : List CellTree) (least : ℤ) (starts : List ℕ) (column : ℕ) (number : ℤ) (found : Option Span)
    → columns ≡ column ∷ [] → key ≡ int number ∷ [] → AreStarts columns rows entries least starts → IfSome found (IsSpanOf least starts number) → IfSome found (IsSpan columns rows entries key)
told_is columns rows entries key least starts column number None one is h t = tt
told_is columns rows entries key least starts column number (Some s) one is h t = rw (one, is) (told_span column rows entries least starts number s (rw one at h) t)
