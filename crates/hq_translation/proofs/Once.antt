-- Columns of which each is taken once: what is put together of them stays the same, and so do the rows of a list.
use Rattle.std.proofs.Common.{◌≡◌, ℕ, ◌+◌, ◌≤◌, List, [], ◌∷◌, ◌++◌, length, filter, Bool, true, false, cond, not, ◌&&◌, ◌||◌, ◌==◌, refl, sym, ap, ◌∙◌, arith, eqb-true, Ordering, Less, Equal, Greater}
use Rattle.std.specs.List.{list_all}
use Rattle.std.specs.Ordering.{ordering_then}
use Rattle.std.proofs.lemmas.List.{length-append}
use Rattle.hq_base.specs.Cells.{key_cmp, same_cell}
use Rattle.hq_base.specs.Lists.{Each, firsts, sort}
use Rattle.hq_base.proofs.Lists.{each_all, filter_on}
use Rattle.hq_base.proofs.Sorts.{sort_on}
use Rattle.hq_model.specs.Schema.{Schema}
use Rattle.hq_model.specs.Seen.{Sees}
use Rattle.hq_model.specs.Selected.{SortKey, ListArguments, sorts_cmp, ascending, sorts_or, entries, same_cells, distinct_rows, ordered}
use Rattle.hq_model.specs.Truth.{keeps}
use Rattle.hq_translation.specs.Looks.{is_used, add_new, add_all}
use Rattle.hq_translation.specs.Lists.{once}

-- ---- what is put together of columns

-- A way to put together, in which a part that comes a second time changes nothing.
pub record Absorbs {M : Type 0} (op : M → M → M) (none : M) : Type 0 where
  pub assoc : (a b c : M) → op a (op b c) ≡ op (op a b) c
  pub left : (a : M) → op none a ≡ a
  pub right : (a : M) → op a none ≡ a
  pub again : (a b : M) → op a b ≡ op (op a b) a

module _ {M : Type 0} (op : M → M → M) (none : M) (h : Absorbs op none) (part : ℕ → M) where
  abbrev pub total : List ℕ → M
  total [] = none
  total (c ∷ cs) = op (part c) (total cs)

  total_append : (cs : List ℕ) (c : ℕ) → total (cs ++ c ∷ []) ≡ op (total cs) (part c)
  total_append [] c = h.right (part c) ∙ sym (h.left (part c))
  total_append (d ∷ cs) c = ap (op (part d)) (total_append cs c) ∙ h.assoc (part d) (total cs) (part c)

  total_used : (c : ℕ) (cs : List ℕ) → is_used c cs ≡ true → total cs ≡ op (total cs) (part c)
  total_used c [] used = cc
  total_used c (d ∷ cs) used =
      let go : (b : Bool) → (c == d) ≡ b → (b || is_used c cs) ≡ true → op (part d) (total cs) ≡ op (op (part d) (total cs)) (part c) = elim [
        | true ↦ λ e f. h.again (part d) (total cs) ∙ ap (λ k. op (op (part d) (total cs)) (part k)) (sym (eqb-true c d e))
        | false ↦ λ e f. ap (op (part d)) (total_used c cs f) ∙ h.assoc (part d) (total cs) (part c)
      ] in
      go (c == d) refl used

  total_new : (c : ℕ) (cs : List ℕ) → total (add_new c cs) ≡ op (total cs) (part c)
  total_new c cs =
      let go : (b : Bool) → is_used c cs ≡ b → total (cond b cs (cs ++ c ∷ [])) ≡ op (total cs) (part c) = elim [
        | true ↦ λ e. total_used c cs e
        | false ↦ λ e. total_append cs c
      ] in
      go (is_used c cs) refl

  total_added : (ds cs : List ℕ) → total (add_all ds cs) ≡ op (total cs) (total ds)
  total_added [] cs = sym (h.right (total cs))
  total_added (d ∷ ds) cs =
      total_added ds (add_new d cs) ∙ ap (λ m. op m (total ds)) (total_new d cs) ∙ sym (h.assoc (total cs) (part d) (total ds))

  pub total_once : (ds : List ℕ) → total (add_all ds []) ≡ total ds
  total_once ds = total_added ds [] ∙ h.left (total ds)

-- orders one behind the other, tests of which all or one hold
pub orders_absorb : Absorbs ordering_then Equal
orders_absorb = record { assoc = assoc; left = λ a. refl; right = right; again = again }
  where
    assoc : (a b c : Ordering) → ordering_then a (ordering_then b c) ≡ ordering_then (ordering_then a b) c
    assoc Less b c = refl
    assoc Equal b c = refl
    assoc Greater b c = refl

    right : (a : Ordering) → ordering_then a Equal ≡ a
    right Less = refl
    right Equal = refl
    right Greater = refl

    again : (a b : Ordering) → ordering_then a b ≡ ordering_then (ordering_then a b) a
    again Less b = refl
    again Equal b = sym (right b)
    again Greater b = refl

all_absorb : Absorbs (λ a b. a && b) true
all_absorb = record { assoc = assoc; left = λ a. refl; right = right; again = again }
  where
    assoc : (a b c : Bool) → (a && (b && c)) ≡ ((a && b) && c)
    assoc true b c = refl
    assoc false b c = refl

    right : (a : Bool) → (a && true) ≡ a
    right true = refl
    right false = refl

    again : (a b : Bool) → (a && b) ≡ ((a && b) && a)
    again true b = sym (right b)
    again false b = refl

any_absorb : Absorbs (λ a b. a || b) false
any_absorb = record { assoc = assoc; left = λ a. refl; right = right; again = again }
  where
    assoc : (a b c : Bool) → (a || (b || c)) ≡ ((a || b) || c)
    assoc true b c = refl
    assoc false b c = refl

    right : (a : Bool) → (a || false) ≡ a
    right true = refl
    right false = refl

    again : (a b : Bool) → (a || b) ≡ ((a || b) || a)
    again true b = refl
    again false b = sym (right b)

-- ---- tests of columns

-- what is said of a list column by column is put together so
is_total : {M : Type 0} (op : M → M → M) (none : M) (h : Absorbs op none) (part : ℕ → M) (f : List ℕ → M) → f [] ≡ none
    → ((c : ℕ) (cs : List ℕ) → f (c ∷ cs) ≡ op (part c) (f cs)) → (ds : List ℕ) → f ds ≡ total op none h part ds
is_total op none h part f first next [] = first
is_total op none h part f first next (d ∷ ds) = next d ds ∙ ap (op (part d)) (is_total op none h part f first next ds)

-- so it is the same of a list with each column once
same_once : {M : Type 0} (op : M → M → M) (none : M) (h : Absorbs op none) (part : ℕ → M) (f : List ℕ → M) → f [] ≡ none
    → ((c : ℕ) (cs : List ℕ) → f (c ∷ cs) ≡ op (part c) (f cs)) → (ds : List ℕ) → f (add_all ds []) ≡ f ds
same_once op none h part f first next ds =
    is_total op none h part f first next (add_all ds []) ∙ total_once op none h part ds ∙ sym (is_total op none h part f first next ds)

pub used_once : (c : ℕ) (ds : List ℕ) → is_used c (add_all ds []) ≡ is_used c ds
used_once c ds = same_once (λ a b. a || b) false any_absorb (λ d. c == d) (is_used c) refl (λ d cs. refl) ds

pub all_once : (p : ℕ → Bool) (ds : List ℕ) → list_all p (add_all ds []) ≡ list_all p ds
all_once p ds = same_once (λ a b. a && b) true all_absorb p (list_all p) refl (λ d cs. refl) ds

-- ---- facts of each column, and how many there are

each_last : (P : ℕ → Type 0) (cs : List ℕ) (c : ℕ) → Each P cs → P c → Each P (cs ++ c ∷ [])
each_last P [] c each one = (one, tt)
each_last P (d ∷ cs) c each one = (each.0, each_last P cs c each.1 one)

pub each_new : (P : ℕ → Type 0) (c : ℕ) (cs : List ℕ) → Each P cs → P c → Each P (add_new c cs)
each_new P c cs each one =
    let go : (b : Bool) → Each P (cond b cs (cs ++ c ∷ [])) = elim [ true ↦ each | false ↦ each_last P cs c each one ] in
    go (is_used c cs)

each_added : (P : ℕ → Type 0) (ds cs : List ℕ) → Each P cs → Each P ds → Each P (add_all ds cs)
each_added P [] cs each more = each
each_added P (d ∷ ds) cs each more = each_added P ds (add_new d cs) (each_new P d cs each more.0) more.1

pub each_once : (P : ℕ → Type 0) (ds : List ℕ) → Each P ds → Each P (add_all ds [])
each_once P ds each = each_added P ds [] tt each

length_new : (c : ℕ) (cs : List ℕ) → length (add_new c cs) ≤ length cs + 1
length_new c cs =
    let go : (b : Bool) → length (cond b cs (cs ++ c ∷ [])) ≤ length cs + 1 = elim [ true ↦ omega arith | false ↦ omega (arith, length-append cs (c ∷ [])) ] in
    go (is_used c cs)

length_added : (ds cs : List ℕ) → length (add_all ds cs) ≤ length cs + length ds
length_added [] cs = omega arith
length_added (d ∷ ds) cs = omega (arith, length_added ds (add_new d cs), length_new d cs)

pub length_once : (ds : List ℕ) → length (add_all ds []) ≤ length ds
length_once ds = omega (arith, length_added ds [])

-- ---- the rows of a list

-- a first column stays the first one
front : (ds : List ℕ) (c : ℕ) (cs : List ℕ) → (rest : List ℕ) × (add_all ds (c ∷ cs) ≡ c ∷ rest)
front [] c cs = (cs, refl)
front (d ∷ ds) c cs =
    let go : (b : Bool) → (rest : List ℕ) × (add_all ds (cond b (c ∷ cs) ((c ∷ cs) ++ d ∷ [])) ≡ c ∷ rest) = elim [ true ↦ front ds c cs | false ↦ front ds c (cs ++ d ∷ []) ] in
    go (is_used d (c ∷ cs))

-- groups that are the same have the same first items
firsts_same : {A : Type 0} (same alike : A → A → Bool) → ((x y : A) → same x y ≡ alike x y) → (xs : List A) → firsts same xs ≡ firsts alike xs
firsts_same same alike agree [] = refl
firsts_same {A} same alike agree (x ∷ xs) =
    let none : A → Type 0 = λ y. Unit {0} in
    ap (λ ys. x ∷ ys)
    (ap (filter (λ y. not (same x y))) (firsts_same same alike agree xs)
    ∙ filter_on none (λ y. not (same x y)) (λ y. not (alike x y)) (λ y p. ap not (agree x y)) (firsts alike xs) (each_all none (λ y. tt) (firsts alike xs)))

module _ {R : Type 0} (s : Schema) (S : Sees R) (t : ℕ) where
  same_cells_once : (ds : List ℕ) (x y : R) → same_cells (add_all ds []) S t x y ≡ same_cells ds S t x y
  same_cells_once ds x y =
      same_once (λ a b. a && b) true all_absorb (λ c. same_cell (S.cell t x c) (S.cell t y c)) (λ cs. same_cells cs S t x y) refl (λ d cs. refl) ds

  distinct_once : (ds : List ℕ) (xs : List R) → distinct_rows (add_all ds []) S t xs ≡ distinct_rows ds S t xs
  distinct_once [] xs = refl
  distinct_once (d ∷ ds) xs =
      let begins = front ds d [] in
      ap (λ l. distinct_rows l S t xs) begins.1
      ∙ firsts_same (same_cells (d ∷ begins.0) S t) (same_cells (d ∷ ds) S t) (λ x y. ap (λ l. same_cells l S t x y) (sym begins.1) ∙ same_cells_once (d ∷ ds) x y) xs

  entries_once : (ks : List SortKey) (ds : List ℕ) (x y : R) → sorts_cmp (sorts_or ks (ascending (add_all ds []))) s S t x y ≡ sorts_cmp (sorts_or ks (ascending ds)) s S t x y
  entries_once [] ds x y =
      same_once ordering_then Equal orders_absorb (λ c. key_cmp false false (S.cell t x c) (S.cell t y c)) (λ cs. sorts_cmp (ascending cs) s S t x y) refl (λ d cs. refl) ds
  entries_once (k ∷ ks) ds x y = refl

  -- a list has the same rows in the same order
  pub ordered_once : (a : ListArguments) (start : List R) → ordered s S t (once a) start ≡ ordered s S t a start
  ordered_once a start =
      let rows : List R = filter (keeps a.wanted s S t) start in
      let none : R → Type 0 = λ r. Unit {0} in
      distinct_once a.distinct (sort (sorts_cmp (entries (once a)) s S t) rows)
      ∙ ap (distinct_rows a.distinct S t)
      (sort_on none (sorts_cmp (entries (once a)) s S t) (sorts_cmp (entries a) s S t) (λ x y p q. entries_once a.sorts a.distinct x y) rows (each_all none (λ r. tt) rows))
