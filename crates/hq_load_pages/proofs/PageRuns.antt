-- Pages that are touched one after the other.
use Rattle.std.proofs.Common.{◌≡◌, ◌∙◌, ℕ, zero, suc, ◌+◌, ◌-◌, ◌<◌, ◌≤◌, true, List, [], ◌++◌, append_assoc, nat_eq, Option, Some, None, option_map, Result, Ok, Err, OnErr, refl, sym, ap, arith, inl, inr}
use Rattle.std.specs.List.{list_any}
use Rattle.hq_io.specs.Causes.{one_more}
use Rattle.hq_load_pages.specs.Counts.{more, Rises}
use Rattle.hq_load_pages.specs.Touch.{touched, touched_from, misses, missed_from, StaysOrTouched, TouchesSome}
use Rattle.std.specs.Option.{option_and_then}
use Rattle.std.proofs.lemmas.List.{append-nil}
use Rattle.hq_load_pages.specs.Held.{due_piece, due_run, WhereTold}
use Rattle.hq_load_pages.specs.declared.header.Header.{Header}

-- a page in the list is not read
pub no_miss : (page : ℕ) (pages : List ℕ) → list_any (nat_eq page) pages ≡ true → misses page pages ≡ 0
no_miss page pages e = rw e refl

-- no further call
pub rises_none : (o : Option ℕ) → Rises o o 0
rises_none None = refl
rises_none (Some c) = refl

-- counts that rose one after the other
more_more : (count m n : ℕ) → more (more count m) n ≡ more count (m + n)
more_more count zero n = let none : 0 + n ≡ n = omega arith in ap (more count) (sym none)
more_more count (suc m) n = let one : suc m + n ≡ suc (m + n) = omega arith in more_more (one_more count) m n ∙ ap (more count) (sym one)

-- calls that were made one after the other
pub rises_more : (o p q : Option ℕ) (m n : ℕ) → Rises o p m → Rises p q n → Rises o q (m + n)
rises_more None p q m n e f = f ∙ ap (option_map (λ c. more c n)) e
rises_more (Some c) p q m n e f = f ∙ ap (option_map (λ d. more d n)) e ∙ ap Some (more_more c m n)

-- so many pages, and then more
pub touched_more : (a b first room : ℕ) (pages : List ℕ) → touched_from first (a + b) room pages ≡ touched_from (first + a) b room (touched_from first a room pages)
touched_more zero b first room pages =
    let same : first + 0 ≡ first = omega arith in
    let none : 0 + b ≡ b = omega arith in
    ap (λ (k : ℕ). touched_from first k room pages) none ∙ ap (λ (at : ℕ). touched_from at b room pages) (sym same)
touched_more (suc a) b first room pages =
    let next : suc first + a ≡ first + suc a = omega arith in
    let one : suc a + b ≡ suc (a + b) = omega arith in
    ap (λ (k : ℕ). touched_from first k room pages) one
    ∙ touched_more a b (suc first) room (touched first room pages) ∙ ap (λ (at : ℕ). touched_from at b room (touched_from (suc first) a room (touched first room pages))) next

pub missed_more : (a b first room : ℕ) (pages : List ℕ) → missed_from first (a + b) room pages ≡ missed_from first a room pages + missed_from (first + a) b room (touched_from first a room pages)
missed_more zero b first room pages =
    let same : first + 0 ≡ first = omega arith in
    let none : 0 + b ≡ b = omega arith in
    let zeroth : missed_from first b room pages ≡ 0 + missed_from first b room pages = omega arith in
    ap (λ (k : ℕ). missed_from first k room pages) none ∙ zeroth ∙ ap (λ (at : ℕ). 0 + missed_from at b room pages) (sym same)
missed_more (suc a) b first room pages =
    let next : suc first + a ≡ first + suc a = omega arith in
    let one : suc a + b ≡ suc (a + b) = omega arith in
    let rest =
    missed_more a b (suc first) room (touched first room pages)
    ∙ ap
    (λ (at : ℕ). missed_from (suc first) a room (touched first room pages)
    + missed_from at b room (touched_from (suc first) a room (touched first room pages)))
    next in
    let sums : (x y z w : ℕ) → y ≡ z + w → x + y ≡ (x + z) + w = λ x y z w e. omega (arith, e) in
    ap (λ (k : ℕ). missed_from first k room pages) one ∙ sums (misses first pages) _ _ _ rest

-- one page more
pub next_touched : (first done room : ℕ) (pages now new : List ℕ) → now ≡ touched_from first done room pages → new ≡ touched (first + done) room now → new ≡ touched_from first (done + 1) room pages
next_touched first done room pages now new e f = f ∙ ap (touched (first + done) room) e ∙ sym (touched_more done 1 first room pages)

next_missed : (first done room : ℕ) (pages now : List ℕ) → now ≡ touched_from first done room pages
    → missed_from first (done + 1) room pages ≡ missed_from first done room pages + misses (first + done) now
next_missed first done room pages now e =
    let plain : (x y : ℕ) → x + (y + 0) ≡ x + y = λ x y. omega arith in
    missed_more done 1 first room pages ∙ plain (missed_from first done room pages) (misses (first + done) (touched_from first done room pages))
    ∙ ap (λ (xs : List ℕ). missed_from first done room pages + misses (first + done) xs) (sym e)

pub next_calls : (o p q : Option ℕ) (first done room : ℕ) (pages now : List ℕ) → now ≡ touched_from first done room pages
    → Rises o p (missed_from first done room pages) → Rises p q (misses (first + done) now) → Rises o q (missed_from first (done + 1) room pages)
next_calls o p q first done room pages now e a b =
    rises_more o p q (missed_from first done room pages) (misses (first + done) now) a b ∙ ap (λ (k : ℕ). option_map (λ c. more c k) o) (sym (next_missed first done room pages now e))

-- a page that was refused: the list is after the pages so far, or after this one too
pub refused_at : (first done room most : ℕ) (pages now new : List ℕ) → done < most → now ≡ touched_from first done room pages
    → StaysOrTouched (first + done) room now new → TouchesSome first most room pages new
refused_at first done room most pages now new few e (inl f) = (done, omega (arith, few), f ∙ e)
refused_at first done room most pages now new few e (inr f) = (done + 1, omega (arith, few), next_touched first done room pages now new e f)

-- ---- the run of pages

-- the run of pages of which the first has this piece
run_behind : (headers : List Header) (held : List ℕ) (first left : ℕ) (piece : List ℕ) → 0 < left → due_piece headers held first ≡ Some piece
    → due_run headers held first left ≡ option_map (λ run. piece ++ run) (due_run headers held (first + 1) (left - 1))
run_behind headers held first zero piece some e = absurd (omega (arith, some))
run_behind headers held first (suc n) piece some e =
    let next : suc first ≡ first + 1 = omega arith in
    let less : n ≡ suc n - 1 = omega arith in
    ap (option_and_then (λ p. option_map (λ run. p ++ run) (due_run headers held (suc first) n))) e
    ∙ ap (λ (at : ℕ). option_map (λ run. piece ++ run) (due_run headers held at n)) next ∙ ap (λ (k : ℕ). option_map (λ run. piece ++ run) (due_run headers held (first + 1) k)) less

-- a piece more
map_behind : (run piece : List ℕ) (o : Option (List ℕ)) → option_map (λ rest. run ++ rest) (option_map (λ rest. piece ++ rest) o) ≡ option_map (λ rest. (run ++ piece) ++ rest) o
map_behind run piece None = refl
map_behind run piece (Some rest) = ap Some (sym (append_assoc run piece rest))

pub next_run : (headers : List Header) (told : Option (List ℕ)) (first done count : ℕ) (run new piece : List ℕ) → done < count
    → new ≡ run ++ piece → WhereTold told (λ held. due_piece headers held (first + done) ≡ Some piece)
    → WhereTold told (λ held. due_run headers held first count ≡ option_map (λ rest. run ++ rest) (due_run headers held (first + done) (count - done)))
    → WhereTold told (λ held. due_run headers held first count ≡ option_map (λ rest. new ++ rest) (due_run headers held (first + (done + 1)) (count - (done + 1))))
next_run headers told first done count run new piece lt is_new due so_far held is =
    let at : first + done + 1 ≡ first + (done + 1) = omega arith in
    let left : count - done - 1 ≡ count - (done + 1) = omega (arith, lt) in
    so_far held is ∙ ap (option_map (λ rest. run ++ rest)) (run_behind headers held (first + done) (count - done) piece (omega (arith, lt)) (due held is))
    ∙ map_behind run piece (due_run headers held (first + done + 1) (count - done - 1))
    ∙ ap (λ (xs : List ℕ). option_map (λ rest. xs ++ rest) (due_run headers held (first + done + 1) (count - done - 1))) (sym is_new)
    ∙ ap (λ (k : ℕ). option_map (λ rest. new ++ rest) (due_run headers held k (count - done - 1))) at
    ∙ ap (λ (k : ℕ). option_map (λ rest. new ++ rest) (due_run headers held (first + (done + 1)) k)) left

-- no page is left
pub whole_run : (headers : List Header) (told : Option (List ℕ)) (first done count : ℕ) (run : List ℕ) → count ≤ done
    → WhereTold told
    (λ held. due_run headers held first count ≡ option_map (λ rest. run ++ rest) (due_run headers held (first + done) (count - done)))
    → WhereTold told (λ held. due_run headers held first count ≡ Some run)
whole_run headers told first done count run le so_far held is =
    let none : count - done ≡ 0 = omega (arith, le) in
    so_far held is ∙ ap (λ (k : ℕ). option_map (λ rest. run ++ rest) (due_run headers held (first + done) k)) none ∙ ap Some (append-nil run)

-- nothing was read yet
pub first_run : (headers : List Header) (told : Option (List ℕ)) (first count : ℕ)
    → WhereTold told (λ held. due_run headers held first count ≡ option_map (λ rest. [] ++ rest) (due_run headers held (first + 0) (count - 0)))
first_run headers told first count held is =
    let at : first ≡ first + 0 = omega arith in
    let left : count ≡ count - 0 = omega arith in
    same (due_run headers held first count) ∙ ap (λ (k : ℕ). option_map (λ rest. [] ++ rest) (due_run headers held k count)) at
    ∙ ap (λ (k : ℕ). option_map (λ rest. [] ++ rest) (due_run headers held (first + 0) k)) left
  where
    same : (o : Option (List ℕ)) → o ≡ option_map (λ (rest : List ℕ). [] ++ rest) o
    same None = refl
    same (Some rest) = refl

-- a page that is not due
pub broken_run : (headers : List Header) (told : Option (List ℕ)) (first done count : ℕ) (run : List ℕ) → done < count → WhereTold told (λ held. due_piece headers held (first + done) ≡ None)
    → WhereTold told
    (λ held. due_run headers held first count ≡ option_map (λ rest. run ++ rest) (due_run headers held (first + done) (count - done)))
    → WhereTold told (λ held. due_run headers held first count ≡ None)
broken_run headers told first done count run lt broken so_far held is =
    so_far held is ∙ ap (option_map (λ rest. run ++ rest)) (none (first + done) (count - done) (omega (arith, lt)) (broken held is))
  where
    none : (at left : ℕ) → 0 < left → due_piece headers held at ≡ None → due_run headers held at left ≡ None
    none at zero some e = absurd (omega (arith, some))
    none at (suc n) some e = ap (option_and_then (λ p. option_map (λ run. p ++ run) (due_run headers held (suc at) n))) e

-- what always holds holds at a refusal
pub on_err : {T E P : Type 0} (r : Result T E) → P → OnErr r P
on_err (Ok x) p = tt
on_err (Err e) p = p
