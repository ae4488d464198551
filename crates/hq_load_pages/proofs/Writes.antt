-- Pages that are written behind others.
use Rattle.std.proofs.Common.{◌≡◌, ◌∙◌, ℕ, zero, suc, ◌+◌, ◌-◌, ◌*◌, ◌^◌, ◌<◌, ◌≤◌, ◌&&◌, Bool, true, false, cond, List, [], ◌∷◌, ◌++◌, take, drop, length, min, Option, Some, None, IsNone, IfSome, is_some, get_or, nat_eq, nat_le, nat_lt, refl, sym, ap, ap₂, subst, arith, append_assoc, length-append}
use Rattle.std.specs.Prelude.{slice_get, option_map, replicate}
use Rattle.std.specs.List.{list_all}
use Rattle.std.specs.Option.{option_and_then}
use Rattle.std.specs.Str.{bytes_eq}
use Rattle.std.proofs.lemmas.Bool.{and_parts, eqb-true, le-leb, lt-ltb}
use Rattle.std.proofs.lemmas.List.{append-nil, drop_all, length-drop, length-take, take_all}
use Rattle.hq_io.specs.Disks.{Holds}
use Rattle.hq_model.specs.Database.{Row, are_rows, is_database}
use Rattle.hq_model.specs.declared.table.Table.{Table}
use Rattle.hq_load_pages.specs.Directory.{are_inside, rows_of_run, table_read, tables_read}
use Rattle.hq_load_pages.specs.DiskPages.{Grows, disk_pages, page_bytes, pages_from, rows_bytes, run_pages}
use Rattle.hq_load_pages.specs.Held.{due_piece, due_run, page_at, WhereTold}
use Rattle.hq_load_pages.specs.Pages.{header_bytes, bytes_of_header, page_of, piece_of}
use Rattle.hq_load_pages.specs.Writes.{Stores, Wrote, WroteRows}
use Rattle.hq_load_pages.specs.declared.header.Header.{Header}
use Rattle.hq_load_pages.specs.declared.table_run.TableRun.{TableRun}

-- ---- what stands at a place stays there

take_stays : (n : ℕ) (xs ys : List ℕ) → length (take n xs) ≡ n → take n (xs ++ ys) ≡ take n xs
take_stays zero xs ys e = refl
take_stays (suc n) [] ys e = absurd (omega (arith, e))
take_stays (suc n) (x ∷ xs) ys e = ap (λ (zs : List ℕ). x ∷ zs) (take_stays n xs ys (omega (arith, e)))

drop_stays : (k n : ℕ) (xs ys : List ℕ) → length (take (suc n) (drop k xs)) ≡ suc n → take (suc n) (drop k (xs ++ ys)) ≡ take (suc n) (drop k xs)
drop_stays zero n xs ys e = take_stays (suc n) xs ys e
drop_stays (suc k) n [] ys e = absurd (omega (arith, e))
drop_stays (suc k) n (x ∷ xs) ys e = drop_stays k n xs ys e

get_stays : {X : Type 0} (xs ys : List X) (i : ℕ) (x : X) → slice_get xs i ≡ Some x → slice_get (xs ++ ys) i ≡ Some x
get_stays [] ys i x e = cc
get_stays (y ∷ xs) ys zero x e = e
get_stays (y ∷ xs) ys (suc i) x e = get_stays xs ys i x e

-- a page that is due is whole
page_whole : (d : Header) (page x : List ℕ) → piece_of d page ≡ Some x → length page ≡ 4096
page_whole d page x e = by (nat_eq (length page) 4096) refl e
  where
    by : (b : Bool) → nat_eq (length page) 4096 ≡ b
        → cond (b && bytes_eq (take 10 page) (bytes_of_header d) && list_all (λ b. nat_eq b 0) (drop (10 + d.length) page))
        (Some (take d.length (drop 10 page))) None
        ≡ Some x
        → length page ≡ 4096
    by true is e = eqb-true (length page) 4096 is
    by false is e = cc

piece_stays : (headers ds : List Header) (held more : List ℕ) (p : ℕ) (x : List ℕ) → due_piece headers held p ≡ Some x → due_piece (headers ++ ds) (held ++ more) p ≡ Some x
piece_stays headers ds held more p x e = by (slice_get headers p) refl e
  where
    by : (o : Option Header) → slice_get headers p ≡ o → option_and_then (λ due. piece_of due (page_at held p)) o ≡ Some x → due_piece (headers ++ ds) (held ++ more) p ≡ Some x
    by None is e = cc
    by (Some d) is e =
        ap (option_and_then (λ due. piece_of due (page_at (held ++ more) p))) (get_stays headers ds p d is)
        ∙ ap (piece_of d) (drop_stays (4096 * p) 4095 held more (page_whole d (page_at held p) x e)) ∙ e

-- the parts of a run
run_parts : (o p : Option (List ℕ)) (x : List ℕ) → option_and_then (λ piece. option_map (λ run. piece ++ run) p) o ≡ Some x → (a : List ℕ) × (b : List ℕ) × (o ≡ Some a) × (p ≡ Some b) × (a ++ b ≡ x)
run_parts None p x e = cc
run_parts (Some a) None x e = cc
run_parts (Some a) (Some b) x e = (a, b, refl, refl, cc)

run_whole : (o p : Option (List ℕ)) (a b : List ℕ) → o ≡ Some a → p ≡ Some b → option_and_then (λ piece. option_map (λ run. piece ++ run) p) o ≡ Some (a ++ b)
run_whole o p a b e f = rw (e, f) refl

run_stays : (headers ds : List Header) (held more : List ℕ) (f n : ℕ) (x : List ℕ) → due_run headers held f n ≡ Some x → due_run (headers ++ ds) (held ++ more) f n ≡ Some x
run_stays headers ds held more f zero x e = e
run_stays headers ds held more f (suc n) x e =
    let parts = run_parts (due_piece headers held f) (due_run headers held (suc f) n) x e in
    run_whole (due_piece (headers ++ ds) (held ++ more) f) (due_run (headers ++ ds) (held ++ more) (suc f) n) parts.0 parts.1
    (piece_stays headers ds held more f parts.0 parts.2) (run_stays headers ds held more (suc f) n parts.1 parts.3) ∙ ap Some parts.4

-- ---- what is written behind

get_behind : {X : Type 0} (xs ys : List X) (i : ℕ) → slice_get (xs ++ ys) (length xs + i) ≡ slice_get ys i
get_behind [] ys i = let e : 0 + i ≡ i = omega arith in ap (slice_get ys) e
get_behind (x ∷ xs) ys i = let e : suc (length xs) + i ≡ suc (length xs + i) = omega arith in ap (slice_get (x ∷ (xs ++ ys))) e ∙ get_behind xs ys i

drop_behind : (xs ys : List ℕ) (i : ℕ) → drop (length xs + i) (xs ++ ys) ≡ drop i ys
drop_behind [] ys i = let e : 0 + i ≡ i = omega arith in ap (λ (k : ℕ). drop k ys) e
drop_behind (x ∷ xs) ys i = let e : suc (length xs) + i ≡ suc (length xs + i) = omega arith in ap (λ (k : ℕ). drop k (x ∷ (xs ++ ys))) e ∙ drop_behind xs ys i

piece_behind : (headers ds : List Header) (held more : List ℕ) (i : ℕ) → length held ≡ 4096 * length headers → due_piece (headers ++ ds) (held ++ more) (length headers + i) ≡ due_piece ds more i
piece_behind headers ds held more i long =
    let at : 4096 * (length headers + i) ≡ length held + 4096 * i = omega (arith, long) in
    ap (option_and_then (λ due. piece_of due (page_at (held ++ more) (length headers + i)))) (get_behind headers ds i)
    ∙ ap (λ (xs : List ℕ). option_and_then (λ due. piece_of due (take 4096 xs)) (slice_get ds i)) (ap (λ (k : ℕ). drop k (held ++ more)) at ∙ drop_behind held more (4096 * i))

run_behind : (headers ds : List Header) (held more : List ℕ) (i n : ℕ) → length held ≡ 4096 * length headers → due_run (headers ++ ds) (held ++ more) (length headers + i) n ≡ due_run ds more i n
run_behind headers ds held more i zero long = refl
run_behind headers ds held more i (suc n) long =
    let next : suc (length headers + i) ≡ length headers + suc i = omega arith in
    ap₂ (λ o p. option_and_then (λ piece. option_map (λ run. piece ++ run) p) o) (piece_behind headers ds held more i long)
    (ap (λ (k : ℕ). due_run (headers ++ ds) (held ++ more) k n) next ∙ run_behind headers ds held more (suc i) n long)

-- two runs, one behind the other
run_join : (headers : List Header) (held : List ℕ) (f a b : ℕ) (x y : List ℕ) → due_run headers held f a ≡ Some x
    → due_run headers held (f + a) b ≡ Some y → due_run headers held f (a + b) ≡ Some (x ++ y)
run_join headers held f zero b x y e g =
    let at : f ≡ f + 0 = omega arith in
    let count : 0 + b ≡ b = omega arith in
    let none : [] ≡ x = cc in
    ap (λ (k : ℕ). due_run headers held f k) count ∙ ap (λ (k : ℕ). due_run headers held k b) at ∙ g ∙ ap (λ (xs : List ℕ). Some (xs ++ y)) none
run_join headers held f (suc a) b x y e g =
    let parts = run_parts (due_piece headers held f) (due_run headers held (suc f) a) x e in
    let at : f + suc a ≡ suc f + a = omega arith in
    let count : suc a + b ≡ suc (a + b) = omega arith in
    let later = run_join headers held (suc f) a b parts.1 y parts.3 (ap (λ (k : ℕ). due_run headers held k b) (sym at) ∙ g) in
    ap (λ (k : ℕ). due_run headers held f k) count ∙ run_whole (due_piece headers held f) (due_run headers held (suc f) (a + b)) parts.0 (parts.1 ++ y) parts.2 later
    ∙ ap Some (sym (append_assoc parts.0 parts.1 y) ∙ ap (λ (xs : List ℕ). xs ++ y) parts.4)

-- one item more of a list
pub take_next : {X : Type 0} (xs : List X) (i : ℕ) (x : X) → i < length xs → x ≡ get_or xs i x → take (i + 1) xs ≡ take i xs ++ x ∷ []
take_next [] i x lt is = absurd (omega (arith, lt))
take_next (y ∷ xs) zero x lt is = ap (λ z. z ∷ []) (sym is)
take_next (y ∷ xs) (suc i) x lt is =
    let e : suc i + 1 ≡ suc (i + 1) = omega arith in
    ap (λ (k : ℕ). take k (y ∷ xs)) e ∙ ap (λ zs. y ∷ zs) (take_next xs i x (omega (arith, lt)) is)

-- ---- what was written

-- nothing yet
pub wrote_none : (old : Option (List ℕ)) (headers : List Header) → WhereTold old (Wrote old headers headers [])
wrote_none old headers held is = (held, [], [], is, sym (append-nil headers), sym (append-nil held), refl, refl)

-- one piece behind others
pub wrote_more : (old mid new : Option (List ℕ)) (a b c : List Header) (x y : List ℕ) → WhereTold mid (Wrote old a b x) → WhereTold new (Wrote mid b c y) → WhereTold new (Wrote old a c (x ++ y))
wrote_more old mid new a b c x y first next held is =
    let n = next held is in
    let m = first n.0 n.3 in
    let ds = m.1 ++ n.1 in
    let pages = m.2 ++ n.2 in
    let stays = run_stays m.1 n.1 m.2 n.2 0 (length m.1) x m.7 in
    let behind = ap (λ (k : ℕ). due_run ds pages k (length n.1)) (let e : 0 + length m.1 ≡ length m.1 + 0 = omega arith in e) ∙ run_behind m.1 n.1 m.2 n.2 0 (length n.1) m.6 ∙ n.7 in (
      m.0,
      ds,
      pages,
      m.3,
      n.4 ∙ ap (λ xs. xs ++ n.1) m.4 ∙ append_assoc a m.1 n.1,
      n.5 ∙ ap (λ (xs : List ℕ). xs ++ n.2) m.5 ∙ append_assoc m.0 m.2 n.2,
      (let l = length-append m.2 n.2 in let k = length-append m.1 n.1 in omega (arith, l, k, m.6, n.6)),
      ap (due_run ds pages 0) (length-append m.1 n.1) ∙ run_join ds pages 0 (length m.1) (length n.1) x y stays behind,
    )

-- what is written at the end of a disk stands behind what it had
pub grows_one : (old new : Option (List ℕ)) (page : List ℕ) (at size : ℕ) → Holds old at page new → (IsNone old → IsNone new) → IfSome old (λ held. length held ≡ size) → at ≡ size → Grows old new page
grows_one None None page at size holds untold told place held is = cc
grows_one None (Some h) page at size holds untold told place held is = let bad = untold refl in cc
grows_one (Some b) None page at size holds untold told place held is = absurd holds
grows_one (Some b) (Some h) page at size holds untold told place held is =
    let same : held ≡ h = cc in
    let all : at ≡ length b = omega (arith, place, told) in
    let front : take at b ≡ b = ap (λ (k : ℕ). take k b) all ∙ take_all (length b) b (omega arith) in
    let rest : drop (at + length page) b ≡ [] = drop_all (at + length page) b (omega (arith, all)) in
    (b, refl, same ∙ holds ∙ ap₂ (λ (xs ys : List ℕ). xs ++ page ++ ys) front rest ∙ append-nil (b ++ page))

-- a page
pub wrote_one : (old new : Option (List ℕ)) (headers : List Header) (d : Header) (page piece : List ℕ) → Grows old new page → length page ≡ 4096
    → piece_of d page ≡ Some piece → WhereTold new (Wrote old headers (headers ++ d ∷ []) piece)
wrote_one old new headers d page piece grows whole back held is =
    let grown = grows held is in
    let one : due_piece (d ∷ []) page 0 ≡ Some piece = ap (piece_of d) (take_all 4096 page (omega (arith, whole))) ∙ back in
    (grown.0, d ∷ [], page, grown.1, refl, grown.2, whole, run_whole (due_piece (d ∷ []) page 0) (Some []) piece [] one refl ∙ ap Some (append-nil piece))

-- the bytes of the page of a piece
pub page_is : (d : Header) (p bytes : List ℕ) → bytes ≡ page_of d p → length p ≡ d.length → bytes ≡ page_bytes d.table d.piece p
page_is d p bytes is e = is ∙ ap (λ (n : ℕ). header_bytes d.table d.piece n ++ p ++ replicate (4086 - length p) 0) (sym e)

-- what is behind a cut at a bound, or at the end of a list
pub cut_back : (most n : ℕ) (xs : List ℕ) → n ≡ min most (length xs) → drop n xs ≡ drop most xs
cut_back zero n xs e = let none : n ≡ 0 = omega (arith, e) in rw none refl
cut_back (suc most) n [] e = let none : n ≡ 0 = omega (arith, e) in rw none refl
cut_back (suc most) n (x ∷ xs) e = let some : n ≡ suc (min most (length xs)) = omega (arith, e) in rw some (cut_back most (min most (length xs)) xs refl)

-- nothing, and pages behind pages
pub grows_none : (old : Option (List ℕ)) → Grows old old []
grows_none old held is = (held, is, sym (append-nil held))

pub grows_more : (old mid new : Option (List ℕ)) (x y : List ℕ) → Grows old mid x → Grows mid new y → Grows old new (x ++ y)
grows_more old mid new x y first next held is =
    let n = next held is in
    let m = first n.0 n.1 in
    (m.0, m.1, n.2 ∙ ap (λ (xs : List ℕ). xs ++ y) m.2 ∙ append_assoc m.0 x y)

-- the next page of a run
pub next_pages : (table piece most : ℕ) (done rest front behind whole : List ℕ) → 0 < length rest → length rest ≤ most
    → front ≡ take 4086 rest → behind ≡ drop 4086 rest → done ++ pages_from table piece most rest ≡ whole
    → (length behind ≤ most - 1) × ((done ++ page_bytes table piece front) ++ pages_from table (piece + 1) (most - 1) behind ≡ whole)
next_pages table piece most done [] front behind whole some le f b e = absurd (omega (arith, some))
next_pages table piece zero done (c ∷ rest) front behind whole some le f b e = absurd (omega (arith, le))
next_pages table piece (suc most) done (c ∷ rest) front behind whole some le f b e =
    let less : suc most - 1 ≡ most = omega arith in
    let next : piece + 1 ≡ suc piece = omega arith in
    let short : length behind ≤ suc most - 1 = (let l = length-drop 4086 (c ∷ rest) in let k = ap length b in omega (arith, l, k, le)) in
    (short, rw (f, b, less, next) (append_assoc done (page_bytes table piece (take 4086 (c ∷ rest))) (pages_from table (suc piece) most (drop 4086 (c ∷ rest))) ∙ e))

-- no byte is left of a run
pub last_pages : (table piece most : ℕ) (done rest whole : List ℕ) → length rest < 1 → done ++ pages_from table piece most rest ≡ whole → done ≡ whole
last_pages table piece most done rest whole none e =
    sym (append-nil done) ∙ ap (λ (xs : List ℕ). done ++ xs) (sym (empty most))
    ∙ ap (λ (xs : List ℕ). done ++ pages_from table piece most xs) (sym (nothing rest none)) ∙ e
  where
    nothing : (xs : List ℕ) → length xs < 1 → xs ≡ []
    nothing [] few = refl
    nothing (x ∷ xs) few = absurd (omega (arith, few))

    empty : (most : ℕ) → pages_from table piece most [] ≡ []
    empty zero = refl
    empty (suc most) = refl

-- the pages of a table more
disk_more : (table : ℕ) (all : List (List Row)) (rows : List Row) → disk_pages table (all ++ rows ∷ []) ≡ disk_pages table all ++ run_pages (table + length all) (rows_bytes rows)
disk_more table [] rows = let e : table ≡ table + 0 = omega arith in append-nil (run_pages table (rows_bytes rows)) ∙ ap (λ (n : ℕ). run_pages n (rows_bytes rows)) e
disk_more table (some ∷ all) rows =
    let e : suc table + length all ≡ table + suc (length all) = omega arith in
    ap (λ (xs : List ℕ). run_pages table (rows_bytes some) ++ xs) (disk_more (suc table) all rows ∙ ap (λ (n : ℕ). disk_pages (suc table) all ++ run_pages n (rows_bytes rows)) e)
    ∙ sym (append_assoc (run_pages table (rows_bytes some)) (disk_pages (suc table) all) (run_pages (table + suc (length all)) (rows_bytes rows)))

pub next_table : (old mid new : Option (List ℕ)) (all : List (List Row)) (i : ℕ) (rows : List Row) → i < length all
    → rows ≡ get_or all i rows → Grows old mid (disk_pages 0 (take i all)) → Grows mid new (run_pages i (rows_bytes rows))
    → Grows old new (disk_pages 0 (take (i + 1) all))
next_table old mid new all i rows lt at so_far next =
    let number : 0 + length (take i all) ≡ i = (let l = length-take i all in omega (arith, l, lt)) in
    let pages : disk_pages 0 (take (i + 1) all) ≡ disk_pages 0 (take i all) ++ run_pages i (rows_bytes rows) =
    ap (disk_pages 0) (take_next all i rows lt at) ∙ disk_more 0 (take i all) rows ∙ ap (λ (n : ℕ). disk_pages 0 (take i all) ++ run_pages n (rows_bytes rows)) number in
    subst (Grows old new) (sym pages) (grows_more old mid new (disk_pages 0 (take i all)) (run_pages i (rows_bytes rows)) so_far next)

-- the pages of all tables on a disk that was empty
pub all_pages : (old new : Option (List ℕ)) (all : List (List Row)) (i size : ℕ) → IfSome old (λ held. length held ≡ size) → size ≡ 0
    → length all ≤ i → Grows old new (disk_pages 0 (take i all)) → WhereTold new (λ held. held ≡ disk_pages 0 all)
all_pages old new all i size told none le grows held is =
    let g = grows held is in
    g.2 ∙ ap (λ (xs : List ℕ). xs ++ disk_pages 0 (take i all)) (empty old g.0 told g.1) ∙ ap (disk_pages 0) (take_all i all le)
  where
    empty : (o : Option (List ℕ)) (before : List ℕ) → IfSome o (λ held. length held ≡ size) → o ≡ Some before → before ≡ []
    empty None before told is = cc
    empty (Some []) before told is = cc
    empty (Some (b ∷ bs)) before told is = absurd (omega (arith, told, none))

-- ---- the rows of tables

tables_parts : (o : Option (List Row)) (p : Option (List (List Row))) (x : List (List Row))
    → option_and_then (λ rows. option_map (λ all. rows ∷ all) p) o ≡ Some x
    → (a : List Row) × (b : List (List Row)) × (o ≡ Some a) × (p ≡ Some b) × (a ∷ b ≡ x)
tables_parts None p x e = cc
tables_parts (Some a) None x e = cc
tables_parts (Some a) (Some b) x e = (a, b, refl, refl, cc)

tables_whole : (o : Option (List Row)) (p : Option (List (List Row))) (a : List Row) (b : List (List Row)) → o ≡ Some a → p ≡ Some b
    → option_and_then (λ rows. option_map (λ all. rows ∷ all) p) o ≡ Some (a ∷ b)
tables_whole o p a b e f = rw (e, f) refl

table_stays : (headers ds : List Header) (held more : List ℕ) (t : Table) (run : TableRun) (rows : List Row)
    → table_read headers held t run ≡ Some rows → table_read (headers ++ ds) (held ++ more) t run ≡ Some rows
table_stays headers ds held more t run rows e = by (due_run headers held run.first run.pages) refl e
  where
    by : (o : Option (List ℕ)) → due_run headers held run.first run.pages ≡ o → option_and_then (rows_of_run t run.rows) o ≡ Some rows → table_read (headers ++ ds) (held ++ more) t run ≡ Some rows
    by None is e = cc
    by (Some bytes) is e = ap (option_and_then (rows_of_run t run.rows)) (run_stays headers ds held more run.first run.pages bytes is) ∙ e

tables_stay : (headers ds : List Header) (held more : List ℕ) (ts : List Table) (runs : List TableRun) (all : List (List Row))
    → tables_read headers held ts runs ≡ Some all → tables_read (headers ++ ds) (held ++ more) ts runs ≡ Some all
tables_stay headers ds held more [] [] all e = e
tables_stay headers ds held more [] (r ∷ runs) all e = cc
tables_stay headers ds held more (t ∷ ts) [] all e = cc
tables_stay headers ds held more (t ∷ ts) (r ∷ runs) all e =
    let parts = tables_parts (table_read headers held t r) (tables_read headers held ts runs) all e in
    tables_whole (table_read (headers ++ ds) (held ++ more) t r) (tables_read (headers ++ ds) (held ++ more) ts runs) parts.0 parts.1
    (table_stays headers ds held more t r parts.0 parts.2) (tables_stay headers ds held more ts runs parts.1 parts.3) ∙ ap Some parts.4

-- a table more
tables_more : (headers : List Header) (held : List ℕ) (ts : List Table) (runs : List TableRun) (all : List (List Row)) (t : Table)
    (run : TableRun) (rows : List Row)
    → tables_read headers held ts runs ≡ Some all → table_read headers held t run ≡ Some rows
    → tables_read headers held (ts ++ t ∷ []) (runs ++ run ∷ []) ≡ Some (all ++ rows ∷ [])
tables_more headers held [] [] all t run rows e f =
    let none : [] ≡ all = cc in tables_whole (table_read headers held t run) (Some []) rows [] f refl
    ∙ ap (λ (xs : List (List Row)). Some (xs ++ rows ∷ [])) none
tables_more headers held [] (r ∷ runs) all t run rows e f = cc
tables_more headers held (u ∷ ts) [] all t run rows e f = cc
tables_more headers held (u ∷ ts) (r ∷ runs) all t run rows e f =
    let parts = tables_parts (table_read headers held u r) (tables_read headers held ts runs) all e in
    tables_whole (table_read headers held u r) (tables_read headers held (ts ++ t ∷ []) (runs ++ run ∷ [])) parts.0 (parts.1 ++ rows ∷ []) parts.2
    (tables_more headers held ts runs parts.1 t run rows parts.3 f)
    ∙ ap (λ (xs : List (List Row)). Some (xs ++ rows ∷ [])) parts.4

-- the rows of a table were written
pub stores_more : (old new : Option (List ℕ)) (headers more : List Header) (bytes : List ℕ) (runs : List TableRun) (ts : List Table)
    (all : List (List Row)) (t : Table) (run : TableRun) (rows : List Row)
    → WhereTold old (Stores headers runs ts all) → WhereTold new (Wrote old headers more bytes) → run.first ≡ length headers
    → run.first + run.pages ≡ length more → rows_of_run t run.rows bytes ≡ Some rows
    → WhereTold new (Stores more (runs ++ run ∷ []) (ts ++ t ∷ []) (all ++ rows ∷ []))
stores_more old new headers more bytes runs ts all t run rows stored wrote first pages back held is =
    let w = wrote held is in
    let s = stored w.0 w.3 in
    let count : run.pages ≡ length w.1 = (let e = ap length w.4 in let l = length-append headers w.1 in omega (arith, first, pages, e, l)) in
    let start : run.first ≡ length headers + 0 = omega (arith, first) in
    let bytes_there : due_run (headers ++ w.1) (w.0 ++ w.2) run.first run.pages ≡ Some bytes =
    ap (λ (k : ℕ). due_run (headers ++ w.1) (w.0 ++ w.2) k run.pages) start
    ∙ ap (due_run (headers ++ w.1) (w.0 ++ w.2) (length headers + 0)) count ∙ run_behind headers w.1 w.0 w.2 0 (length w.1) s.0 ∙ w.7 in
    let there : table_read (headers ++ w.1) (w.0 ++ w.2) t run ≡ Some rows = ap (option_and_then (rows_of_run t run.rows)) bytes_there ∙ back in
    let whole = tables_more (headers ++ w.1) (w.0 ++ w.2) ts runs all t run rows (tables_stay headers w.1 w.0 w.2 ts runs all s.1) there in
    let long : length (w.0 ++ w.2) ≡ 4096 * length (headers ++ w.1) = (let l = length-append w.0 w.2 in let k = length-append headers w.1 in omega (arith, l, k, s.0, w.6)) in
    (rw (w.5, w.4) long, rw (w.5, w.4) whole)

-- the run of a table more is among the pages
pub inside_more : (pages most : ℕ) (runs : List TableRun) (run : TableRun) → are_inside pages runs ≡ true → pages ≤ most
    → run.first + run.pages ≤ most → run.rows < 2 ^ 31 → are_inside most (runs ++ run ∷ []) ≡ true
inside_more pages most [] run e le inside few = rw (le-leb (run.first + run.pages) most inside, lt-ltb run.rows (2 ^ 31) few) refl
inside_more pages most (r ∷ runs) run e le inside few =
    let both = and_parts (nat_le (r.first + r.pages) pages && nat_lt r.rows (2 ^ 31)) (are_inside pages runs) e in
    let parts = and_parts (nat_le (r.first + r.pages) pages) (nat_lt r.rows (2 ^ 31)) both.0 in
    let here : r.first + r.pages ≤ pages = grind (arith, parts.0) in
    rw (le-leb (r.first + r.pages) most (omega (arith, here, le)), parts.1) (inside_more pages most runs run both.1 le inside few)

-- each table of a database has rows that are valid for it
pub rows_at : (ts : List Table) (all : List (List Row)) (t : ℕ) (table : Table) (rows : List Row) → is_database ts all ≡ true
    → t < length ts → table ≡ get_or ts t table → rows ≡ get_or all t rows → are_rows table rows ≡ true
rows_at [] all t table rows e lt is at = absurd (omega (arith, lt))
rows_at (x ∷ ts) [] t table rows e lt is at = cc
rows_at (x ∷ ts) (y ∷ all) zero table rows e lt is at = let both = and_parts (are_rows x y) (is_database ts all) e in rw (is, at) both.0
rows_at (x ∷ ts) (y ∷ all) (suc t) table rows e lt is at = let both = and_parts (are_rows x y) (is_database ts all) e in rows_at ts all t table rows both.1 (omega (arith, lt)) is at

-- a database has rows for each table
pub as_many : (ts : List Table) (all : List (List Row)) → is_database ts all ≡ true → length all ≡ length ts
as_many [] [] e = refl
as_many [] (y ∷ all) e = cc
as_many (x ∷ ts) [] e = cc
as_many (x ∷ ts) (y ∷ all) e = let both = and_parts (are_rows x y) (is_database ts all) e in ap suc (as_many ts all both.1)

-- an empty disk stores no table
pub stores_none : (told : Option (List ℕ)) (size : ℕ) → IfSome told (λ held. length held ≡ size) → size ≡ 0 → WhereTold told (Stores [] [] [] [])
stores_none None size told none held is = cc
stores_none (Some h) size told none held is = let same : h ≡ held = cc in (rw (← same) (omega (arith, told, none)), refl)

-- one table more of those of a database
pub stores_next : (old new : Option (List ℕ)) (headers more : List Header) (runs : List TableRun) (ts : List Table) (all : List (List Row)) (i : ℕ) (t : Table) (run : TableRun) (rows : List Row)
    → i < length ts → i < length all → t ≡ get_or ts i t → rows ≡ get_or all i rows
    → WhereTold old (Stores headers runs (take i ts) (take i all)) → WroteRows old new headers more t run rows → run.first ≡ length headers
    → run.first + run.pages ≡ length more
    → WhereTold new (Stores more (runs ++ run ∷ []) (take (i + 1) ts) (take (i + 1) all))
stores_next old new headers more runs ts all i t run rows lt below is at stored wrote first pages =
    rw (take_next ts i t lt is, take_next all i rows below at)
    (stores_more old new headers more wrote.0 runs (take i ts) (take i all) t run rows stored wrote.1 first pages wrote.2)

-- all tables are stored
pub stores_all : (told : Option (List ℕ)) (headers : List Header) (runs : List TableRun) (ts : List Table) (all : List (List Row)) (i : ℕ)
    → length ts ≤ i → length all ≤ i → WhereTold told (Stores headers runs (take i ts) (take i all)) → WhereTold told (Stores headers runs ts all)
stores_all told headers runs ts all i le below stored held is =
    ((stored held is).0, sym (ap (λ some. tables_read headers held some runs) (take_all i ts le)) ∙ (stored held is).1 ∙ ap Some (take_all i all below))

-- ---- what a disk tells

-- a disk tells its bytes after a write if it did before
pub told_kept : (old new : Option (List ℕ)) (at : ℕ) (piece : List ℕ) → Holds old at piece new → (IsNone old → IsNone new) → is_some new ≡ is_some old
told_kept None None at piece holds untold = refl
told_kept None (Some new) at piece holds untold = let bad : IsNone (Some new) = untold refl in absurd cc
told_kept (Some old) None at piece holds untold = absurd holds
told_kept (Some old) (Some new) at piece holds untold = refl
