-- What a pin of a table leaves of what is known of a store.
use Rattle.std.proofs.Common.{◌≡◌, ◌∙◌, ℕ, zero, suc, ◌+◌, ◌*◌, ◌^◌, ◌<◌, ◌≤◌, ◌&&◌, true, false, List, [], ◌∷◌, length, get_or, Option, Some, None, nat_le, nat_lt, refl, sym, ap, subst, inl, inr, arith}
use Rattle.std.specs.Prelude.{slice_get, slice_set, slice_index_or, option_map}
use Rattle.std.specs.List.{list_all}
use Rattle.std.specs.Option.{option_and_then}
use Rattle.std.proofs.lemmas.Bool.{and_parts, false≢true}
use Rattle.std.proofs.lemmas.Bool.Decides.{eqb_tells}
use Rattle.hq_model.specs.Catalog.{is_table}
use Rattle.hq_model.specs.Database.{Row, are_rows, is_database}
use Rattle.hq_model.specs.declared.table.Table.{Table}
use Rattle.hq_load_pages.specs.Directory.{are_inside, reads_database, reads_rows, table_read, tables_read}
use Rattle.hq_load_pages.specs.Held.{WhereTold}
use Rattle.hq_load_pages.specs.Counts.{more, Rises}
use Rattle.hq_load_pages.specs.Pins.{pin_at, PinsFit, PinsOf}
use Rattle.hq_load_pages.specs.Touch.{missed_from, touched_from, TouchesSome}
use Rattle.hq_load_pages.specs.declared.header.Header.{Header}
use Rattle.hq_load_pages.specs.declared.table_run.TableRun.{TableRun}

-- ---- places of lists

-- what was put at a place, and what stands at the others
set_here : {X : Type 0} (xs : List X) (t : ℕ) (x d : X) → t < length xs → get_or (slice_set xs t x) t d ≡ x
set_here [] t x d lt = absurd (omega (arith, lt))
set_here (y ∷ xs) zero x d lt = refl
set_here (y ∷ xs) (suc t) x d lt = set_here xs t x d (omega (arith, lt))

set_other : {X : Type 0} (xs : List X) (t u : ℕ) (x d : X) → (u ≡ t → ⊥) → get_or (slice_set xs t x) u d ≡ get_or xs u d
set_other [] t u x d ne = refl
set_other (y ∷ xs) zero zero x d ne = absurd (ne refl)
set_other (y ∷ xs) zero (suc u) x d ne = refl
set_other (y ∷ xs) (suc t) zero x d ne = refl
set_other (y ∷ xs) (suc t) (suc u) x d ne = set_other xs t u x d (λ e. ne (ap suc e))

pub length_set : {X : Type 0} (xs : List X) (t : ℕ) (x : X) → length (slice_set xs t x) ≡ length xs
length_set [] t x = refl
length_set (y ∷ xs) zero x = refl
length_set (y ∷ xs) (suc t) x = ap suc (length_set xs t x)

-- one item is at a place
one_item : {X : Type 0} (o : Option X) (x y : X) → o ≡ Some x → o ≡ Some y → x ≡ y
one_item o x y e f = cc

-- ---- what the cache went through

pub touches_here : (runs : List TableRun) (t room : ℕ) (old new : List ℕ) (r : TableRun) → slice_get runs t ≡ Some r
    → new ≡ touched_from r.first r.pages room old → (run : TableRun) → slice_get runs t ≡ Some run
    → new ≡ touched_from run.first run.pages room old
touches_here runs t room old new r is e run there = e ∙ ap (λ x. touched_from x.first x.pages room old) (one_item (slice_get runs t) r run is there)

pub reads_here : (runs : List TableRun) (t room : ℕ) (pages : List ℕ) (old new : Option ℕ) (r : TableRun) → slice_get runs t ≡ Some r
    → Rises old new (missed_from r.first r.pages room pages) → (run : TableRun) → slice_get runs t ≡ Some run
    → Rises old new (missed_from run.first run.pages room pages)
reads_here runs t room pages old new r is e run there = e ∙ ap (λ x. option_map (λ c. more c (missed_from x.first x.pages room pages)) old) (one_item (slice_get runs t) r run is there)

pub first_here : (runs : List TableRun) (t room : ℕ) (old new : List ℕ) (r : TableRun) → slice_get runs t ≡ Some r
    → TouchesSome r.first r.pages room old new → (run : TableRun) → slice_get runs t ≡ Some run → TouchesSome run.first run.pages room old new
first_here runs t room old new r is e run there = subst (λ x. TouchesSome x.first x.pages room old new) (one_item (slice_get runs t) r run is there) e

-- ---- how large the run of a table is

-- a table of a catalog has at most 200 columns
columns_few : (tables : List Table) (t : Table) → is_table tables t ≡ true → length t.columns ≤ 200
columns_few tables t e = grind arith

pub table_few : (tables some : List Table) (t : ℕ) (table : Table) → list_all (is_table tables) some ≡ true → t < length some → slice_get some t ≡ Some table → length table.columns ≤ 200
table_few tables [] t table e lt is = absurd (omega (arith, lt))
table_few tables (x ∷ some) zero table e lt is = let both = and_parts (is_table tables x) (list_all (is_table tables) some) e in let here : x ≡ table = cc in rw (← here) (columns_few tables x both.0)
table_few tables (x ∷ some) (suc t) table e lt is = let both = and_parts (is_table tables x) (list_all (is_table tables) some) e in table_few tables some t table both.1 (omega (arith, lt)) is

-- ---- what is read of all tables and of one

-- what is read of all tables has what is read of each
read_at : (headers : List Header) (held : List ℕ) (ts : List Table) (runs : List TableRun) (all : List (List Row)) (t : ℕ) (table : Table)
    (run : TableRun)
    → tables_read headers held ts runs ≡ Some all → t < length ts → slice_get ts t ≡ Some table → slice_get runs t ≡ Some run
    → table_read headers held table run ≡ Some (slice_index_or all t [])
read_at headers held [] runs all t table run e lt is at = absurd (omega (arith, lt))
read_at headers held (x ∷ ts) [] all t table run e lt is at = cc
read_at headers held (x ∷ ts) (r ∷ runs) all t table run e lt is at =
    by (table_read headers held x r) (tables_read headers held ts runs) refl refl e (λ rest i f. read_at headers held ts runs rest i table run f) t lt is at
  where
    by : (o : Option (List Row)) (p : Option (List (List Row))) → table_read headers held x r ≡ o → tables_read headers held ts runs ≡ p
        → option_and_then (λ rows. option_map (λ all. rows ∷ all) p) o ≡ Some all
        →
        ((rest : List (List Row)) (i : ℕ) → tables_read headers held ts runs ≡ Some rest → i < length ts → slice_get ts i ≡ Some table
        → slice_get runs i ≡ Some run → table_read headers held table run ≡ Some (slice_index_or rest i []))
        → (t : ℕ) → t < length (x ∷ ts) → slice_get (x ∷ ts) t ≡ Some table → slice_get (r ∷ runs) t ≡ Some run
        → table_read headers held table run ≡ Some (slice_index_or all t [])
    by None p e f g later t lt is at = cc
    by (Some rows) None e f g later t lt is at = cc
    by (Some rows) (Some rest) e f g later zero lt is at = let same : rows ∷ rest ≡ all = cc in let here : x ≡ table = cc in let there : r ≡ run = cc in rw (← same, ← here, ← there) e
    by (Some rows) (Some rest) e f g later (suc t) lt is at = let same : rows ∷ rest ≡ all = cc in rw (← same) (later rest t f (omega (arith, lt)) is at)

-- where all tables read as a database, each reads as rows of its own
reads_at : (headers : List Header) (held : List ℕ) (ts : List Table) (runs : List TableRun) (t : ℕ) (table : Table) (run : TableRun)
    → reads_database ts (tables_read headers held ts runs) ≡ true → t < length ts → slice_get ts t ≡ Some table → slice_get runs t ≡ Some run
    → reads_rows table (table_read headers held table run) ≡ true
reads_at headers held ts runs t table run e lt is at = by (tables_read headers held ts runs) refl e
  where
    valid : (ts : List Table) (all : List (List Row)) (t : ℕ) → is_database ts all ≡ true → t < length ts → slice_get ts t ≡ Some table → are_rows table (slice_index_or all t []) ≡ true
    valid [] all t e lt is = absurd (omega (arith, lt))
    valid (x ∷ ts) [] t e lt is = absurd (false≢true e)
    valid (x ∷ ts) (rows ∷ all) zero e lt is = let both = and_parts (are_rows x rows) (is_database ts all) e in let here : x ≡ table = cc in rw (← here) both.0
    valid (x ∷ ts) (rows ∷ all) (suc t) e lt is = let both = and_parts (are_rows x rows) (is_database ts all) e in valid ts all t both.1 (omega (arith, lt)) is

    by : (o : Option (List (List Row))) → tables_read headers held ts runs ≡ o → reads_database ts o ≡ true → reads_rows table (table_read headers held table run) ≡ true
    by None f e = absurd (false≢true e)
    by (Some all) f e = rw (read_at headers held ts runs all t table run f lt is at) (valid ts all t e lt is)

-- ---- what is known of a store after a pin

-- the rows of one table more
pub pins_fit : (tables : List Table) (pins : List (Option (List Row))) (t : ℕ) (table : Table) (rows : List Row) → PinsFit tables pins
    → t < length pins → slice_get tables t ≡ Some table → are_rows table rows ≡ true → PinsFit tables (slice_set pins t (Some rows))
pins_fit tables pins t table rows fit lt is valid u other others there pin = elim (eqb_tells u t) [
  | inl same ↦ (
      let here : u ≡ t = same.1 in
      let pin' : Some rows ≡ Some others = sym (set_here pins t (Some rows) None lt) ∙ ap (pin_at (slice_set pins t (Some rows))) (sym here) ∙ pin in
      let one : rows ≡ others = cc in
      let which : table ≡ other = one_item (slice_get tables t) table other is (ap (slice_get tables) (sym here) ∙ there) in
      rw (← which, ← one) valid
      )
  | inr ne ↦ fit u other others there (sym (set_other pins t u (Some rows) None ne.1) ∙ pin)
]

pub pins_of : (told : Option (List ℕ)) (headers : List Header) (tables : List Table) (runs : List TableRun) (pins : List (Option (List Row))) (t : ℕ) (table : Table) (run : TableRun) (rows : List Row)
    → WhereTold told (λ held. PinsOf (tables_read headers held tables runs) pins) → t < length pins → t < length tables
    → slice_get tables t ≡ Some table → slice_get runs t ≡ Some run → WhereTold told (λ held. table_read headers held table run ≡ Some rows)
    → WhereTold told (λ held. PinsOf (tables_read headers held tables runs) (slice_set pins t (Some rows)))
pins_of told headers tables runs pins t table run rows old lt inside is at read held is_held all u others e pin = elim (eqb_tells u t) [
  | inl same ↦ (
      let here : u ≡ t = same.1 in
      let pin' : Some rows ≡ Some others = sym (set_here pins t (Some rows) None lt) ∙ ap (pin_at (slice_set pins t (Some rows))) (sym here) ∙ pin in
      let one : rows ≡ others = cc in
      let both : Some rows ≡ Some (slice_index_or all t []) = sym (read held is_held) ∙ read_at headers held tables runs all t table run e inside is at in
      let found : rows ≡ slice_index_or all t [] = cc in
      sym one ∙ found ∙ ap (λ n. slice_index_or all n []) (sym here)
      )
  | inr ne ↦ old held is_held all u others e (sym (set_other pins t u (Some rows) None ne.1) ∙ pin)
]

-- the disk has what it had
pub moved : {P : List ℕ → Type 0} (old new : Option (List ℕ)) → new ≡ old → WhereTold old P → WhereTold new P
moved old new e h held is = h held (sym e ∙ is)

-- over a told disk each table reads
pub never_broken : (told : Option (List ℕ)) (headers : List Header) (tables : List Table) (runs : List TableRun) (t : ℕ) (table : Table)
    (run : TableRun) (n : ℕ)
    → WhereTold told (λ held. reads_database tables (tables_read headers held tables runs) ≡ true) → t < length tables
    → slice_get tables t ≡ Some table → slice_get runs t ≡ Some run
    → WhereTold told (λ held. reads_rows table (table_read headers held table run) ≡ false) → WhereTold told (λ _. n ≡ 0)
never_broken told headers tables runs t table run n readable lt is at broken held is_held =
    absurd (false≢true (sym (broken held is_held) ∙ reads_at headers held tables runs t table run (readable held is_held) lt is at))

-- ---- the run of one table

-- its pages are there, and it has few rows
pub inside_at : (pages : ℕ) (runs : List TableRun) (t : ℕ) (run : TableRun) → are_inside pages runs ≡ true → slice_get runs t ≡ Some run → (run.first + run.pages ≤ pages) × (run.rows < 2 ^ 31)
inside_at pages [] t run e is = cc
inside_at pages (r ∷ runs) zero run e is =
    let both = and_parts (nat_le (r.first + r.pages) pages && nat_lt r.rows (2 ^ 31)) (are_inside pages runs) e in
    let parts = and_parts (nat_le (r.first + r.pages) pages) (nat_lt r.rows (2 ^ 31)) both.0 in
    let here : r ≡ run = cc in
    rw (← here) (grind (arith, parts.0), grind (arith, parts.1))
inside_at pages (r ∷ runs) (suc t) run e is =
    let both = and_parts (nat_le (r.first + r.pages) pages && nat_lt r.rows (2 ^ 31)) (are_inside pages runs) e in
    inside_at pages runs t run both.1 is

-- few rows of few columns have few cells
pub cells_few : (rows columns : ℕ) → rows < 2 ^ 31 → columns ≤ 200 → rows * columns < 2 ^ 63
cells_few rows columns few narrow = grind (arith, few, narrow)
