-- What pages hold.
use Rattle.std.specs.Prelude.{◌≡◌, ℕ, zero, suc, ◌*◌, List, [], ◌++◌, take, drop, Bool, false, slice_get, option_map}
use Rattle.std.specs.declared.option.Option.{Option}
use Rattle.std.specs.declared.option.Option.TheVariants.{None, Some}
use Rattle.std.specs.List.{list_all}
use Rattle.std.specs.Option.{option_and_then}
use Rattle.std.specs.Str.{bytes_eq}
use Rattle.hq_load_pages.specs.Pages.{piece_of}
use Rattle.hq_load_pages.specs.declared.header.Header.{Header}

-- the page of this number, of the bytes of a disk
abbrev pub page_at : List ℕ → (page : ℕ) → List ℕ
page_at held page = take 4096 (drop (4096 * page) held)

-- the piece that the page of this number has, where it is due
abbrev pub due_piece : List Header → List ℕ → (page : ℕ) → Option (List ℕ)
due_piece headers held page = option_and_then (λ due. piece_of due (page_at held page)) (slice_get headers page)

-- the run of so many pages from this one on: their pieces, one behind the other
abbrev pub due_run : List Header → List ℕ → (first count : ℕ) → Option (List ℕ)
due_run headers held first zero = Some []
due_run headers held first (suc count) = option_and_then (λ piece. option_map (λ run. piece ++ run) (due_run headers held (suc first) count)) (due_piece headers held first)

-- these bytes are the piece
abbrev pub is_piece : Option (List ℕ) → List ℕ → Bool
is_piece None bytes = false
is_piece (Some piece) bytes = bytes_eq piece bytes

-- each entry of a cache is the due piece of its page
abbrev pub are_pieces : {V : Type 0} → (V → List ℕ) → List Header → List ℕ → List (ℕ × V) → Bool
are_pieces bytes headers held entries = list_all (λ e. is_piece (due_piece headers held e.0) (bytes e.1)) entries

-- it is so of what a disk holds, where it is told
abbrev pub WhereTold : Option (List ℕ) → (List ℕ → Type 0) → Type 0
WhereTold told holds = (held : List ℕ) → told ≡ Some held → holds held
