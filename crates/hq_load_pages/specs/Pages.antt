-- A page: a header of 10 bytes, a piece of a table's run, and zeros up to 4,096 bytes.
use Rattle.std.specs.Prelude.{ℕ, ◌-◌, ◌+◌, List, ◌++◌, length, take, drop, nat_eq, replicate, ◌&&◌, Option, Some, None, if◌then◌else◌}
use Rattle.std.specs.Int.{w16, w32, to_be_bytes}
use Rattle.std.specs.Str.{bytes_eq}
use Rattle.std.specs.List.{list_all}
use Rattle.hq_load_pages.specs.declared.header.Header.{Header}

-- the table's number, the piece's number and its length, high byte first
abbrev pub header_bytes : (table piece length : ℕ) → List ℕ
header_bytes table piece length = to_be_bytes w32 table ++ to_be_bytes w32 piece ++ to_be_bytes w16 length

-- the bytes of a header
abbrev pub bytes_of_header : Header → List ℕ
bytes_of_header d = header_bytes d.table d.piece d.length

-- the page of a piece
abbrev pub page_of : Header → List ℕ → List ℕ
page_of d piece = bytes_of_header d ++ piece ++ replicate (4086 - length piece) 0

-- the piece that a page holds, where it is the due page
abbrev pub piece_of : Header → List ℕ → Option (List ℕ)
piece_of d page =
    if nat_eq (length page) 4096 && bytes_eq (take 10 page) (bytes_of_header d) && list_all (λ b. nat_eq b 0) (drop (10 + d.length) page)
    then Some (take d.length (drop 10 page)) else None
