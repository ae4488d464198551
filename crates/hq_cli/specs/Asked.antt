-- What the words behind the program's name ask: the command's name, and words of its grammar. A header is `name: value`,
-- at most 64 are given, no secret and no role is empty, and a generated database has from 1 to 100,000 authors. Or they ask
-- for a page, by one word.
use Rattle.std.specs.Prelude.{◌≤◌, ℕ, List, [], ◌∷◌, length, Bool, true, false, ◌&&◌, nat_le, Option, Some, None, option_and_then, option_map, unwrap_or, cond, bytes_eq, codes, ⊤}
use Rattle.std.specs.Str.Parse.{digits_value, without_leading_plus}
use Rattle.clap.specs.Words.{Kinds, Row, Text, first_of, all_of, one_of}
use Rattle.hq_session.specs.Fields.{header_in}
use Rattle.hq_session.specs.declared.header.Header.{Header}
use Rattle.hq_cli.specs.declared.command.Command.{Command}
use Rattle.hq_cli.specs.declared.command.Command.TheVariants.{Query, Sql, Explain, Confine, Copy, Check, Serve, Live, Gen, Show}
use Rattle.hq_cli.specs.Grammar.{request_faults, request_rows, query_faults, query_rows, copy_faults, copy_rows, check_faults, check_rows, serve_faults, serve_rows, live_faults, live_rows, gen_faults, gen_rows}
use Rattle.hq_cli.specs.Pages.{page_named}

-- the words are in the grammar
abbrev pub are_taken : Kinds → Bool
are_taken [] = true
are_taken (kind ∷ kinds) = false

-- ---- what the rows say

abbrev pub dir_in : List Row → Option Text
dir_in rows = first_of (codes "dir") rows

abbrev pub header_words_in : List Row → List Text
header_words_in rows = unwrap_or (all_of (codes "headers") rows) []

abbrev pub part_in : List Row → Option Text
part_in rows = first_of (codes "part") rows

-- the number of an option
abbrev pub number_in : (id : Text) → List Row → Option ℕ
number_in id rows = option_map (λ text. digits_value 10 (without_leading_plus text)) (one_of id rows)

-- whether pages are asked for
abbrev pub says_true : Option Text → Bool
says_true None = false
says_true (Some text) = bytes_eq text (codes "true")

abbrev pub is_paged_in : List Row → Bool
is_paged_in rows = says_true (first_of (codes "paged") rows)

-- the headers of these words, where each is one
abbrev pub headers_in : List Text → Option (List Header)
headers_in [] = Some []
headers_in (word ∷ words) = option_and_then (λ h. option_map (λ hs. h ∷ hs) (headers_in words)) (header_in word)

-- at most 64 are given
abbrev pub headers_of : List Text → Option (List Header)
headers_of words = cond (nat_le (length words) 64) (headers_in words) None

-- an option's text, where it is given, and none that is empty
abbrev pub filled : Option Text → Option (Option Text)
filled None = Some None
filled (Some []) = None
filled (Some (b ∷ bs)) = Some (Some (b ∷ bs))

-- so many authors are generated
abbrev pub are_few : ℕ → Bool
are_few n = nat_le 1 n && nat_le n 100000

-- ---- the commands

-- the directory and the headers of a request
abbrev pub request_in : List Row → Option (Text × List Header)
request_in rows = option_and_then (λ dir. option_map (λ headers. (dir, headers)) (headers_of (header_words_in rows))) (dir_in rows)

abbrev pub request_of : List Text → Option (Text × List Header)
request_of words = cond (are_taken (request_faults words)) (request_in (request_rows words)) None

abbrev pub query_in : List Row → Option Command
query_in rows = option_map (λ r. Query r.0 r.1 (is_paged_in rows)) (request_in rows)

abbrev pub query_of : List Text → Option Command
query_of words = cond (are_taken (query_faults words)) (query_in (query_rows words)) None

-- a copy's part of a directory, for the session of the headers
abbrev pub copy_with : (request : Option (Text × List Header)) → (part : Option Text) → Option Command
copy_with request part = option_and_then (λ r. option_map (λ p. Copy r.0 p r.1) part) request

abbrev pub copy_in : List Row → Option Command
copy_in rows = copy_with (request_in rows) (part_in rows)

abbrev pub copy_of : List Text → Option Command
copy_of words = cond (are_taken (copy_faults words)) (copy_in (copy_rows words)) None

abbrev pub check_of : List Text → Option Command
check_of words = cond (are_taken (check_faults words)) (option_map Check (dir_in (check_rows words))) None

-- a command that serves, of its parts
abbrev pub serve_with : (dir : Option Text) → (port connections : Option ℕ) → (secret unauthorized : Option (Option Text)) → (paged : Bool) → Option Command
serve_with dir port connections secret unauthorized paged =
    option_and_then (λ d. option_and_then (λ p. option_and_then (λ n. option_and_then (λ s. option_map (λ u. Serve d p n s u paged) unauthorized) secret) connections) port) dir

abbrev pub serve_in : List Row → Option Command
serve_in rows =
    serve_with (dir_in rows) (number_in (codes "port") rows) (number_in (codes "connections") rows)
    (filled (first_of (codes "admin-secret") rows)) (filled (first_of (codes "unauthorized-role") rows)) (is_paged_in rows)

abbrev pub serve_of : List Text → Option Command
serve_of words = cond (are_taken (serve_faults words)) (serve_in (serve_rows words)) None

-- a command that talks, of its parts
abbrev pub live_with : (dir : Option Text) → (port connections : Option ℕ) → (secret unauthorized : Option (Option Text)) → Option Command
live_with dir port connections secret unauthorized =
    option_and_then (λ d. option_and_then (λ p. option_and_then (λ n. option_and_then (λ s. option_map (λ u. Live d p n s u) unauthorized) secret) connections) port) dir

abbrev pub live_in : List Row → Option Command
live_in rows =
    live_with (dir_in rows) (number_in (codes "port") rows) (number_in (codes "connections") rows)
    (filled (first_of (codes "admin-secret") rows)) (filled (first_of (codes "unauthorized-role") rows))

abbrev pub live_of : List Text → Option Command
live_of words = cond (are_taken (live_faults words)) (live_in (live_rows words)) None

-- a command that generates so many authors, where they are few
abbrev pub gen_with : ℕ → Option Command
gen_with n = cond (are_few n) (Some (Gen n)) None

abbrev pub gen_in : List Row → Option Command
gen_in rows = option_and_then gen_with (number_in (codes "authors") rows)

abbrev pub gen_of : List Text → Option Command
gen_of words = cond (are_taken (gen_faults words)) (gen_in (gen_rows words)) None

-- the page of this name, with no word behind it
abbrev pub page_of : (name : Text) → List Text → Option Command
page_of name [] = option_map Show (page_named name)
page_of name (word ∷ words) = None

-- the command of this name with these words
abbrev pub command_named : (name : Text) → List Text → Option Command
command_named name words =
    cond (bytes_eq name (codes "query")) (query_of words) (
    cond (bytes_eq name (codes "sql")) (option_map (λ r. Sql r.0 r.1) (request_of words)) (
    cond (bytes_eq name (codes "explain")) (option_map (λ r. Explain r.0 r.1) (request_of words)) (
    cond (bytes_eq name (codes "confine")) (option_map (λ r. Confine r.0 r.1) (request_of words)) (
    cond (bytes_eq name (codes "copy")) (copy_of words) (
    cond (bytes_eq name (codes "check")) (check_of words) (
    cond (bytes_eq name (codes "serve")) (serve_of words) (
    cond (bytes_eq name (codes "live")) (live_of words) (
    cond (bytes_eq name (codes "gen")) (gen_of words) (page_of name words)))))))))

-- the command that words ask for
abbrev pub command_of : List Text → Option Command
command_of [] = None
command_of (name ∷ words) = command_named name words

-- the authors that a command generates are few
abbrev pub HasFewAuthors : Command → Type 0
HasFewAuthors (Gen n) = (1 ≤ n) × (n ≤ 100000)
HasFewAuthors command = ⊤
