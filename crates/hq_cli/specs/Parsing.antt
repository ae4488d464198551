-- What a parse of words answers.
use Rattle.std.specs.Prelude.{◌≡◌, ◌⊎◌, List, true, false, Result, Ok, Err}
use Rattle.clap.specs.Words.{Kinds, Row, rows_of, found_of}
use Rattle.clap.specs.declared.parser.matches.ArgMatches.{ArgMatches}
use Rattle.hq_session.specs.declared.headers.HeadersRefusal.{HeadersRefusal}
use Rattle.hq_session.specs.declared.headers.HeadersRefusal.TheVariants as headers
use Rattle.hq_cli.specs.declared.refusal.WordsRefusal.{WordsRefusal}
use Rattle.hq_cli.specs.declared.refusal.WordsRefusal.TheVariants.{BadWords, Memory}
use Rattle.hq_cli.specs.Asked.{are_taken}

-- the words are in the grammar, and the matches say what they say; or they are not, or memory is wanted
abbrev pub Parses : Kinds → List Row → Result ArgMatches WordsRefusal → Type 0
Parses faults rows (Ok matches) = (are_taken faults ≡ true) × (rows_of (found_of matches) ≡ rows)
Parses faults rows (Err e) = (e ≡ Memory) ⊎ (e ≡ BadWords) × (are_taken faults ≡ false)

-- more headers than a request may have are bad words
abbrev pub of_headers : HeadersRefusal → WordsRefusal
of_headers headers.TooMany = BadWords
of_headers headers.Memory = Memory
