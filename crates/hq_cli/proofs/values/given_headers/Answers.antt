use Rattle.std.proofs.Common.{◌≡◌, ◌∙◌, List, ℕ, [], codes, ap, subst, sym, Ok}
use Rattle.std.specs.Prelude.{Option, None, ok_or, unwrap_or}
use Rattle.clap.specs.Words.{Row, Text, all_of, found_of, rows_of}
use Rattle.clap.proofs.WalkLemmas.{raw_values-rows}
use Rattle.hq_base.specs.Due.{Gives}
use Rattle.hq_cli.specs.declared.refusal.WordsRefusal.TheVariants.{BadWords, Memory}
use Rattle.hq_cli.specs.Asked.{headers_of, header_words_in}
use Rattle.hq_cli.proofs.values.given_headers.Goals as goal

-- the words that are given, and none where none are
given_words : (o : Option (List Text)) (rows : List Row) → o ≡ all_of (codes "headers") rows → unwrap_or o [] ≡ header_words_in rows
given_words o rows e = ap (λ words. unwrap_or words []) e

pub returns-in-Some : goal.returns-in-Some
returns-in-Some c =
    let given = given_words _ (rows_of (found_of c.args.matches.now)) (c.in-Some.ensures ∙ raw_values-rows (found_of c.args.matches.now) (codes "headers")) in
    subst (λ (words : List (List ℕ)). Gives (λ headers. headers) Memory (ok_or (headers_of words) BadWords) c.headers_of.result) given c.headers_of.ensures

pub returns-in-None : goal.returns-in-None
returns-in-None c =
    let given = given_words None (rows_of (found_of c.args.matches.now)) (c.in-None.ensures ∙ raw_values-rows (found_of c.args.matches.now) (codes "headers")) in
    subst (λ (words : List (List ℕ)). ok_or (headers_of words) BadWords ≡ Ok c.new.result) given (ap Ok (sym c.new.ensures))
