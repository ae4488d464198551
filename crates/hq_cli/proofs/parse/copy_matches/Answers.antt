use Rattle.std.proofs.Common.{◌≡◌, true, refl, sym, subst}
use Rattle.clap.specs.Words.{App, fault_of, is_simple_and_free, matches_of}
use Rattle.hq_cli.specs.Grammar.{copy_app, copy_faults, copy_rows}
use Rattle.hq_cli.specs.Parsing.{Parses}
use Rattle.hq_cli.proofs.parse.copy_matches.Goals as goal

is_simple : is_simple_and_free copy_app ≡ true
is_simple = refl

pub parse-requires : goal.parse-requires
parse-requires c = subst (λ (a : App). is_simple_and_free a ≡ true) (sym c.in-Ok.ensures) is_simple

pub returns : goal.returns
unfolding copy_faults copy_rows
returns c = subst (λ (a : App). Parses (fault_of a c.args.words.now) (matches_of a c.args.words.now) c.parse.result) c.in-Ok.ensures c.parse.ensures
