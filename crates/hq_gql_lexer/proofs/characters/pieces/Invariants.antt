use Rattle.std.proofs.Common.{length, ◌-◌}
use Rattle.hq_gql_lexer.specs.Strings.{character_at}
use Rattle.hq_gql_lexer.proofs.StepsLemmas.{IsMade}
use Rattle.hq_gql_lexer.proofs.characters.pieces.Given as goal

abbrev pub invariant-loop-done : goal.invariant-loop-done
invariant-loop-done l = IsMade (character_at l.kind) l.at l.done l.text l.value.items

abbrev pub decreases-loop-done : goal.decreases-loop-done
decreases-loop-done l = length l.text - l.done
