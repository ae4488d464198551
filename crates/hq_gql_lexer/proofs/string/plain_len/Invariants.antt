use Rattle.std.proofs.Common.{◌≡◌, ◌+◌, drop, false}
use Rattle.std.specs.Option.{option_map}
use Rattle.hq_gql_lexer.specs.Strings.{plain_len}
use Rattle.hq_gql_lexer.proofs.string.plain_len.Given as goal

-- no quote so far closes the string
abbrev pub invariant-loop-i : goal.invariant-loop-i
invariant-loop-i l = option_map (λ n. l.i + n) (plain_len l.taken (drop l.i l.bytes)) ≡ plain_len false l.bytes
