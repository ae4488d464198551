use Rattle.std.proofs.Common.{◌≡◌, drop, map}
use Rattle.hq_gql_lexer.specs.BlockStrings.{common_indent}
use Rattle.hq_gql_lexer.proofs.LinesLemmas.{least_with}
use Rattle.hq_gql_lexer.proofs.lines.common_indent.Given as goal

-- the least so far, and the lines to come
abbrev pub invariant-loop-line : goal.invariant-loop-line
invariant-loop-line l =
    least_with l.least (common_indent (map (λ line. line.now) (drop l.line-index l.lines))) ≡ common_indent (map (λ line. line.now) l.lines)
