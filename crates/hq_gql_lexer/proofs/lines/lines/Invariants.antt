use Rattle.std.proofs.Common.{◌≡◌, ◌++◌, length, map}
use Rattle.hq_gql_lexer.specs.BlockStrings.{lines_of}
use Rattle.hq_gql_lexer.proofs.lines.lines.Given as goal

-- the lines so far, and those to come
abbrev pub invariant-loop-lines : goal.invariant-loop-lines
invariant-loop-lines l = map (λ line. line.now) l.lines.items ++ lines_of l.rest ≡ lines_of l.text

abbrev pub decreases-loop-lines : goal.decreases-loop-lines
decreases-loop-lines l = length l.rest
