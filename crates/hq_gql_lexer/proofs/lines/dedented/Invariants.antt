use Rattle.std.proofs.Common.{◌≡◌, ◌++◌, drop, map}
use Rattle.hq_gql_lexer.specs.BlockStrings.{dedented}
use Rattle.hq_gql_lexer.proofs.lines.dedented.Given as goal

-- the lines so far, and those to come without their indentation
abbrev pub invariant-loop-line : goal.invariant-loop-line
invariant-loop-line l =
    map (λ line. line.now) l.out.items ++ map (drop l.indent) (map (λ line. line.now) (drop l.line-index l.others)) ≡ dedented (map (λ line. line.now) l.lines)
