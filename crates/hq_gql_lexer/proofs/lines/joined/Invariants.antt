use Rattle.std.proofs.Common.{◌≡◌, ◌++◌, ◌∷◌, drop, map}
use Rattle.std.specs.List.{join_with_byte, flat_map}
use Rattle.hq_gql_lexer.proofs.lines.joined.Given as goal

-- the lines so far, and those to come, each behind a line feed
abbrev pub invariant-loop-line : goal.invariant-loop-line
invariant-loop-line l =
    l.out.items ++ flat_map (λ line. 10 ∷ line) (map (λ line. line.now) (drop l.line-index l.others)) ≡ join_with_byte 10 (map (λ line. line.now) l.lines)
