use Rattle.std.proofs.Common.{◌≡◌, ◌<◌, ◌++◌, length, map, ◌∙◌, ap, arith}
use Rattle.std.proofs.lemmas.List.{map-append}
use Rattle.hq_gql_lexer.specs.BlockStrings.{lines_of}
use Rattle.hq_gql_lexer.proofs.LinesLemmas.{lines_end, lines_on}
use Rattle.hq_gql_lexer.proofs.lines.lines.Goals as goal

pub returns-then-is_empty : goal.returns-then-is_empty
returns-then-is_empty c =
    let none : length c.split_at.result.1.now ≡ 0 = grind arith in
    ap (map (λ l. l.now)) c.in_ok-push.ensures.items ∙ map-append (λ l. l.now) c.loop-lines.lines.items _
    ∙ lines_end _ _ _ _ _ _ c.loop-lines.invariant c.line_len.ensures.len c.split_at.ensures.front c.split_at.ensures.back none

pub loop-lines-preserved : goal.loop-lines-preserved
loop-lines-preserved c =
    let some : 0 < length c.split_at.result.1.now = grind arith in
    ap (λ ls. ls ++ lines_of c.after_line_end-rest.result.now) (ap (map (λ l. l.now)) c.in_ok-push.ensures.items ∙ map-append (λ l. l.now) c.loop-lines.lines.items _)
    ∙ lines_on _ _ _ _ _ c.after_line_end-rest.result.now _ c.loop-lines.invariant c.line_len.ensures.len c.split_at.ensures.front c.split_at.ensures.back some c.after_line_end-rest.ensures.lines
