use Rattle.std.proofs.Common.{◌++◌, ◌∷◌, map, sym, ap, ◌∙◌}
use Rattle.std.specs.List.{flat_map, join_with_byte}
use Rattle.hq_gql_lexer.proofs.LinesLemmas.{join_cons}
use Rattle.hq_gql_lexer.proofs.lines.joined.Goals as goal

pub loop-line-init : goal.loop-line-init
loop-line-init c =
    let others = map (λ l. l.now) c.in-Some.others.now in
    ap (λ xs. xs ++ flat_map (λ l. 10 ∷ l) others) (c.in_ok-extend_from_slice.ensures.items ∙ ap (λ xs. xs ++ c.in-Some.first.now.now) c.new-out.ensures.items)
    ∙ sym (join_cons c.in-Some.first.now.now others)
    ∙ ap (λ ls. join_with_byte 10 (map (λ l. l.now) ls)) (sym c.in-Some.ensures.cases.0)
