use Rattle.std.proofs.Common.{◌≡◌, ◌++◌, ◌∷◌, [], map, sym, ◌∙◌}
use Rattle.std.proofs.lemmas.List.{map_push}
use Rattle.std.proofs.lemmas.Result.{err_from_is_err_and}
use Rattle.hq_gql_tree.specs.Values.{directive_view}
use Rattle.hq_gql_lexer.specs.declared.token.Punct.TheVariants.{At}
use Rattle.hq_gql_parser.specs.declared.lookahead.Lookahead.TheVariants as ahead
use Rattle.hq_gql_parser.specs.Lookahead.{is_at}
use Rattle.hq_gql_parser.specs.declared.lookahead.Lookahead.TheVariants as ahead
use Rattle.hq_gql_parser.proofs.Items.{item_takes}
use Rattle.hq_gql_parser.proofs.Loops.{stopped, parsed_more, finished}
use Rattle.hq_gql_parser.proofs.DirectiveLaws.{law_directive, directive_takes}
use Rattle.hq_gql_parser.proofs.directives.directives.Goals as goal

pub returns-in_err-one : goal.returns-in_err-one
returns-in_err-one c =
    let l = c.loop-alloc in
    let p = err_from_is_err_and c.from_residual.result c.from_residual.ensures.1 in
    rw (p.1, p.2)
    (stopped (law_directive c.args.constant c.args.depth) directive_takes (is_at (ahead.Punct At)) (map directive_view l.found.items)
    l.rest.now _ l.invariant (sym c.is_at.ensures ∙ c.loop-alloc-test.true) c.in_err-one.field-0.0 c.in_err-one.ensures)

pub loop-alloc-smaller : goal.loop-alloc-smaller
loop-alloc-smaller c = item_takes (law_directive c.args.constant c.args.depth) directive_takes c.loop-alloc.rest.now _ _ c.in_ok-one.ensures

pub loop-alloc-preserved : goal.loop-alloc-preserved
loop-alloc-preserved c =
    let l = c.loop-alloc in
    let e : map directive_view c.push.new.self.items ≡ map directive_view l.found.items ++ directive_view c.in_ok-one.one ∷ [] =
    rw c.in_ok-push.ensures.items (map_push _ l.found.items c.in_ok-one.one) in
    rw e
    (parsed_more (law_directive c.args.constant c.args.depth) directive_takes (is_at (ahead.Punct At)) (map directive_view l.found.items)
    l.rest.now _ l.invariant (sym c.is_at.ensures ∙ c.loop-alloc-test.true) _ _ c.in_ok-one.ensures)

pub returns : goal.returns
returns c =
    let l = c.loop-alloc in
    finished (law_directive c.args.constant c.args.depth) directive_takes (is_at (ahead.Punct At)) (map directive_view l.found.items)
    l.rest.now _ l.invariant (sym c.is_at.ensures ∙ c.loop-alloc-test.false)
