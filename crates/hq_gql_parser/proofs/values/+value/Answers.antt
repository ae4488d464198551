use Rattle.std.proofs.Common.{◌≡◌, ◌<◌, ◌++◌, ◌∷◌, [], map, inr, sym, subst, ap, ◌∙◌, Err, arith}
use Rattle.std.proofs.lemmas.List.{map_push}
use Rattle.std.proofs.lemmas.Result.{err_from_is_err_and}
use Rattle.hq_base.specs.Due.{Gives}
use Rattle.hq_gql_lexer.specs.declared.token.Punct.TheVariants.{CloseBracket, CloseBrace}
use Rattle.hq_gql_tree.specs.Values.{placed_view, argument_view}
use Rattle.hq_gql_parser.specs.declared.lookahead.Lookahead.TheVariants.{Punct}
use Rattle.hq_gql_parser.specs.declared.stop.Stop.TheVariants.{Memory}
use Rattle.hq_gql_parser.specs.Parsing.{until_punct}
use Rattle.hq_gql_parser.proofs.Depths.{list_none, list_is, object_none, object_is}
use Rattle.hq_gql_parser.proofs.Items.{item_takes}
use Rattle.hq_gql_parser.proofs.Loops.{goes_on, stands, stopped, parsed_more, finished}
use Rattle.hq_gql_parser.proofs.ValueLaws.{law_value, value_takes, law_argument, name_takes}
use Rattle.hq_gql_parser.proofs.values.+value.Goals as goal

pub list-returns-then-depth-eq0 : goal.list-returns-then-depth-eq0
list-returns-then-depth-eq0 t c = inr (list_none c.args.constant c.args.depth c.args.tokens.now c.if-depth-eq0.true ∙ ap (λ s. Err s) (sym c.too_deep_or_unexpected.ensures))

pub list-returns : goal.list-returns
list-returns t c =
    let lt : 0 < c.args.depth = omega arith in
    subst (λ due. Gives (λ x. (placed_view x.0, x.1.now)) Memory due c.opened_list.result) (sym (list_is c.args.constant c.args.depth c.args.tokens.now lt)) c.opened_list.ensures

pub object-returns-then-depth-eq0 : goal.object-returns-then-depth-eq0
object-returns-then-depth-eq0 t c = inr (object_none c.args.constant c.args.depth c.args.tokens.now c.if-depth-eq0.true ∙ ap (λ s. Err s) (sym c.too_deep_or_unexpected.ensures))

pub object-returns : goal.object-returns
object-returns t c =
    let lt : 0 < c.args.depth = omega arith in
    subst (λ due. Gives (λ x. (placed_view x.0, x.1.now)) Memory due c.opened_object.result) (sym (object_is c.args.constant c.args.depth c.args.tokens.now lt)) c.opened_object.ensures

pub elements-returns-in_err-one : goal.elements-returns-in_err-one
elements-returns-in_err-one t c =
    let l = c.loop-alloc in
    let p = err_from_is_err_and c.from_residual.result c.from_residual.ensures.1 in
    rw (p.1, p.2)
    (stopped (law_value c.args.constant c.args.depth) value_takes (until_punct CloseBracket) (map placed_view l.found.items) l.rest.now _
    l.invariant (goes_on (Punct CloseBracket) l.rest.now c.is_at.result c.is_at.ensures c.loop-alloc-test.true) c.in_err-one.field-0.0
    c.in_err-one.ensures)

pub elements-loop-alloc-smaller : goal.elements-loop-alloc-smaller
elements-loop-alloc-smaller t c =
    item_takes (law_value c.args.constant c.args.depth) value_takes c.loop-alloc.rest.now _ _ c.in_ok-one.ensures

pub elements-loop-alloc-preserved : goal.elements-loop-alloc-preserved
elements-loop-alloc-preserved t c =
    let l = c.loop-alloc in
    let e : map placed_view c.push.new.self.items ≡ map placed_view l.found.items ++ placed_view c.in_ok-one.one ∷ [] = rw c.in_ok-push.ensures.items (map_push _ l.found.items c.in_ok-one.one) in
    rw e
    (parsed_more (law_value c.args.constant c.args.depth) value_takes (until_punct CloseBracket) (map placed_view l.found.items)
    l.rest.now _ l.invariant (goes_on (Punct CloseBracket) l.rest.now c.is_at.result c.is_at.ensures c.loop-alloc-test.true) _ _
    c.in_ok-one.ensures)

pub elements-returns : goal.elements-returns
elements-returns t c =
    let l = c.loop-alloc in
    finished (law_value c.args.constant c.args.depth) value_takes (until_punct CloseBracket) (map placed_view l.found.items) l.rest.now _
    l.invariant (stands (Punct CloseBracket) l.rest.now c.is_at.result c.is_at.ensures c.loop-alloc-test.false)

pub members-returns-in_err-one : goal.members-returns-in_err-one
members-returns-in_err-one t c =
    let l = c.loop-alloc in
    let p = err_from_is_err_and c.from_residual.result c.from_residual.ensures.1 in
    rw (p.1, p.2)
    (stopped (law_argument c.args.constant c.args.depth) name_takes (until_punct CloseBrace) (map argument_view l.found.items) l.rest.now
    _ l.invariant (goes_on (Punct CloseBrace) l.rest.now c.is_at.result c.is_at.ensures c.loop-alloc-test.true) c.in_err-one.field-0.0
    c.in_err-one.ensures)

pub members-loop-alloc-smaller : goal.members-loop-alloc-smaller
members-loop-alloc-smaller t c =
    item_takes (law_argument c.args.constant c.args.depth) name_takes c.loop-alloc.rest.now _ _ c.in_ok-one.ensures

pub members-loop-alloc-preserved : goal.members-loop-alloc-preserved
members-loop-alloc-preserved t c =
    let l = c.loop-alloc in
    let e : map argument_view c.push.new.self.items ≡ map argument_view l.found.items ++ argument_view c.in_ok-one.one ∷ [] =
    rw c.in_ok-push.ensures.items (map_push _ l.found.items c.in_ok-one.one) in
    rw e
    (parsed_more (law_argument c.args.constant c.args.depth) name_takes (until_punct CloseBrace) (map argument_view l.found.items)
    l.rest.now _ l.invariant (goes_on (Punct CloseBrace) l.rest.now c.is_at.result c.is_at.ensures c.loop-alloc-test.true) _ _
    c.in_ok-one.ensures)

pub members-returns : goal.members-returns
members-returns t c =
    let l = c.loop-alloc in
    finished (law_argument c.args.constant c.args.depth) name_takes (until_punct CloseBrace) (map argument_view l.found.items) l.rest.now _
    l.invariant (stands (Punct CloseBrace) l.rest.now c.is_at.result c.is_at.ensures c.loop-alloc-test.false)
