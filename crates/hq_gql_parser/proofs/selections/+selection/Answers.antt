use Rattle.std.proofs.Common.{◌≡◌, ◌<◌, ◌++◌, ◌∷◌, [], map, refl, inr, sym, subst, ap, ◌∙◌, Ok, Err, arith}
use Rattle.std.proofs.lemmas.List.{map_push}
use Rattle.std.proofs.lemmas.Result.{err_from_is_err_and}
use Rattle.hq_base.specs.Due.{Gives}
use Rattle.hq_gql_tree.specs.Selections.{selection_view}
use Rattle.hq_gql_lexer.specs.declared.token.Punct.TheVariants.{CloseBrace}
use Rattle.hq_gql_parser.specs.Parsing.{until_punct}
use Rattle.hq_gql_parser.specs.ParsingSelections.{field_with, inline_with}
use Rattle.hq_gql_parser.specs.ParsingSelections.{selection_at}
use Rattle.hq_gql_parser.specs.declared.lookahead.Lookahead.TheVariants as ahead
use Rattle.hq_gql_parser.specs.declared.stop.Stop.TheVariants.{Memory}
use Rattle.hq_gql_parser.proofs.Views.{field_seen, inline_seen}
use Rattle.hq_gql_parser.proofs.Depths.{set_none, set_is}
use Rattle.hq_gql_parser.proofs.Items.{item_takes}
use Rattle.hq_gql_parser.proofs.Loops.{begun, goes_on, stands, stopped, parsed_more, finished}
use Rattle.hq_gql_parser.proofs.SelectionLaws.{law_selection_at, selection_takes}
use Rattle.hq_gql_parser.proofs.selections.+selection.Goals as goal

pub some_selections-loop-alloc-init : goal.some_selections-loop-alloc-init
some_selections-loop-alloc-init t c =
    let e : map selection_view c.push.new.self.items ≡ selection_view c.in_ok-first.first ∷ [] = rw (c.in_ok-push.ensures.items, c.new-found.ensures.items) refl in
    rw e (begun (until_punct CloseBrace) (selection_at c.args.depth) c.args.tokens.now _ _ c.in_ok-first.ensures)

pub some_selections-returns-in_err-one : goal.some_selections-returns-in_err-one
some_selections-returns-in_err-one t c =
    let l = c.loop-alloc in
    let p = err_from_is_err_and c.from_residual-in_err-one.result c.from_residual-in_err-one.ensures.1 in
    rw (p.1, p.2)
    (stopped (law_selection_at c.args.depth) selection_takes (until_punct CloseBrace) (map selection_view l.found.items) l.rest.now _
    l.invariant (goes_on (ahead.Punct CloseBrace) l.rest.now c.is_at.result c.is_at.ensures c.loop-alloc-test.true)
    c.in_err-one.field-0.0 c.in_err-one.ensures)

pub some_selections-loop-alloc-smaller : goal.some_selections-loop-alloc-smaller
some_selections-loop-alloc-smaller t c = item_takes (law_selection_at c.args.depth) selection_takes c.loop-alloc.rest.now _ _ c.in_ok-one.ensures

pub some_selections-loop-alloc-preserved : goal.some_selections-loop-alloc-preserved
some_selections-loop-alloc-preserved t c =
    let l = c.loop-alloc in
    let e : map selection_view c.push-in-loop-alloc.new.self.items ≡ map selection_view l.found.items ++ selection_view c.in_ok-one.one ∷ [] =
    rw c.in_ok-push-2.ensures.items (map_push _ l.found.items c.in_ok-one.one) in
    rw e
    (parsed_more (law_selection_at c.args.depth) selection_takes (until_punct CloseBrace) (map selection_view l.found.items) l.rest.now _
    l.invariant (goes_on (ahead.Punct CloseBrace) l.rest.now c.is_at.result c.is_at.ensures c.loop-alloc-test.true) _ _
    c.in_ok-one.ensures)

pub some_selections-returns : goal.some_selections-returns
some_selections-returns t c =
    let l = c.loop-alloc in
    finished (law_selection_at c.args.depth) selection_takes (until_punct CloseBrace) (map selection_view l.found.items) l.rest.now _
    l.invariant (stands (ahead.Punct CloseBrace) l.rest.now c.is_at.result c.is_at.ensures c.loop-alloc-test.false)

pub set-returns-then-depth-eq0 : goal.set-returns-then-depth-eq0
set-returns-then-depth-eq0 t c = inr (set_none c.args.depth c.args.tokens.now c.if-depth-eq0.true ∙ ap (λ s. Err s) (sym c.too_deep_or_unexpected.ensures))

pub set-returns : goal.set-returns
set-returns t c =
    let lt : 0 < c.args.depth = omega arith in
    subst (λ due. Gives (λ x. ((x.0, map selection_view x.1.items), x.2.now)) Memory due c.opened_set.result) (sym (set_is c.args.depth c.args.tokens.now lt)) c.opened_set.ensures

pub field-returns : goal.field-returns
unfolding field_with
field-returns t c =
    let h = c.in_ok-head.head in
    let seen = field_seen (record { at = h.at; alias = h.alias; name = h.name; args = c.in_ok-args.args; directives = c.in_ok-directives.directives; selections = c.in_ok-selections.selections }) in
    rw (c.in_ok-head.ensures, c.in_ok-args.ensures, c.in_ok-directives.ensures, c.in_ok-selections.ensures) (ap (λ v. Ok (v, c.in_ok-selections.rest.now)) (sym seen))

pub inline-returns : goal.inline-returns
unfolding inline_with
inline-returns t c =
    let seen = inline_seen (record { at = c.args.at; cond = c.in_ok-cond.cond; directives = c.in_ok-directives.directives; selections = c.in_ok-_at.selections }) in
    rw (c.in_ok-cond.ensures, c.in_ok-directives.ensures, c.in_ok-_at.ensures) (ap (λ v. Ok (v, c.in_ok-_at.rest.now)) (sym seen))
