use Rattle.std.proofs.Common.{◌≡◌, ◌++◌, ◌∷◌, [], map, refl}
use Rattle.std.proofs.lemmas.List.{map_push}
use Rattle.std.proofs.lemmas.Result.{err_from_is_err_and}
use Rattle.hq_gql_tree.specs.Documents.{definition_view}
use Rattle.hq_gql_parser.specs.declared.lookahead.Lookahead.TheVariants as ahead
use Rattle.hq_gql_parser.specs.Parsing.{until}
use Rattle.hq_gql_parser.specs.ParsingOperations.{definition_at}
use Rattle.hq_gql_parser.specs.declared.lookahead.Lookahead.TheVariants as ahead
use Rattle.hq_gql_parser.proofs.Items.{item_takes}
use Rattle.hq_gql_parser.proofs.Loops.{begun, goes_on, stands, stopped, parsed_more, finished}
use Rattle.hq_gql_parser.proofs.OperationLaws.{law_definition, definition_takes}
use Rattle.hq_gql_parser.proofs.definitions.definitions.Goals as goal

pub loop-alloc-init : goal.loop-alloc-init
loop-alloc-init c =
    let e : map definition_view c.push.new.self.items ≡ definition_view c.in_ok-first.first ∷ [] = rw (c.in_ok-push.ensures.items, c.new-found.ensures.items) refl in
    rw e (begun (until ahead.End) (definition_at c.args.depth) c.args.tokens.now _ _ c.in_ok-first.ensures)

pub returns-in_err-one : goal.returns-in_err-one
returns-in_err-one c =
    let l = c.loop-alloc in
    let p = err_from_is_err_and c.from_residual-in_err-one.result c.from_residual-in_err-one.ensures.1 in
    rw (p.1, p.2)
    (stopped (law_definition c.args.depth) definition_takes (until ahead.End) (map definition_view l.found.items) l.rest.now _ l.invariant
    (goes_on ahead.End l.rest.now c.is_at.result c.is_at.ensures c.loop-alloc-test.true) c.in_err-one.field-0.0 c.in_err-one.ensures)

pub loop-alloc-smaller : goal.loop-alloc-smaller
loop-alloc-smaller c = item_takes (law_definition c.args.depth) definition_takes c.loop-alloc.rest.now _ _ c.in_ok-one.ensures

pub loop-alloc-preserved : goal.loop-alloc-preserved
loop-alloc-preserved c =
    let l = c.loop-alloc in
    let e : map definition_view c.push-in-loop-alloc.new.self.items
    ≡ map definition_view l.found.items ++ definition_view c.in_ok-one.one ∷ [] =
    rw c.in_ok-push-2.ensures.items (map_push _ l.found.items c.in_ok-one.one) in
    rw e
    (parsed_more (law_definition c.args.depth) definition_takes (until ahead.End) (map definition_view l.found.items) l.rest.now _
    l.invariant (goes_on ahead.End l.rest.now c.is_at.result c.is_at.ensures c.loop-alloc-test.true) _ _ c.in_ok-one.ensures)

pub returns : goal.returns
returns c =
    let l = c.loop-alloc in
    finished (law_definition c.args.depth) definition_takes (until ahead.End) (map definition_view l.found.items) l.rest.now _ l.invariant
    (stands ahead.End l.rest.now c.is_at.result c.is_at.ensures c.loop-alloc-test.false)
