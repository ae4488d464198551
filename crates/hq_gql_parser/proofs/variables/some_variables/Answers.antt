use Rattle.std.proofs.Common.{◌≡◌, ◌++◌, ◌∷◌, [], map, refl}
use Rattle.std.proofs.lemmas.List.{map_push}
use Rattle.std.proofs.lemmas.Result.{err_from_is_err_and}
use Rattle.hq_gql_tree.specs.Documents.{var_def_view}
use Rattle.hq_gql_lexer.specs.declared.token.Punct.TheVariants.{CloseParenthesis}
use Rattle.hq_gql_parser.specs.Parsing.{until_punct}
use Rattle.hq_gql_parser.specs.ParsingOperations.{variable_definition_at}
use Rattle.hq_gql_parser.specs.declared.lookahead.Lookahead.TheVariants as ahead
use Rattle.hq_gql_parser.proofs.Items.{item_takes}
use Rattle.hq_gql_parser.proofs.Loops.{begun, goes_on, stands, stopped, parsed_more, finished}
use Rattle.hq_gql_parser.proofs.OperationLaws.{law_variable, variable_takes}
use Rattle.hq_gql_parser.proofs.variables.some_variables.Goals as goal

pub loop-alloc-init : goal.loop-alloc-init
loop-alloc-init c =
    let e : map var_def_view c.push.new.self.items ≡ var_def_view c.in_ok-first.first ∷ [] = rw (c.in_ok-push.ensures.items, c.new-found.ensures.items) refl in
    rw e (begun (until_punct CloseParenthesis) (variable_definition_at c.args.depth) c.args.tokens.now _ _ c.in_ok-first.ensures)

pub returns-in_err-one : goal.returns-in_err-one
returns-in_err-one c =
    let l = c.loop-alloc in
    let p = err_from_is_err_and c.from_residual-in_err-one.result c.from_residual-in_err-one.ensures.1 in
    rw (p.1, p.2)
    (stopped (law_variable c.args.depth) variable_takes (until_punct CloseParenthesis) (map var_def_view l.found.items) l.rest.now _
    l.invariant (goes_on (ahead.Punct CloseParenthesis) l.rest.now c.is_at.result c.is_at.ensures c.loop-alloc-test.true)
    c.in_err-one.field-0.0 c.in_err-one.ensures)

pub loop-alloc-smaller : goal.loop-alloc-smaller
loop-alloc-smaller c = item_takes (law_variable c.args.depth) variable_takes c.loop-alloc.rest.now _ _ c.in_ok-one.ensures

pub loop-alloc-preserved : goal.loop-alloc-preserved
loop-alloc-preserved c =
    let l = c.loop-alloc in
    let e : map var_def_view c.push-in-loop-alloc.new.self.items ≡ map var_def_view l.found.items ++ var_def_view c.in_ok-one.one ∷ [] =
    rw c.in_ok-push-2.ensures.items (map_push _ l.found.items c.in_ok-one.one) in
    rw e
    (parsed_more (law_variable c.args.depth) variable_takes (until_punct CloseParenthesis) (map var_def_view l.found.items) l.rest.now _
    l.invariant (goes_on (ahead.Punct CloseParenthesis) l.rest.now c.is_at.result c.is_at.ensures c.loop-alloc-test.true) _ _
    c.in_ok-one.ensures)

pub returns : goal.returns
returns c =
    let l = c.loop-alloc in
    finished (law_variable c.args.depth) variable_takes (until_punct CloseParenthesis) (map var_def_view l.found.items) l.rest.now _
    l.invariant (stands (ahead.Punct CloseParenthesis) l.rest.now c.is_at.result c.is_at.ensures c.loop-alloc-test.false)
