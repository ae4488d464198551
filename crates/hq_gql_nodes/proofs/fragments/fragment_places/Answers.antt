use Rattle.std.proofs.Common.{◌∙◌, ap, sym, rules, Some, None, map, cond, arith}
use Rattle.std.specs.Option.{option_or}
use Rattle.std.proofs.lemmas.List.{take_all}
use mathlib.Core.Path.{fun_ext}
use Rattle.hq_gql_tree.specs.Documents.{definition_view}
use Rattle.hq_gql_nodes.specs.Fragments.{is_fragment_named, fragment_named}
use Rattle.hq_gql_nodes.proofs.Lists.{position_more}
use Rattle.hq_gql_nodes.proofs.fragments.fragment_places.Goals as goal

pub loop-at-preserved : goal.loop-at-preserved
loop-at-preserved c = λ q.
    let defs = c.args.document.now.definitions.items in
    let x = c.definition-item.result in
    c.in_ok-note_fragment.ensures q
    ∙ ap (λ o. option_or o (cond (is_fragment_named q (definition_view x)) (Some c.loop-at.at) None)) (c.loop-at.invariant q)
    ∙ sym (position_more (is_fragment_named q) definition_view defs c.loop-at.at x (omega arith) (search rules))

pub returns : goal.returns
returns c = fun_ext (λ q.
    let defs = c.args.document.now.definitions.items in
    c.loop-at.invariant q ∙ ap (λ ds. fragment_named (map definition_view ds) q) (take_all c.loop-at.at defs (omega arith)))
