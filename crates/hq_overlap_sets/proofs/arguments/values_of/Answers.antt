-- One more value was noted.
use Rattle.std.proofs.Common.{◌+◌, ◌∙◌, ap, sym, map, drop, bytes_eq, arith}
use Rattle.std.specs.Prelude.{find}
use Rattle.std.specs.Option.{option_or}
use mathlib.Core.Path.{fun_ext}
use Rattle.hq_gql_tree.specs.Values.{argument_view}
use Rattle.hq_overlap_sets.specs.Literals.{arguments_of, given_in}
use Rattle.hq_overlap_sets.proofs.Growing.{drop_first, drop_end}
use Rattle.hq_overlap_sets.proofs.Noted.{option_or_none, noted_then}
use Rattle.hq_overlap_sets.proofs.arguments.values_of.Goals as goal

pub loop-argument-preserved : goal.loop-argument-preserved
loop-argument-preserved c = λ q.
    let args = c.args.args.now in
    let i = c.loop-argument.argument-index in
    let a = argument_view c.argument-item.result in
    let noted = given_in c.loop-argument.values q in
    ap (λ o. option_or o (arguments_of (map argument_view (drop (i + 1) args)) q)) (c.in_ok-note_value.ensures q)
    ∙ (noted_then noted (bytes_eq a.name q) a (find (λ x. bytes_eq x.name q) (map argument_view (drop (i + 1) args)))
    ∙ (ap (λ xs. option_or noted (arguments_of (map argument_view xs) q)) (sym (drop_first args i c.argument-item.result (omega arith) c.argument-item.is))
    ∙ c.loop-argument.invariant q))

pub returns : goal.returns
returns c = fun_ext (λ q.
    let args = c.args.args.now in
    let noted = given_in c.loop-argument.values q in
    sym (option_or_none noted)
    ∙ (ap (λ xs. option_or noted (arguments_of (map argument_view xs) q)) (sym (drop_end args c.loop-argument.argument-index (omega arith)))
    ∙ c.loop-argument.invariant q))
