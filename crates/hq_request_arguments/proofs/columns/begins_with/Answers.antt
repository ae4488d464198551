use Rattle.std.proofs.Common.{◌≢◌, ◌≤◌, ◌∙◌, ap, sym, length, map, arith}
use Rattle.std.proofs.lemmas.List.{take-map, length-map}
use Rattle.hq_request_tree.specs.Conditions.{are_sorts_of}
use Rattle.hq_request_tree.specs.Arguments.{sort_view}
use Rattle.hq_request_arguments.proofs.Distinct.{fits_by}
use Rattle.hq_request_arguments.proofs.columns.begins_with.Goals as goal

pub returns : goal.returns
returns c =
    let cs = c.args.columns.now in
    let xs = c.args.sorts.now in
    let n = c.args.different in
    let some : length (map sort_view xs) ≢ 0 = omega (arith, length-map xs sort_view) in
    let enough : n ≤ length (map sort_view xs) = omega (arith, length-map xs sort_view) in
    c.are_sorts_of.ensures
    ∙ ap (λ ks. are_sorts_of cs (map sort_view ks)) c.first_sorts.ensures
    ∙ ap (are_sorts_of cs) (sym (take-map sort_view n xs))
    ∙ fits_by cs (map sort_view xs) n c.requires some enough
