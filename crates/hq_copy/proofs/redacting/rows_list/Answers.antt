use Rattle.std.proofs.Common.{◌≡◌, ◌∙◌, ◌++◌, ◌∷◌, ◌<◌, Some, length, slice_get, true, ap, sym, subst}
use Rattle.std.specs.Vec.Iter.{into_iter_items}
use Rattle.hq_model.specs.Database.{is_database}
use Rattle.hq_copy.proofs.Databases.{rows_there, table_there}
use Rattle.hq_copy.proofs.redacting.rows_list.Goals as goal

pub push_rows-requires-clause-within : goal.push_rows-requires-clause-within
push_rows-requires-clause-within c =
    let ts = c.args.catalog.now.tables in
    let front = c.loop-rows.all in
    let rest = into_iter_items c.next.new.self in
    let whole : is_database ts (front ++ c.in-Some.rows ∷ rest) ≡ true =
    subst (λ d. is_database ts d ≡ true) (sym c.loop-rows.invariant.rows ∙ ap (λ ys. front ++ ys) c.in-Some.ensures.steps.0) c.requires in
    let below = table_there ts front c.in-Some.rows rest whole in
    subst (λ n. n < length c.as_slice-tables.result.now) (sym c.loop-rows.invariant.at) (subst (λ us. length front < length us) (sym c.as_slice-tables.ensures) below)

pub push_rows-requires-clause-valid : goal.push_rows-requires-clause-valid
push_rows-requires-clause-valid c t there =
    let ts = c.args.catalog.now.tables in
    let front = c.loop-rows.all in
    let rest = into_iter_items c.next.new.self in
    let whole : is_database ts (front ++ c.in-Some.rows ∷ rest) ≡ true =
    subst (λ d. is_database ts d ≡ true) (sym c.loop-rows.invariant.rows ∙ ap (λ ys. front ++ ys) c.in-Some.ensures.steps.0) c.requires in
    let here : slice_get ts (length front) ≡ Some t =
    ap (slice_get ts) (sym c.loop-rows.invariant.at) ∙ ap (λ us. slice_get us c.loop-rows.at) (sym c.as_slice-tables.ensures) ∙ there in
    rows_there ts front c.in-Some.rows rest t whole here
