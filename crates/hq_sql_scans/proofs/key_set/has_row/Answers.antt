use Rattle.std.proofs.Common.{◌≡◌, ◌∙◌, map, ap}
use Rattle.hq_load_index.specs.Keys.{cell_view as key_view}
use Rattle.hq_sql_tree.specs.Meaning.{World}
use Rattle.hq_sql_access.specs.KeySets.{link_keys}
use Rattle.hq_sql_access.specs.View.{scope_of}
use Rattle.hq_sql_scans.specs.ChosenKeys.{is_key}
use Rattle.hq_sql_scans.proofs.key_set.has_row.Goals as goal

pub returns : goal.returns
returns c =
    let set = c.args.set.now in
    let scope = c.args.scope.now in
    let key = map key_view c.in-Some.key.items in
    let known : (w : World) → key ≡ link_keys c.deref.result.now (scope_of scope w) = rw c.in-Some.is at c.in_ok-key.ensures in
    λ w.
    c.has_key.ensures ∙ ap (λ k. is_key set (map key_view k)) c.deref-2.ensures.value ∙ ap (is_key set) (known w ∙ ap (λ ls. link_keys ls (scope_of scope w)) c.deref.ensures.value)
