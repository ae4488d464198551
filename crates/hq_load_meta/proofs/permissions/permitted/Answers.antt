use Rattle.std.proofs.Common.{◌∙◌, ℕ, List, map, sym, subst}
use Rattle.std.specs.List.{AllZip, zip}
use Rattle.hq_base.specs.Json.{json_view}
use Rattle.hq_model.specs.Meta.{MetaTree, meta_view, perm_view}
use Rattle.hq_load_meta.specs.Sound.{AllSound, TablesSound}
use Rattle.hq_load_meta.proofs.Beside.{perms_stand}
use Rattle.hq_load_meta.proofs.permissions.permitted.Goals as goal

pub returns-clause-sound : goal.returns-clause-sound
returns-clause-sound c =
    let m = meta_view c.args.meta in
    let catalog = c.args.catalog.now.tables in
    let js = map json_view c.args.list.now in
    let perms = map (map perm_view) c.in_ok-perms.perms in
    let tables = c.as_slice.ensures ∙ c.in_ok-tables.ensures in
    subst (λ (joined : MetaTree). TablesSound catalog m joined.tracked) (sym c.in_ok-with_perms.ensures)
    (perms_stand (AllSound catalog m) m.tracked js perms (subst (λ (ts : List ℕ). AllZip (λ e ps. AllSound catalog m e.0 ps) (zip ts js) perms) tables c.in_ok-perms.ensures.sound))
