use Rattle.std.proofs.Common.{◌≡◌, ◌∙◌, Bool, Option, None, Some, ap, sym}
use Rattle.std.specs.Prelude.{IfSome}
use Rattle.std.proofs.lemmas.Result.{IfOk-weaker}
use Rattle.hq_model.specs.Logic.{truth_of}
use Rattle.hq_sql_tree.specs.Meaning.{World, truth_at}
use Rattle.hq_sql_tree.specs.View.{pred_view}
use Rattle.hq_sql_access.specs.KeySets.{keeps_key}
use Rattle.hq_sql_access.specs.View.{names_of, scope_of, world_of}
use Rattle.hq_sql_scans.proofs.key_set.known_row.Goals as goal

pub returns-in-Some : goal.returns-in-Some
returns-in-Some c =
    let w = world_of c.args.world.now in
    let n = names_of c.args.scope.now c.args.world.now in
    let weaker : (o : Option Bool) → IfSome o (λ b. (v : World) → b ≡ keeps_key c.in-Some.set.now (scope_of c.args.scope.now v))
    → IfSome o (λ b. truth_of b ≡ truth_at (pred_view c.args.pred.now) w n) =
    elim [ None ↦ λ h. h | Some b ↦ λ h. ap truth_of (h w) ∙ sym (c.in-Some.ensures.has n) ] in
    IfOk-weaker c.has_row.result _ _ weaker c.has_row.ensures
