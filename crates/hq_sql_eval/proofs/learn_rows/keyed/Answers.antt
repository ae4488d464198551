use Rattle.std.proofs.Common.{◌≡◌, ◌&&◌, Bool, Option, Some, None, Result, Ok, Err, IfOk, sym, subst}
use Rattle.std.specs.Prelude.{IfSome}
use Rattle.hq_base.specs.declared.memory.Memory.{Memory}
use Rattle.hq_sql_access.specs.KeySets.{keeps_key}
use Rattle.hq_sql_access.specs.View.{scope_of, names_of, world_of}
use Rattle.hq_sql_tree.specs.Meaning.{World}
use Rattle.hq_sql_eval.proofs.learn_rows.keyed.Goals as goal

pub returns : goal.returns
returns c = on c.has_row.result c.has_row.ensures
  where
    known : (o : Option Bool) → IfSome o (λ b. (w : World) → b ≡ keeps_key c.args.set.now (scope_of c.args.scope.now w))
        → IfSome o (λ b. b ≡ (c.args.before && keeps_key c.args.set.now (names_of c.args.scope.now c.args.world.now)))
    known None h = h
    known (Some b) h = subst (λ x. b ≡ (x && keeps_key c.args.set.now (names_of c.args.scope.now c.args.world.now))) (sym c.if-not-before.false) (h (world_of c.args.world.now))

    on : (r : Result (Option Bool) Memory) → IfOk r (λ o. IfSome o (λ b. (w : World) → b ≡ keeps_key c.args.set.now (scope_of c.args.scope.now w)))
        → IfOk r (λ o. IfSome o (λ b. b ≡ (c.args.before && keeps_key c.args.set.now (names_of c.args.scope.now c.args.world.now))))
    on (Ok o) h = known o h
    on (Err e) h = h
