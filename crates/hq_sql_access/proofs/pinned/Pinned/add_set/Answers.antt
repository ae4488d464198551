use Rattle.std.specs.Result.{is_ok}
use Rattle.hq_sql_tree.specs.View.{pred_view}
use Rattle.hq_sql_access.specs.KeySets.{IsKeySet}
use Rattle.hq_sql_access.specs.Pins.{world_in}
use Rattle.hq_sql_access.specs.declared.pinned.KeySet.{KeySet}
use Rattle.hq_sql_access.proofs.Knowing.{all_pushed}
use Rattle.hq_sql_access.proofs.pinned.Pinned.add_set.Goals as goal

pub invariant_of-self : goal.invariant_of-self
invariant_of-self c =
    let set_is : KeySet → Type 0 = λ s. IsKeySet (world_in c.args.self.now.tables.now) (pred_view s.pred.now) s in
    record {
      right = c.args.self.now.right;
      keyed = rw c.push.ensures.items (all_pushed set_is c.args.self.now.sets.items c.args.set c.args.self.now.keyed c.requires (is_ok c.push.result));
    }
