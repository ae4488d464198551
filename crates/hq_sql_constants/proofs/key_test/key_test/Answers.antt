use Rattle.std.proofs.Common.{subst}
use Rattle.hq_sql_access.specs.View.{world_of}
use Rattle.hq_sql_tree.specs.View.{pred_view}
use Rattle.hq_sql_constants.specs.KeyTests.{AreOwn}
use Rattle.hq_sql_constants.proofs.KeyTests.{keyed_is}
use Rattle.hq_sql_constants.proofs.key_test.key_test.Goals as goal

pub returns-in-Some-2 : goal.returns-in-Some-2
returns-in-Some-2 c =
    let columns = c.args.columns.now in
    let alias = c.args.alias.now in
    let own = c.in-Some-2.columns.items in
    let found : AreOwn columns alias c.deref.result.now own = rw c.in-Some-2.is at c.in_ok-columns.ensures in
    keyed_is (world_of c.args.world.now) columns alias (pred_view c.args.pred.now) c.in-Some.set.now own c.in-Some.ensures
    (subst (λ ls. AreOwn columns alias ls own) c.deref.ensures.value found)
