use Rattle.std.proofs.Common.{arith}
use Rattle.std.proofs.lemmas.Grind.{common_steps}
use Rattle.std.proofs.lemmas.Map.Keys.{IsDistinct-push}
use Rattle.std.specs.Cmp.{nat_eq_equiv}
use Rattle.hq_gql_nodes.proofs.Grown.{mark_same}
use Rattle.hq_gql_nodes.proofs.search.mark.Goals as goal

pub returns-in_ok-push-clause-agrees : goal.returns-in_ok-push-clause-agrees
returns-in_ok-push-clause-agrees c =
    let marks = c.args.marks.now.items in
    let order = c.args.order.now.items in
    rw c.in_ok-push.ensures.items (record {
      same = λ q. mark_same marks order c.args.place q (omega arith) (c.requires.same q);
      once = IsDistinct-push nat_eq_equiv order c.args.place c.requires.once (grind (arith, common_steps, c.requires.same c.args.place));
    })
