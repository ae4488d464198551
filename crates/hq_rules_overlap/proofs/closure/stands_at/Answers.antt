-- The number that was found.
use Rattle.std.proofs.Common.{sym}
use Rattle.std.proofs.lemmas.Bool.{eqb-true}
use Rattle.hq_rules_overlap.proofs.Growth.{contains_at}
use Rattle.hq_rules_overlap.proofs.closure.stands_at.Goals as goal

pub returns-in-Some : goal.returns-in-Some
returns-in-Some c = λ held. contains_at c.args.list.now c.args.place c.in-Some.found c.args.number (sym c.in-Some.ensures) (eqb-true c.in-Some.found c.args.number held)
