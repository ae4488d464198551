-- A number that stands there, and one that is new.
use Rattle.std.proofs.Common.{List, ℕ, subst}
use Rattle.std.specs.List.{Contains}
use Rattle.hq_rules_overlap.proofs.Growth.{adds_nothing, adds_one}
use Rattle.hq_rules_overlap.proofs.closure.add.Goals as goal

pub returns-then-stands : goal.returns-then-stands
returns-then-stands c = adds_nothing c.args.list.now.items c.args.number (subst (λ (xs : List ℕ). Contains xs c.args.number) c.deref.ensures.value (c.stands.ensures c.if-stands.true))

pub returns : goal.returns
returns c = adds_one c.args.list.now.items c.push.new.self.items c.args.number c.in_ok-push.ensures.items
