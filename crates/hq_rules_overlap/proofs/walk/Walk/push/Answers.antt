-- A pair that has a mark now.
use Rattle.std.proofs.Common.{◌≡◌, ◌∙◌, ap, refl, Bool, true, false, cond, Option, Some, nat_eq, ◌&&◌, ◌||◌}
use Rattle.std.specs.Prelude.{is_some}
use Rattle.std.specs.HashMap as hash
use Rattle.hq_rules_overlap.proofs.walk.Walk.push.Goals as goal

some_or : {X : Type 0} (b : Bool) (x : X) (o : Option X) → is_some (cond b (Some x) o) ≡ (b || is_some o)
some_or true x o = refl
some_or false x o = refl

pub returns-clause-marks : goal.returns-clause-marks
returns-clause-marks c = λ s t.
    ap is_some (c.in_ok-insert.ensures.updates.0 (s, t))
    ∙ some_or (nat_eq c.args.left s && nat_eq c.args.right t) true (hash.get (λ x y. nat_eq x.0 y.0 && nat_eq x.1 y.1) c.args.self.now.marks (s, t))
