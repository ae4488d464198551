use Rattle.std.proofs.Common.{◌≡◌, ◌∙◌, ap, refl, bytes_eq, true, false, arith, rules}
use Rattle.hq_confine_rules.specs.Origins.{shape_at}
use Rattle.hq_confine_uses.proofs.Stacked.{last_front}
use Rattle.hq_confine_uses.proofs.scope.shape_among.Goals as goal

pub returns-then-eq : goal.returns-then-eq
returns-then-eq c =
    let x = c.index-aliases-i.result in
    let same : bytes_eq x.alias.now c.args.alias.now ≡ true = search rules in
    λ outer. c.loop-i.invariant.left outer
    ∙ (ap (λ scope. shape_at scope c.args.alias.now) (last_front c.args.aliases.now c.loop-i.i x outer c.loop-i-test.true c.loop-i.invariant.within c.index-aliases-i.is)
    ∙ rw same refl)

pub loop-i-preserved : goal.loop-i-preserved
loop-i-preserved c =
    let x = c.index-aliases-i.result in
    let other : bytes_eq x.alias.now c.args.alias.now ≡ false = search rules in
    record {
      within = omega arith;
      left = λ outer. c.loop-i.invariant.left outer
          ∙ (ap (λ scope. shape_at scope c.args.alias.now) (last_front c.args.aliases.now c.loop-i.i x outer c.loop-i-test.true c.loop-i.invariant.within c.index-aliases-i.is)
          ∙ rw other refl);
    }
