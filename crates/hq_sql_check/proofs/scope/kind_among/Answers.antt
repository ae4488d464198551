use Rattle.std.proofs.Common.{◌≡◌, ◌∙◌, ap, refl, map, bytes_eq, true, false, option_map, arith, rules}
use Rattle.hq_sql_tree.specs.WellFormed.{kind_at, kind_named}
use Rattle.hq_sql_check.specs.Scopes.{kind_view, name_view}
use Rattle.hq_sql_check.proofs.Stacked.{last_front}
use Rattle.hq_sql_check.proofs.scope.kind_among.Goals as goal

pub returns-then-eq : goal.returns-then-eq
returns-then-eq c =
    let x = c.index-aliases-i.result in
    let same : bytes_eq x.alias.now c.args.alias.now ≡ true = search rules in
    let named : kind_named (map name_view x.names.items) c.args.name.now ≡ option_map kind_view c.kind_named.result = search rules in
    λ outer. c.loop-i.invariant.left outer
    ∙ (ap (λ scope. kind_at scope c.args.alias.now c.args.name.now) (last_front c.args.aliases.now c.loop-i.i x outer c.loop-i-test.true c.loop-i.invariant.within c.index-aliases-i.is)
    ∙ rw same named)

pub loop-i-preserved : goal.loop-i-preserved
loop-i-preserved c =
    let x = c.index-aliases-i.result in
    let other : bytes_eq x.alias.now c.args.alias.now ≡ false = search rules in
    record {
      within = omega arith;
      left = λ outer. c.loop-i.invariant.left outer
          ∙ (ap (λ scope. kind_at scope c.args.alias.now c.args.name.now) (last_front c.args.aliases.now c.loop-i.i x outer c.loop-i-test.true c.loop-i.invariant.within c.index-aliases-i.is)
          ∙ rw other refl);
    }
