use Rattle.std.proofs.Common.{◌≡◌, ◌≤◌, length, arith}
use Rattle.std.proofs.lemmas.List.{length-map}
use Rattle.std.specs.Prelude.{option_map}
use Rattle.hq_model.specs.PermView.{permission_view}
use Rattle.hq_confine_uses.specs.Views.{rules_schema, rules_grants}
use Rattle.hq_confine.proofs.Small.{all_written}
use Rattle.hq_confine.proofs.numbers.write_grants.Goals as goal

pub returns : goal.returns
returns c =
    let s = rules_schema c.args.rules.now in
    let g = rules_grants c.args.rules.now in
    let long : length g ≡ length c.args.rules.now.grants.now = length-map c.args.rules.now.grants.now (option_map permission_view) in
    let over : length g ≤ c.loop-t.t = omega (arith, long) in
    all_written s g (λ k lt. c.loop-t.invariant k (omega (arith, lt, over)))
