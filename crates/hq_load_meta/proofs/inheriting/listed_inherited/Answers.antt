use Rattle.std.proofs.Common.{◌∙◌, map, sym, ap}
use Rattle.hq_base.specs.Json.{json_view}
use Rattle.hq_load_meta.specs.Inheriting.{inherited_at}
use Rattle.hq_load_meta.proofs.Steps.{each_after-more}
use Rattle.hq_load_meta.proofs.inheriting.listed_inherited.Goals as goal

pub loop-place-preserved : goal.loop-place-preserved
loop-place-preserved c =
    let js = map json_view c.args.entries.now in
    let item = json_view c.index-entries-place.result in
    each_after-more (inherited_at js) json_view c.args.path.now c.in_ok-path.path c.loop-place.place c.loop-place.inherited c.push.new.self
    c.args.entries.now c.index-entries-place.result c.in_ok-one.one
    c.loop-place-test.true c.index-entries-place.is c.in_ok-path.ensures
    (ap (λ before. inherited_at js before c.in_ok-path.path item) (sym c.as_slice.ensures) ∙ c.in_ok-one.ensures) c.in_ok-push.ensures.ok
    ∙ c.loop-place.invariant
