use Rattle.std.proofs.Common.{◌∙◌}
use Rattle.hq_base.specs.Json.{json_view}
use Rattle.hq_load_meta_tables.specs.Node.{text_at}
use Rattle.hq_load_meta.proofs.Steps.{each_after-more}
use Rattle.hq_load_meta.proofs.inheriting.listed_names.Goals as goal

pub loop-place-preserved : goal.loop-place-preserved
loop-place-preserved c =
    each_after-more (λ before. text_at) json_view c.args.path.now c.in_ok-path.path c.loop-place.place c.loop-place.names c.push.new.self c.args.list.now c.index-list-place.result c.in_ok-name.name
    c.loop-place-test.true c.index-list-place.is c.in_ok-path.ensures c.in_ok-name.ensures c.in_ok-push.ensures.ok
    ∙ c.loop-place.invariant
