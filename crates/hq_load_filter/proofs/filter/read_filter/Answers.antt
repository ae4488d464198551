use Rattle.std.proofs.Common.{◌≡◌, ◌≤◌, ◌*◌, true}
use Rattle.hq_base.specs.Json.{json_view}
use Rattle.hq_model.specs.Bexp.{bexp_view, depth}
use Rattle.hq_model.specs.Filters.{is_filter}
use Rattle.hq_model.specs.Fits.{asks_tracked}
use Rattle.hq_model.specs.Meta.{meta_view}
use Rattle.hq_model.specs.Schema.{schema_of}
use Rattle.hq_load_filter.specs.declared.refusal.FilterRefusal.TheVariants.{Memory}
use Rattle.hq_load_filter.specs.Filter.{filter_due}
use Rattle.hq_load_filter.specs.Nesting.{nesting}
use Rattle.hq_load_filter.proofs.Results.{ok_gives, ok_weaker}
use Rattle.hq_load_filter.proofs.Sound.{Good, filter_good}
use Rattle.hq_load_filter.proofs.filter.read_filter.Goals as goal

pub returns-clause-fits : goal.returns-clause-fits
returns-clause-fits c =
    let tables = c.args.catalog.now.tables in
    let d = meta_view c.args.meta.now in
    let due = filter_due (json_view c.args.json.now) tables d c.args.t c.args.path.now in
    ok_gives bexp_view Memory due (λ b. is_filter b (schema_of tables d) c.args.t ≡ true) c.filter.result
    (ok_weaker due (Good (2 * nesting (json_view c.args.json.now)) tables d c.args.t)
    (λ b. is_filter b (schema_of tables d) c.args.t ≡ true) (λ b h. h.is)
    (filter_good (json_view c.args.json.now) tables d c.args.t c.args.path.now))
    c.filter.ensures

pub returns-clause-tracked : goal.returns-clause-tracked
returns-clause-tracked c =
    let tables = c.args.catalog.now.tables in
    let d = meta_view c.args.meta.now in
    let due = filter_due (json_view c.args.json.now) tables d c.args.t c.args.path.now in
    ok_gives bexp_view Memory due (λ b. asks_tracked d b ≡ true) c.filter.result
    (ok_weaker due (Good (2 * nesting (json_view c.args.json.now)) tables d c.args.t) (λ b. asks_tracked d b ≡ true) (λ b h. h.tracked)
    (filter_good (json_view c.args.json.now) tables d c.args.t c.args.path.now))
    c.filter.ensures

pub returns-clause-shallow : goal.returns-clause-shallow
returns-clause-shallow c =
    let tables = c.args.catalog.now.tables in
    let d = meta_view c.args.meta.now in
    let due = filter_due (json_view c.args.json.now) tables d c.args.t c.args.path.now in
    ok_gives bexp_view Memory due (λ b. depth b ≤ 2 * nesting (json_view c.args.json.now)) c.filter.result
    (ok_weaker due (Good (2 * nesting (json_view c.args.json.now)) tables d c.args.t)
    (λ b. depth b ≤ 2 * nesting (json_view c.args.json.now)) (λ b h. h.shallow)
    (filter_good (json_view c.args.json.now) tables d c.args.t c.args.path.now))
    c.filter.ensures
