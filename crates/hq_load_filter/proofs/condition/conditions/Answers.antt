use Rattle.std.proofs.Common.{◌∙◌, [], ◌∷◌, map, sym, ap}
use Rattle.std.proofs.lemmas.List.{map-append}
use Rattle.hq_base.specs.Json.{json_view}
use Rattle.hq_base.specs.Path.{member_path}
use Rattle.hq_model.specs.Bexp.{bexp_view}
use Rattle.hq_model.specs.Schema.{table, column}
use Rattle.hq_model.specs.Described.{scope_schema}
use Rattle.hq_load_filter.specs.Condition.{written_on}
use Rattle.hq_load_filter.proofs.Elements.{each_member-more}
use Rattle.hq_load_filter.proofs.condition.conditions.Goals as goal

pub loop-member-preserved : goal.loop-member-preserved
loop-member-preserved c =
    let s = scope_schema c.args.scope.now in
    let written = written_on (table s c.args.t) c.args.col (column s c.args.t c.args.col).ty in
    let m = c.member-item.result in
    each_member-more written c.args.path.now c.in_ok-path.path c.args.members.now c.loop-member.member-index m
    (map bexp_view c.loop-member.conditions.items) (map bexp_view c.push.new.self.items) (bexp_view c.in_ok-condition.condition) _
    c.loop-member.invariant c.loop-member-test.true c.member-item.is
    (c.in_ok-path.ensures ∙ ap (member_path c.args.path.now) c.as_str-name.ensures)
    (ap (λ n. written n c.in_ok-path.path (json_view m.value)) (sym c.as_str-name.ensures) ∙ c.in_ok-condition.ensures)
    (ap (map bexp_view) c.in_ok-push.ensures.items ∙ map-append bexp_view c.loop-member.conditions.items (c.in_ok-condition.condition ∷ []))
