use Rattle.std.proofs.Common.{◌≡◌, ◌∙◌, refl, sym, ap, subst, rules, map, [], ◌∷◌, ◌++◌, List, Ok}
use Rattle.std.proofs.lemmas.List.{map-append, at_drop_all}
use Rattle.hq_base.specs.Due.{Gives, and_then, mapped}
use Rattle.hq_request_arguments.specs.Context.{Context, context_view}
use Rattle.hq_base.proofs.Refusals.{passed_up}
use Rattle.hq_request_coerce.specs.declared.refusal.CoerceRefusal.{CoerceRefusal}
use Rattle.hq_request_coerce.specs.declared.refusal.CoerceRefusal.TheVariants.{Memory}
use Rattle.hq_request_collect.specs.TreeSeen.{collected_view, parts_seen, trees_of}
use Rattle.hq_request_collect.specs.declared.tree.CollectedField.{CollectedField}
use Rattle.hq_request_build.proofs.Walks.{front, walk_more, walk_refused}
use Rattle.hq_request_build.proofs.Ends.{fields_end, parts_end}
use Rattle.hq_request_build.specs.Asked.{fields_due, field_due, parts_due, part_due}
use Rattle.hq_request_build.specs.KnownField.{leads_to, rows_of}
use Rattle.hq_request_build.specs.Seen.{known_view}
use Rattle.hq_request_tree.specs.Arguments.{arguments_view}
use Rattle.hq_request_tree.specs.Fields.{origin_of, list, aggregate, field, part, fields_of, parts_of, field_view, part_view, keyed_field_view, keyed_part_view}
use Rattle.hq_request_build.proofs.ask.+asking.Goals as goal

pub ask_fields-returns : goal.ask_fields-returns
ask_fields-returns t c =
    let d : Context = context_view c.args.context.now in
    c.loop-field.invariant
    ∙ at_drop_all
    (λ (fs : List CollectedField). mapped (front field (map keyed_field_view c.loop-field.asks.items))
    (fields_due d c.args.place c.args.t (trees_of (map collected_view fs))))
    c.deref-field-items.result.now c.loop-field.field-index c.loop-field-test.false
    ∙ ap Ok (fields_end (map keyed_field_view c.loop-field.asks.items))

pub ask_fields-returns-in_err-ask : goal.ask_fields-returns-in_err-ask
ask_fields-returns-in_err-ask t c =
    let d : Context = context_view c.args.context.now in
    let e : CoerceRefusal = c.in_err-ask.field-0.0 in
    passed_up (λ v. fields_of (map keyed_field_view v.items)) Memory e _ _ c.from_residual-in_err-ask.result
    (walk_refused field (field_due d c.args.place c.args.t) (λ fs. fields_due d c.args.place c.args.t (trees_of (map collected_view fs))) (λ f fs. refl)
    c.deref-field-items.result.now c.loop-field.field-index c.field-item.result (map keyed_field_view c.loop-field.asks.items) e _ c.loop-field.invariant c.loop-field-test.true c.field-item.is)
    c.in_err-ask.ensures c.from_residual-in_err-ask.ensures.1

pub ask_fields-loop-field-preserved : goal.ask_fields-loop-field-preserved
ask_fields-loop-field-preserved t c =
    let d : Context = context_view c.args.context.now in
    walk_more field (field_due d c.args.place c.args.t) (λ fs. fields_due d c.args.place c.args.t (trees_of (map collected_view fs))) (λ f fs. refl)
    c.deref-field-items.result.now c.loop-field.field-index c.field-item.result (map keyed_field_view c.loop-field.asks.items) _
    (field_view c.in_ok-ask.ask) _ c.loop-field.invariant c.loop-field-test.true c.field-item.is c.in_ok-ask.ensures
    (ap (map keyed_field_view) c.in_ok-push.ensures.items ∙ map-append keyed_field_view _ _
    ∙ ap (λ p. map keyed_field_view c.loop-field.asks.items ++ p ∷ [])
    (c.keyed.ensures ∙ ap (λ k. (k, field_view c.in_ok-ask.ask)) (c.in_ok-key.ensures ∙ c.key.ensures)))

pub ask_parts-returns : goal.ask_parts-returns
ask_parts-returns t c =
    let d : Context = context_view c.args.context.now in
    c.loop-field.invariant
    ∙ at_drop_all
    (λ (fs : List CollectedField). mapped (front part (map keyed_part_view c.loop-field.parts.items))
    (parts_due d c.args.place c.args.t (trees_of (map collected_view fs))))
    c.deref-field-items.result.now c.loop-field.field-index c.loop-field-test.false
    ∙ ap Ok (parts_end (map keyed_part_view c.loop-field.parts.items))

pub ask_parts-returns-in_err-part : goal.ask_parts-returns-in_err-part
ask_parts-returns-in_err-part t c =
    let d : Context = context_view c.args.context.now in
    let e : CoerceRefusal = c.in_err-part.field-0.0 in
    passed_up (λ v. parts_of (map keyed_part_view v.items)) Memory e _ _ c.from_residual-in_err-part.result
    (walk_refused part (part_due d c.args.place c.args.t) (λ fs. parts_due d c.args.place c.args.t (trees_of (map collected_view fs))) (λ f fs. refl)
    c.deref-field-items.result.now c.loop-field.field-index c.field-item.result (map keyed_part_view c.loop-field.parts.items) e _ c.loop-field.invariant c.loop-field-test.true c.field-item.is)
    c.in_err-part.ensures c.from_residual-in_err-part.ensures.1

pub ask_parts-loop-field-preserved : goal.ask_parts-loop-field-preserved
ask_parts-loop-field-preserved t c =
    let d : Context = context_view c.args.context.now in
    walk_more part (part_due d c.args.place c.args.t) (λ fs. parts_due d c.args.place c.args.t (trees_of (map collected_view fs))) (λ f fs. refl)
    c.deref-field-items.result.now c.loop-field.field-index c.field-item.result (map keyed_part_view c.loop-field.parts.items) _
    (part_view c.in_ok-part.part) _ c.loop-field.invariant c.loop-field-test.true c.field-item.is c.in_ok-part.ensures
    (ap (map keyed_part_view) c.in_ok-push.ensures.items ∙ map-append keyed_part_view _ _
    ∙ ap (λ p. map keyed_part_view c.loop-field.parts.items ++ p ∷ [])
    (c.keyed_part.ensures ∙ ap (λ k. (k, part_view c.in_ok-part.part)) (c.in_ok-key.ensures ∙ c.key.ensures)))

pub ask_list-returns : goal.ask_list-returns
ask_list-returns t c =
    let x = context_view c.args.context.now in
    let f = parts_seen c.args.field.now in
    let k = known_view c.args.known in
    let to : c.base-to.result ≡ leads_to k = search rules in
    let rows : rows_of f.head k.1 ≡ Ok (arguments_view c.in_ok-args.args.value) = search rules in
    subst (λ due. Gives field_view Memory due c.ask_rows.result)
    (ap (λ p. mapped (list (origin_of c.args.table c.args.rel) (arguments_view c.in_ok-args.args.value)) (fields_due x p c.args.table f.below)) to
    ∙ sym (ap (and_then (λ a. mapped (list (origin_of c.args.table c.args.rel) a) (fields_due x (leads_to k) c.args.table f.below))) rows))
    c.ask_rows.ensures

pub ask_aggregate-returns : goal.ask_aggregate-returns
ask_aggregate-returns t c =
    let x = context_view c.args.context.now in
    let f = parts_seen c.args.field.now in
    let k = known_view c.args.known in
    let to : c.base-to.result ≡ leads_to k = search rules in
    let rows : rows_of f.head k.1 ≡ Ok (arguments_view c.in_ok-args.args.value) = search rules in
    subst (λ due. Gives field_view Memory due c.ask_totals.result)
    (ap (λ p. mapped (aggregate (origin_of c.args.table c.args.rel) (arguments_view c.in_ok-args.args.value)) (parts_due x p c.args.table f.below)) to
    ∙ sym (ap (and_then (λ a. mapped (aggregate (origin_of c.args.table c.args.rel) a) (parts_due x (leads_to k) c.args.table f.below))) rows))
    c.ask_totals.ensures
