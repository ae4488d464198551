use Rattle.std.proofs.Common.{◌≡◌, ◌∙◌, [], ◌∷◌, ◌++◌, List, ap, map, subst, append_assoc}
use Rattle.std.specs.Prelude.{OnOk}
use Rattle.std.proofs.lemmas.List.{map-append}
use Rattle.hq_schema.specs.Schema.{FieldTree, field_view}
use Rattle.hq_schema.specs.declared.origin.FieldOrigin.TheVariants as origin
use Rattle.hq_schema_of_role.specs.Fields.{list_field}
use Rattle.hq_schema_of_role.specs.Root.{key_fields, aggregate_root}
use Rattle.hq_schema_of_role.proofs.root.push_roots.Goals as goal

pub returns : goal.returns
returns c =
    let p = c.args.placed.now in
    let old = map field_view c.args.fields.now.items in
    let root = field_view c.in_ok-list_field.field-0 in
    let rest = aggregate_root p in
    let keys = key_fields p p.shown.key in
    subst (λ (fs : List FieldTree). OnOk c.push_by_key.result (map field_view c.push_by_key.new.fields.items ≡ fs))
    (ap (λ fs. fs ++ keys) (c.in_ok-push_aggregate.ensures ∙ ap (λ fs. fs ++ rest) (ap (map field_view) c.in_ok-push.ensures.items ∙ map-append field_view _ _))
    ∙ append_assoc (old ++ root ∷ []) rest keys
    ∙ append_assoc old (root ∷ []) (rest ++ keys)
    ∙ ap (λ f. old ++ f ∷ (rest ++ keys)) (c.in_ok-list_field.ensures ∙ ap (λ n. list_field n p.first (origin.Rows p.shown.table)) c.in_ok-name.ensures))
    c.push_by_key.ensures
