use Rattle.std.proofs.Common.{◌≡◌, ◌∙◌, ap, List, [], ◌∷◌, ◌≤◌, length, map, get_or, Bool, false, ◌||◌, bytes_eq, not, arith}
use Rattle.std.specs.List.{list_any}
use Rattle.hq_rules_doc.specs.declared.rules.single_field_subscriptions.RootField.{RootField}
use Rattle.hq_rules_doc.specs.RootFields.{root_field_view}
use Rattle.hq_rules_doc.specs.Subscriptions.{is_introspection, are_wrong_root_fields}
use Rattle.hq_rules_doc.proofs.RootKeys.{by_first}
use Rattle.hq_rules_doc.proofs.rules.single_field_subscriptions.are_wrong_root_fields.Goals as goal

-- where there is a field, its key is compared with all of them
wrong_by : (fields : List RootField) (d : RootField) (b : Bool) → 1 ≤ length fields → b ≡ list_any (λ g. not (bytes_eq (get_or fields 0 d).key.now g.key)) (map root_field_view fields)
    → (b || list_any is_introspection (map root_field_view fields)) ≡ are_wrong_root_fields (map root_field_view fields)
wrong_by [] d b some e = absurd (omega arith)
wrong_by (f ∷ fields) d b some e =
    ap (λ c. c || list_any is_introspection (map root_field_view (f ∷ fields))) (e ∙ by_first (root_field_view f) (map root_field_view fields))

pub returns-else-any_other : goal.returns-else-any_other
returns-else-any_other c = c.any_introspection.ensures ∙ wrong_by c.args.fields.now _ false c.in-len1-up.len_at_least c.if-any_other.ensures
