-- What the member of an object reads, by the input field that its name finds.
use Rattle.std.proofs.Common.{◌≡◌, ◌∙◌, sym, ap, ℕ, List, Some}
use Rattle.hq_base.specs.Json.{JsonTree, json_view, member_view}
use Rattle.hq_base.specs.declared.json.Member.{Member}
use Rattle.hq_base.proofs.Looks.{view-Member}
use Rattle.hq_schema.specs.Look.{input_field_of}
use Rattle.hq_schema.specs.Schema.{base, arg_view, type_ref_view}
use Rattle.hq_schema.specs.declared.schema.ArgDef.{ArgDef}
use Rattle.hq_request_arguments.specs.Context.{Context}
use Rattle.hq_request_arguments.specs.Sorts as sorts
use Rattle.hq_request_arguments.specs.Where as filter

-- of a filter
pub filter_named : (x : Context) (p t q : ℕ) (m : Member) (a : ArgDef) → Some (arg_view a) ≡ input_field_of x.schema p m.name → q ≡ base (type_ref_view a.ty)
    → filter.by_origin (λ r u. filter.filter_due (json_view m.value) x r u) (λ r. filter.filters_due (json_view m.value) x r t) (json_view m.value) x t q a.origin
    ≡ filter.named_due x p t (member_view m).0 (member_view m).1
filter_named x p t q m a found is =
    ap (λ r. filter.by_origin (λ r u. filter.filter_due (json_view m.value) x r u) (λ r. filter.filters_due (json_view m.value) x r t) (json_view m.value) x t r a.origin) is
    ∙ ap (λ o. filter.member_due (λ r u. filter.filter_due (json_view m.value) x r u) (λ r. filter.filters_due (json_view m.value) x r t) (json_view m.value) x t o) found
    ∙ ap (λ (n : List ℕ × JsonTree). filter.named_due x p t n.0 n.1) (sym (view-Member m))

-- of an entry of order_by
pub sort_named : (x : Context) (through : List ℕ) (p t q : ℕ) (m : Member) (a : ArgDef) → Some (arg_view a) ≡ input_field_of x.schema p m.name → q ≡ base (type_ref_view a.ty)
    → sorts.by_origin (λ deeper r u. sorts.entry_due (json_view m.value) x deeper r u) (json_view m.value) x through t q a.origin
    ≡ sorts.named_due x through p t (member_view m).0 (member_view m).1
sort_named x through p t q m a found is =
    ap (λ r. sorts.by_origin (λ deeper r u. sorts.entry_due (json_view m.value) x deeper r u) (json_view m.value) x through t r a.origin) is
    ∙ ap (λ o. sorts.member_due (λ deeper r u. sorts.entry_due (json_view m.value) x deeper r u) (json_view m.value) x through t o) found
    ∙ ap (λ (n : List ℕ × JsonTree). sorts.named_due x through p t n.0 n.1) (sym (view-Member m))
