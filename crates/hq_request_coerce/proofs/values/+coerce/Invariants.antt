use Rattle.std.proofs.Common.{◌≡◌, ◌++◌, map, drop}
use Rattle.std.specs.Prelude.{option_map}
use Rattle.hq_base.specs.Json.{json_view, member_view, elements_of, members_of}
use Rattle.hq_schema.specs.Schema.{schema_view, type_ref_view}
use Rattle.hq_request_coerce.specs.Coercion.{coerced_elements, coerced_members}
use Rattle.hq_request_coerce.proofs.values.+coerce.Given as goal

-- the elements so far, and then those of the rest
abbrev pub invariant-coerce_elements-loop-element : goal.invariant-coerce_elements-loop-element
invariant-coerce_elements-loop-element l =
    let s = schema_view l.schema in
    let r = type_ref_view l.item in
    coerced_elements s (elements_of (map json_view l.elements.items)) r
    ≡ option_map (λ rest. map json_view l.list.items ++ rest) (coerced_elements s (elements_of (map json_view (drop l.element-index l.element-items))) r)

-- the members so far, and then those of the rest
abbrev pub invariant-coerce_members-loop-member : goal.invariant-coerce_members-loop-member
invariant-coerce_members-loop-member l =
    let s = schema_view l.schema in
    coerced_members s (members_of (map member_view l.members.items)) l.t
    ≡ option_map (λ rest. map member_view l.object.items ++ rest) (coerced_members s (members_of (map member_view (drop l.member-index l.member-items))) l.t)
