use Rattle.std.proofs.Common.{◌∙◌, sym, ap, Some, map}
use Rattle.hq_base.specs.Json.{json_view, member_view}
use Rattle.hq_base.specs.Look.{object_in}
use Rattle.hq_base.proofs.Looks.{view-Obj, member_list-members_of}
use Rattle.hq_base.proofs.json.Json.as_object.Goals as goal

pub returns-in-Obj : goal.returns-in-Obj
returns-in-Obj c =
    ap (λ ms. Some (map member_view ms)) c.as_slice.ensures.value
    ∙ ap Some (sym (member_list-members_of (map member_view c.in-Obj.ms.items)))
    ∙ sym (ap object_in (ap json_view c.in-Obj.is ∙ view-Obj c.in-Obj.ms))
