use Rattle.std.proofs.Common.{◌∙◌, sym, ap, Some, map}
use Rattle.hq_base.specs.Json.{json_view}
use Rattle.hq_base.specs.Look.{array_in}
use Rattle.hq_base.proofs.Looks.{view-Arr, element_list-elements_of}
use Rattle.hq_base.proofs.json.Json.as_array.Goals as goal

pub returns-in-Arr : goal.returns-in-Arr
returns-in-Arr c =
    ap (λ js. Some (map json_view js)) c.as_slice.ensures.value
    ∙ ap Some (sym (element_list-elements_of (map json_view c.in-Arr.js.items)))
    ∙ sym (ap array_in (ap json_view c.in-Arr.is ∙ view-Arr c.in-Arr.js))
