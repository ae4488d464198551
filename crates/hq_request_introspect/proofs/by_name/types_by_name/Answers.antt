use Rattle.std.proofs.Common.{◌∙◌, ap, List, map}
use Rattle.std.specs.Cmp.Lexicographic.{slice_cmp}
use Rattle.std.specs.Ordering.{nat_cmp, on}
use Rattle.hq_base.specs.Lists.{sort}
use Rattle.hq_schema.specs.Schema.{TypeTree, type_view}
use Rattle.hq_schema.specs.declared.schema.TypeDef.{TypeDef}
use Rattle.hq_request_introspect.specs.Types.{sorted_types, types_by_name}
use Rattle.hq_request_introspect.specs.Views.{entry_view}
use Rattle.hq_request_introspect.specs.declared.by_name.Entry.{Entry}
use Rattle.hq_request_introspect.proofs.ByName.{sorted_under}
use Rattle.hq_request_introspect.proofs.by_name.types_by_name.Goals as goal

pub returns : goal.returns
unfolding types_by_name
returns c =
    c.in_ok-types.ensures
    ∙ (ap (λ (es : List Entry). sorted_types (map entry_view es)) c.deref_mut.ensures.value
    ∙ (ap sorted_types c.in_ok-entries.ensures
    ∙ (sorted_under (map type_view c.as_slice.result.now)
    ∙ ap (λ (ts : List TypeDef). sort (on (λ (t : TypeTree). t.name) (slice_cmp nat_cmp)) (map type_view ts)) c.as_slice.ensures)))
