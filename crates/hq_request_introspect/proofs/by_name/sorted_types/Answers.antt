use Rattle.std.proofs.Common.{◌∙◌, sym, ap, map}
use Rattle.hq_base.specs.Lists.{sort}
use Rattle.hq_base.proofs.Lists.{map_map}
use Rattle.hq_base.proofs.Sorts.{sort_map}
use Rattle.hq_schema.specs.Schema.{type_view}
use Rattle.hq_request_introspect.specs.Views.{entry_view}
use Rattle.hq_request_introspect.specs.declared.by_name.Entry.{Entry}
use Rattle.hq_request_introspect.proofs.ByName.{by_text, type_of}
use Rattle.hq_request_introspect.proofs.by_name.sorted_types.Goals as goal

pub returns : goal.returns
returns c =
    let sorted = sort (λ (x y : Entry). by_text (entry_view x) (entry_view y)) c.args.entries.now in
    c.in_ok-types.ensures
    ∙ (ap (map (λ (e : Entry). type_view e.def.now)) c.in_ok-sort.ensures
    ∙ (sym (map_map type_of entry_view sorted) ∙ ap (map type_of) (sym (sort_map entry_view by_text c.args.entries.now))))
