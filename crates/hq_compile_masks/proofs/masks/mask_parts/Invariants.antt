use Rattle.std.proofs.Common.{◌≡◌, ◌+◌, ◌++◌, drop, map}
use Rattle.hq_model.specs.PermView.{mask_view}
use Rattle.hq_model.specs.Schema.{Schema}
use Rattle.hq_sql_tree.specs.View.{join_view}
use Rattle.hq_translation.specs.Masks.{mask_numbers, mask_joins}
use Rattle.hq_compile_tables.specs.Contexts.{context_schema}
use Rattle.hq_compile_masks.specs.MaskPlaces.{used_of, mask_places}
use Rattle.hq_compile_masks.proofs.masks.mask_parts.Given as goal

-- what is there so far, and then that of the masks that are left, is that of all
abbrev pub invariant-loop-mask : goal.invariant-loop-mask
invariant-loop-mask l =
    let s : Schema = context_schema l.context in
    let rest = used_of l.used (map mask_view (drop l.mask-index l.mask-items)) in
    let all = used_of l.used (map mask_view l.mask-items) in
    record {
      joins : map join_view l.parts.joins.items ++ mask_joins rest s l.t l.p l.next ≡ mask_joins all s l.t l.p l.fn.next;
      places : l.parts.places ++ mask_places rest s l.t l.next ≡ mask_places all s l.t l.fn.next;
      numbers : l.next + mask_numbers rest s l.t ≡ l.fn.next + mask_numbers all s l.t;
    }
