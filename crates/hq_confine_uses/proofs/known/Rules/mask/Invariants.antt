use Rattle.std.proofs.Common.{◌≡◌, ◌==◌, drop, map}
use Rattle.std.specs.List.{list_any}
use Rattle.hq_model.specs.PermView.{mask_view}
use Rattle.hq_model.specs.Permitted.{mask_of}
use Rattle.hq_confine_uses.proofs.known.Rules.mask.Given as goal

-- the masks that are left tell what all do
abbrev pub invariant-loop-mask : goal.invariant-loop-mask
invariant-loop-mask l = record {
  any : list_any (λ m. m.column == l.c) (map mask_view (drop l.mask-index l.mask-items)) ≡ list_any (λ m. m.column == l.c) (map mask_view l.mask-items);
  shown : mask_of (map mask_view (drop l.mask-index l.mask-items)) l.c ≡ mask_of (map mask_view l.mask-items) l.c;
}
