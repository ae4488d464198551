-- The first fields of the key, and of the key and the parent type.
use Rattle.std.proofs.Common.{◌∙◌, ap, sym, map, List, ℕ}
use Rattle.std.specs.Prelude.{slice_get}
use Rattle.std.proofs.lemmas.Result.{IfOk-weaker}
use Rattle.hq_overlap_sets.specs.Sets.{field_in, place_in}
use Rattle.hq_overlap_sets.proofs.ArenaLemmas.{get_map}
use Rattle.hq_rules_overlap.proofs.found.is_settled.Goals as goal

pub returns : goal.returns
returns c =
    let f = field_in c.args.arena.now in
    let fields = map f c.args.entries.now in
    let place = c.place_of.ensures ∙ ap (λ (k : List ℕ). place_in c.args.heads.now.keys k) c.key.ensures in
    IfOk-weaker c.are_alike.result _ _
    (λ alike both held. record {
      of_key = f c.in-Some.first;
      of_parent = f c.in-Some-entry_at.label;
      key = ap (slice_get fields) (sym place) ∙ get_map f c.args.entries.now c.place_of.result c.in-Some.first (sym c.in-Some.ensures);
      parent = ap (slice_get fields) (sym c.label_place.ensures) ∙ get_map f c.args.entries.now c.label_place.result c.in-Some-entry_at.label (sym c.in-Some-entry_at.ensures);
      shape = (both held).0;
      same = (both held).1;
    })
    c.are_alike.ensures
