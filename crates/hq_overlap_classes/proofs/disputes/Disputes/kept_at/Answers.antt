-- What is kept of a set, as it is seen.
use Rattle.std.proofs.Common.{◌∙◌, ap, sym, Some}
use Rattle.std.specs.Prelude.{option_map}
use Rattle.hq_schema.specs.Schema.{schema_view}
use Rattle.hq_overlap_classes.specs.Disputes.{kept_set, noted_in}
use Rattle.hq_overlap_sets.specs.Sets.{SetTree}
use Rattle.hq_overlap_sets.proofs.ArenaLemmas.{set_here}
use Rattle.hq_overlap_classes.proofs.Sifting.{kept_view}
use Rattle.hq_overlap_sets.proofs.Stepping.{if_ok_weaker2}
use Rattle.hq_overlap_classes.proofs.disputes.Disputes.kept_at.Goals as goal

pub returns-in-Some : goal.returns-in-Some
returns-in-Some c =
    let a = c.args.arena.now in
    let s = schema_view a.schema.now in
    let n = noted_in s c.args.self.now in
    if_ok_weaker2 c.kept_set.result
    (λ y f g. ap (option_map (kept_set n c.args.number)) (set_here a c.args.number c.in-Some.set.now (sym c.in-Some.ensures))
    ∙ ap (λ (x : SetTree). Some x) (sym (kept_view s c.args.self.now c.args.number c.in-Some.set.now y f g)))
    c.kept_set.ensures.entries c.kept_set.ensures.spreads
