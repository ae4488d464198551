-- The class of two fields that cannot merge is at fault.
use Rattle.std.proofs.Common.{◌∙◌, ap, sym, subst, inl, inr, nat_eq, ◌&&◌, true}
use Rattle.std.specs.Prelude.{is_some}
use Rattle.std.proofs.lemmas.Bool.{and_parts, eqb-true}
use Rattle.hq_overlap_sets.specs.Sets.{arena_view}
use Rattle.hq_overlap_classes.specs.Classes as class
use Rattle.hq_overlap_classes.specs.Classes.{AtFault}
use Rattle.hq_overlap_classes.proofs.Joining.{mark_by}
use Rattle.hq_overlap_classes.proofs.disputes.Disputes.dispute.Goals as goal

pub returns : goal.returns
returns c =
    let sets = arena_view c.args.arena.now in
    let fault : AtFault sets c.args.class = class.differ c.requires.first c.requires.second c.requires.differ in
    record {
      classes = c.requires.sound.classes;
      labels = c.requires.sound.labels;
      disputed = λ d k h.
          elim (mark_by (nat_eq c.args.class d && nat_eq c.args.key k) true _ (sym (ap is_some (c.in_ok-insert.ensures.updates.0 (d, k))) ∙ h)) [
            | inl new ↦ subst (AtFault sets) (eqb-true c.args.class d (and_parts (nat_eq c.args.class d) (nat_eq c.args.key k) new).0) fault
            | inr old ↦ c.requires.sound.disputed d k old
          ];
    }
