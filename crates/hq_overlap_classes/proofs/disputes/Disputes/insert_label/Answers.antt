-- One more field stands in its class.
use Rattle.std.proofs.Common.{◌∙◌, ℕ, sym, subst, inl, inr, nat_eq, ◌&&◌}
use Rattle.std.proofs.lemmas.Bool.{and_parts, eqb-true}
use Rattle.hq_schema.specs.Schema.{schema_view}
use Rattle.hq_overlap_sets.specs.declared.sets.Entry.{Entry}
use Rattle.hq_overlap_sets.specs.Sets.{entry_view, arena_view}
use Rattle.hq_overlap_classes.specs.Classes.{IsOfClass}
use Rattle.hq_overlap_classes.specs.Disputes.{label_of}
use Rattle.hq_overlap_classes.proofs.Joining.{some_by}
use Rattle.hq_overlap_classes.proofs.disputes.Disputes.insert_label.Goals as goal

pub returns : goal.returns
returns c =
    let s = schema_view c.args.arena.now.schema.now in
    let sets = arena_view c.args.arena.now in
    let x = c.args.entry.now in
    record {
      classes = c.requires.sound.classes;
      labels = λ d k p e h.
          let same = nat_eq c.args.class d && nat_eq c.args.key k in
          elim (some_by (same && nat_eq x.parent p) x e (label_of c.args.self.now d k p) (sym (c.in_ok-insert.ensures.updates.0 (d, k, p)) ∙ h)) [
            | inl new ↦
                subst (λ (m : ℕ). IsOfClass sets m (entry_view s e)) (eqb-true c.args.class d (and_parts (nat_eq c.args.class d) (nat_eq c.args.key k) (and_parts same (nat_eq x.parent p) new.0).0).0)
                (subst (λ (y : Entry). IsOfClass sets c.args.class (entry_view s y)) new.1 c.requires.stands)
            | inr old ↦ c.requires.sound.labels d k p e old
          ];
      disputed = c.requires.sound.disputed;
    }
