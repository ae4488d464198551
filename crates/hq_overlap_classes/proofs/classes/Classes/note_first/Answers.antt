-- One more field stands in its class.
use Rattle.std.proofs.Common.{◌∙◌, ℕ, sym, subst, inl, inr, nat_eq, ◌&&◌}
use Rattle.std.proofs.lemmas.Bool.{and_parts, eqb-true}
use Rattle.hq_schema.specs.Schema.{schema_view}
use Rattle.hq_overlap_sets.specs.declared.sets.Entry.{Entry}
use Rattle.hq_overlap_sets.specs.Sets.{entry_view, arena_view}
use Rattle.hq_overlap_classes.specs.Classes.{IsOfClass}
use Rattle.hq_overlap_classes.specs.Disputes.{first_of}
use Rattle.hq_overlap_classes.proofs.Joining.{some_by}
use Rattle.hq_overlap_classes.proofs.classes.Classes.note_first.Goals as goal

pub returns : goal.returns
returns c =
    let s = schema_view c.args.arena.now.schema.now in
    let sets = arena_view c.args.arena.now in
    record {
      partition = c.requires.sound.partition;
      firsts = λ d k e h.
          elim (some_by (nat_eq c.args.class d && nat_eq c.args.key k) c.args.entry.now e (first_of c.args.self.now d k) (sym (c.in_ok-insert.ensures.updates.0 (d, k)) ∙ h)) [
            | inl new ↦
                subst (λ (m : ℕ). IsOfClass sets m (entry_view s e)) (eqb-true c.args.class d (and_parts (nat_eq c.args.class d) (nat_eq c.args.key k) new.0).0)
                (subst (λ (x : Entry). IsOfClass sets c.args.class (entry_view s x)) new.1 c.requires.stands)
            | inr old ↦ c.requires.sound.firsts d k e old
          ];
    }
