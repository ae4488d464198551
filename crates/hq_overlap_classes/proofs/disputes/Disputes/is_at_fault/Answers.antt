-- The mark of the class.
use Rattle.std.proofs.Common.{◌∙◌, ap, sym, List, Bool, Some}
use Rattle.std.specs.Prelude.{slice_get}
use Rattle.hq_overlap_sets.specs.Sets.{arena_view}
use Rattle.hq_overlap_classes.proofs.Joining.{fault_of_class}
use Rattle.hq_overlap_classes.proofs.disputes.Disputes.is_at_fault.Goals as goal

pub returns-in-Some : goal.returns-in-Some
returns-in-Some c = λ held.
    let marks = c.args.self.now.concerned.items in
    let at = ap (λ (ms : List Bool). slice_get ms c.class_of.result) c.deref.ensures.value in
    fault_of_class (arena_view c.args.arena.now) c.args.self.now.classes.sets c.class_of.result c.args.number c.requires.noted.classes.partition c.class_of.ensures
    (c.requires.concerned c.class_of.result (sym at ∙ (sym c.in-Some.ensures ∙ ap (λ (b : Bool). Some b) held)))
