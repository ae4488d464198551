-- The class of a key in dispute is at fault.
use Rattle.std.proofs.Common.{◌∙◌, sym, subst}
use Rattle.std.specs.List.{All}
use Rattle.std.proofs.lemmas.List.Elements.{All-push}
use Rattle.hq_overlap_sets.specs.Sets.{arena_view}
use Rattle.hq_overlap_classes.specs.Classes.{AtFault}
use Rattle.hq_overlap_classes.proofs.leading.add_start.Goals as goal

pub returns-in_ok-push : goal.returns-in_ok-push
returns-in_ok-push c =
    let sets = arena_view c.args.arena.now in
    subst (All (AtFault sets)) (sym c.in_ok-push.ensures.items)
    (All-push (AtFault sets) c.args.starts.now.items c.args.class c.requires.starts (c.requires.sound.disputed c.args.class c.args.key (sym c.is_disputed.ensures ∙ c.if-is_disputed.true)))
