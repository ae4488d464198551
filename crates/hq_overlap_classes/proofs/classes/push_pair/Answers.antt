-- One more pair.
use Rattle.std.proofs.Common.{sym, subst}
use Rattle.std.specs.List.{All}
use Rattle.std.proofs.lemmas.List.Elements.{All-push}
use Rattle.hq_overlap_sets.specs.declared.sets.Pair.{Pair}
use Rattle.hq_overlap_sets.specs.Sets.{arena_view}
use Rattle.hq_overlap_classes.specs.Classes.{Joined}
use Rattle.hq_overlap_classes.proofs.classes.push_pair.Goals as goal

pub returns : goal.returns
returns c =
    let P = λ (p : Pair). Joined (arena_view c.args.arena.now) p.left p.right in
    subst (All P) (sym c.in_ok-push.ensures.items) (All-push P c.args.pending.now.items _ c.requires.pending c.requires.joined)
