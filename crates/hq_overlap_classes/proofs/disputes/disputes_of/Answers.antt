-- The classes that are marked.
use Rattle.hq_overlap_classes.proofs.disputes.disputes_of.Goals as goal

pub returns : goal.returns
returns c = record {
  noted = record { classes = c.in_ok-note_sets.ensures.classes; labels = c.in_ok-note_sets.ensures.labels; disputed = c.in_ok-note_sets.ensures.disputed };
  concerned = c.in_ok-disputes-2.ensures;
}
