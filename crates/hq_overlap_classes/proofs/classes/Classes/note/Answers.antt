-- A field of a key that was seen, and one of a key that was not.
use Rattle.std.proofs.Common.{sym}
use Rattle.std.proofs.lemmas.Result.{on_ok_weaker}
use Rattle.hq_overlap_classes.proofs.classes.Classes.note.Goals as goal

pub push_below-requires-clause-first : goal.push_below-requires-clause-first
push_below-requires-clause-first c = c.requires.sound.firsts c.args.class c.key_of-key.result c.in-Some.first (sym c.in-Some.ensures)

pub returns-in-Some-clause-sound : goal.returns-in-Some-clause-sound
returns-in-Some-clause-sound c = on_ok_weaker c.push_below.result (λ _. c.requires.sound) c.push_below.ensures

pub returns-in-None-clause-pending : goal.returns-in-None-clause-pending
returns-in-None-clause-pending c = on_ok_weaker c.note_first.result (λ _. c.requires.pending) c.note_first.ensures
