use Rattle.hq_load_tables.proofs.Arranged.{IsArranged}
use Rattle.hq_load_tables.proofs.load.record.arrange.Given as goal

abbrev pub invariant-loop-place : goal.invariant-loop-place
invariant-loop-place l = IsArranged l.initial.rows.items l.initial.values.items l.values.items l.places l.place-index l.rows.items
