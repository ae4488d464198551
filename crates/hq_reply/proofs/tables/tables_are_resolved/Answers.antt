use Rattle.hq_reply.proofs.Resolved.{is_resolved, none_object}
use Rattle.hq_reply.proofs.tables.tables_are_resolved.Goals as goal

pub returns-clause-values : goal.returns-clause-values
returns-clause-values c s g d fs = is_resolved s g d fs

pub returns-clause-none : goal.returns-clause-none
returns-clause-none c of_table fs h = none_object of_table fs h
