use Rattle.hq_sql_constants.proofs.walked.in_range.Goals as goal

pub returns : goal.returns
returns c = rw (c.in-Stored-Some.is-0, c.in-Stored-Some.is-1) c.walked.ensures
