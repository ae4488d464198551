use Rattle.hq_request_build.proofs.summaries.taken_below.Goals as goal

pub returns : goal.returns
returns c = c.ask_all_taken.ensures
