use Rattle.hq_translation.specs.Asked.{table_request}
use Rattle.hq_translation.proofs.Asked.{means_asked}
use Rattle.hq_translation.proofs.requests.requests_mean_resolved.Goals as goal

pub returns : goal.returns
returns c tables m session a d = means_asked tables m session a d (c.touched_tables_decide.ensures.requests tables m session (table_request a) d)
