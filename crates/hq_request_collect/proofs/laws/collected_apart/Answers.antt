use Rattle.hq_request_collect.proofs.Differ.{down_distinct, down_levels}
use Rattle.hq_request_collect.proofs.laws.collected_apart.Goals as goal

pub returns : goal.returns
returns c = λ r ss. record { distinct = down_distinct 50 50 r ss; shallow = down_levels 50 50 r ss }
