use Rattle.hq_load_filter.proofs.Nested.{body_nesting, member_nesting, element_nesting}
use Rattle.hq_load_filter.proofs.laws.nesting_is_bounded.Goals as goal

pub returns-clause-body : goal.returns-clause-body
returns-clause-body c = body_nesting

pub returns-clause-member : goal.returns-clause-member
returns-clause-member c = member_nesting

pub returns-clause-element : goal.returns-clause-element
returns-clause-element c = element_nesting
