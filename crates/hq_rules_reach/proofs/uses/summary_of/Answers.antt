use Rattle.std.proofs.Common.{sym, subst, List, Vec, Global}
use Rattle.std.proofs.lemmas.Result.{IfOk-weaker}
use Rattle.std.specs.List.{All}
use Rattle.hq_gql_nodes.specs.Fragments.{Places}
use Rattle.hq_gql_nodes.specs.Names.{get_name}
use Rattle.hq_rules_reach.specs.declared.uses.Use.{Use}
use Rattle.hq_rules_reach.specs.Uses.{IsNumbered}
use Rattle.hq_rules_reach.proofs.uses.summary_of.Goals as goal

pub returns-clause-numbered : goal.returns-clause-numbered
returns-clause-numbered c =
    let f = get_name c.uses_of.new.numbers.names in
    let numbered : All (IsNumbered f) c.deref.result.now = subst (λ (us : List Use). All (IsNumbered f) us) (sym c.deref.ensures.value) c.in_ok-uses.ensures.numbered in
    IfOk-weaker c.summary.result (λ (kept : Vec Use Global). (number_of : Places) → All (IsNumbered number_of) c.deref.result.now → All (IsNumbered number_of) kept.items)
    (λ (kept : Vec Use Global). All (IsNumbered f) kept.items) (λ kept h. h f numbered) c.summary.ensures.numbered
