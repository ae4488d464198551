use Rattle.std.proofs.Common.{subst, sym}
use Rattle.std.specs.List.{All}
use Rattle.std.proofs.lemmas.List.Elements.{All-push}
use Rattle.hq_gql_nodes.specs.Names.{get_name}
use Rattle.hq_rules_reach.specs.Uses.{IsNumbered}
use Rattle.hq_rules_reach.proofs.ByNumber.{numbered_kept}
use Rattle.hq_rules_reach.proofs.uses.push_use.Goals as goal

pub returns-clause-numbered : goal.returns-clause-numbered
returns-clause-numbered c =
    let old = get_name c.args.numbers.now.names in
    let new = get_name c.number.new.self.names in
    subst (All (IsNumbered new)) (sym c.in_ok-push.ensures.items)
    (All-push (IsNumbered new) c.args.uses.now.items _ (numbered_kept old new c.in_ok-number.ensures.kept c.args.uses.now.items c.requires.numbered) c.in_ok-number.ensures.given)
