use Rattle.std.proofs.Common.{◌≡◌, ◌+◌, ℕ, sym, subst, rules, arith}
use Rattle.std.proofs.lemmas.Map.Text.{hash_map_updates_str}
use Rattle.hq_gql_nodes.specs.Names.{get_name}
use Rattle.hq_rules_reach.specs.Uses.{AreNumbers}
use Rattle.hq_rules_reach.proofs.ByNumber.{added_kept, added_numbers}
use Rattle.hq_rules_reach.proofs.numbers.Numbers.add.Goals as goal

pub returns-clause-numbers : goal.returns-clause-numbers
returns-clause-numbers c =
    let one_more : c.in-Some.count ≡ c.args.self.now.count + 1 = first_of (search rules, omega arith) in
    subst (λ (k : ℕ). AreNumbers (get_name c.insert.new.self) k) (sym one_more)
    (added_numbers (get_name c.args.self.now.names) (get_name c.insert.new.self) c.args.name.now c.args.self.now.count
    (λ q. hash_map_updates_str c.args.name.now c.args.self.now.names c.insert.new.self _ c.in_ok-insert.ensures.updates q) c.requires.numbers)

pub returns-clause-kept : goal.returns-clause-kept
returns-clause-kept c =
    added_kept (get_name c.args.self.now.names) (get_name c.insert.new.self) c.args.name.now c.args.self.now.count
    (λ q. hash_map_updates_str c.args.name.now c.args.self.now.names c.insert.new.self _ c.in_ok-insert.ensures.updates q) c.requires.absent
