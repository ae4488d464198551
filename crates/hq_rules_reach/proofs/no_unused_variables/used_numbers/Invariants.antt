use Rattle.std.proofs.Common.{◌≡◌, ◌<◌, ℕ, take, length, get_or, false}
use Rattle.hq_rules_reach.specs.Uses.{numbers_view}
use Rattle.hq_rules_reach.specs.Variables.{is_number_used_in}
use Rattle.hq_rules_reach.proofs.no_unused_variables.used_numbers.Given as goal

-- the numbers that are used in the definitions so far are marked
abbrev pub invariant-loop-at : goal.invariant-loop-at
invariant-loop-at l = record {
  as_long : length l.marks.items ≡ l.count;
  marked : (n : ℕ) → n < l.count → get_or l.marks.items n false ≡ is_number_used_in (numbers_view l.all) (take l.at-index l.definitions) n;
}
