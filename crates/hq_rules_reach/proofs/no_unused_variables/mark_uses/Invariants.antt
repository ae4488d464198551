use Rattle.std.proofs.Common.{◌≡◌, ◌<◌, ◌||◌, ◌==◌, ℕ, map, take, length, get_or, false}
use Rattle.std.specs.List.{list_any}
use Rattle.hq_rules_reach.specs.Uses.{number_view}
use Rattle.hq_rules_reach.proofs.no_unused_variables.mark_uses.Given as goal

-- the numbers of the uses so far are marked
abbrev pub invariant-loop-found : goal.invariant-loop-found
invariant-loop-found l = record {
  as_long : length l.marks.items ≡ length l.initial.marks.items;
  marked : (n : ℕ) → n < length l.initial.marks.items
      → get_or l.marks.items n false
      ≡ (list_any (λ u. u.name == n) (map number_view (take l.found-index l.uses)) || get_or l.initial.marks.items n false);
}
