use Rattle.std.proofs.Common.{◌≡◌, ℕ, ◌<◌, false}
use Rattle.hq_overlap_sets.specs.Sets.{arena_view}
use Rattle.hq_rules_overlap.specs.Exploring.{is_marked, lists_of, IsAtEnd}
use Rattle.hq_rules_overlap.specs.Groups.{IsCovered}
use Rattle.hq_rules_overlap.proofs.groups.Groups.cover_all.Given as goal

-- the sets so far are covered
abbrev pub invariant-loop-set : goal.invariant-loop-set
invariant-loop-set l = record {
  end : IsAtEnd (arena_view l.arena) l.self;
  covered : (s : ℕ) → s < l.set → is_marked l.passed s ≡ false → IsCovered (arena_view l.arena) (lists_of l.self) l.self.found.least s;
}
