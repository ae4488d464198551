use Rattle.std.proofs.Common.{◌≡◌, ℕ, true, take, ◌⊎◌}
use Rattle.std.specs.List.{Contains}
use Rattle.hq_rules_overlap.specs.Exploring.{is_marked}
use Rattle.hq_rules_overlap.proofs.groups.mark_all.Given as goal

-- the marks so far
abbrev pub invariant-loop-number : goal.invariant-loop-number
invariant-loop-number l = (s : ℕ) → is_marked l.marks.items s ≡ true → (is_marked l.initial.marks.items s ≡ true) ⊎ Contains (take l.number-index l.numbers) s
