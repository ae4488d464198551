use Rattle.std.proofs.Common.{ℕ, map, take, ◌⊎◌}
use Rattle.std.specs.List.{All}
use Rattle.hq_overlap_sets.specs.Pairs.{AtMost}
use Rattle.hq_overlap_sets.specs.Sets.{field_in, arena_view}
use Rattle.hq_overlap_sets.specs.Together.{AreConflicts}
use Rattle.hq_rules_overlap.specs.Groups.{IsSettled}
use Rattle.hq_rules_overlap.specs.Heads.{first_in, label_in}
use Rattle.hq_rules_overlap.proofs.found.Found.note_all.Given as goal

-- the fields so far agree or count
abbrev pub invariant-loop-entry : goal.invariant-loop-entry
invariant-loop-entry l =
    let fields = map (field_in l.arena) l.entries in
    let f = field_in l.arena in
    record {
      lower : (n : ℕ) → AtMost l.initial.self.least n → AtMost l.self.least n;
      noted : All (λ e. IsSettled (first_in l.heads fields) (label_in l.heads fields) (f e) ⊎ AtMost l.self.least (f e).at) (take l.entry-index l.entries);
      best : AreConflicts (arena_view l.arena) l.self.best;
    }
