use Rattle.std.proofs.Common.{◌≡◌, ◌++◌, map, drop}
use Rattle.std.specs.List.{flat_map}
use Rattle.hq_overlap_sets.specs.Sets.{field_in, set_in, arena_view}
use Rattle.hq_overlap_sets.proofs.keys.all_entries.Given as goal

-- the fields so far, and those of the sets that are left, are all
abbrev pub invariant-loop-set : goal.invariant-loop-set
invariant-loop-set l =
    map (field_in l.arena) l.entries.items ++ flat_map (λ x. x.fields) (map (set_in l.arena) (drop l.set-index l.arena.sets.items))
    ≡ flat_map (λ x. x.fields) (arena_view l.arena)
