use Rattle.std.proofs.Common.{◌≡◌, [], map, take}
use Rattle.std.specs.Prelude.{slice_index_or}
use Rattle.hq_copy_tables.proofs.metadata.permitted_names.Given as goal

-- the names so far
abbrev pub invariant-loop-c : goal.invariant-loop-c
invariant-loop-c l =
    l.all ≡ map (λ c. slice_index_or l.names c []) (take l.c-index l.columns)
