use Rattle.std.proofs.Common.{◌≡◌, drop, map, bytes_eq}
use Rattle.std.specs.List.{list_any}
use Rattle.hq_load_catalog.proofs.repeats.is_named.Given as goal

-- the name is one of the columns that are left
abbrev pub invariant-loop-column : goal.invariant-loop-column
invariant-loop-column l =
    list_any (λ e. bytes_eq e l.name) (map (λ c. c.name) (drop l.column-index l.columns)) ≡ list_any (λ e. bytes_eq e l.name) (map (λ c. c.name) l.columns)
