use Rattle.std.proofs.Common.{ℕ, List, ◌≡◌, ◌++◌, map, filter, drop}
use Rattle.hq_base.specs.Json.{member_view}
use Rattle.hq_laws_written.specs.Metadata.Written.{column_config, is_shown, shown_columns}
use Rattle.hq_model.specs.Meta.{tracked_view}
use Rattle.hq_model.specs.Schema.{numbered}
use Rattle.hq_copy_text.proofs.metadata.shown_configs.Given as goal

-- those so far, and then those of the columns that are left
abbrev pub invariant-loop-at : goal.invariant-loop-at
invariant-loop-at l =
    let k = tracked_view l.tracked in
    let configs = λ (cs : List ℕ). map (column_config k l.columns) (filter (is_shown k) cs) in
    map member_view l.members.items ++ configs (numbered (λ place c. place) l.at (drop l.at l.columns)) ≡ map (column_config k l.columns) (shown_columns k l.columns)
