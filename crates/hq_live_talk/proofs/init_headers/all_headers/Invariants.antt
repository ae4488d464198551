use Rattle.std.proofs.Common.{◌≡◌, ◌++◌, map, drop}
use Rattle.std.specs.Option.{option_map}
use Rattle.hq_base.specs.Json.{member_view}
use Rattle.hq_live_talk.specs.Reading.{all_headers}
use Rattle.hq_live_talk.proofs.init_headers.all_headers.Given as goal

-- the headers so far, and those of the members that are left, are those of all
abbrev pub invariant-members : goal.invariant-members
invariant-members l = option_map (λ rest. l.headers ++ rest) (all_headers (map member_view (drop l.member-index l.members))) ≡ all_headers (map member_view l.members)
