use Rattle.std.proofs.Common.{◌≡◌, map, take}
use Rattle.hq_base.specs.Json.{member_view}
use Rattle.hq_laws_written.specs.Metadata.Written.{pair_json}
use Rattle.hq_copy_text.proofs.relationships.mapping_json.Given as goal

-- the pairs so far
abbrev pub invariant-loop-pair : goal.invariant-loop-pair
invariant-loop-pair l =
    map member_view l.members.items ≡ map (pair_json l.own l.remote) (take l.pair-index l.pairs)
