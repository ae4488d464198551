use Rattle.std.proofs.Common.{◌≡◌, map, take}
use Rattle.hq_base.specs.Json.{member_view}
use Rattle.hq_live_text.specs.LiveText.{with_member_text}
use Rattle.hq_live_text.proofs.request.with_texts.Given as goal

abbrev pub invariant-members : goal.invariant-members
invariant-members l = map member_view l.made.items ≡ map (with_member_text l.query) (map member_view (take l.member-index l.members))
