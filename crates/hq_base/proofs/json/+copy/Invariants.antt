use Rattle.std.proofs.Common.{◌≡◌, map, take}
use Rattle.hq_base.specs.Json.{json_view, member_view}
use Rattle.hq_base.proofs.json.+copy.Given as goal

abbrev pub invariant-copy_elements-loop-element : goal.invariant-copy_elements-loop-element
invariant-copy_elements-loop-element l = map json_view l.copy.items ≡ map json_view (take l.element-index l.elements.items)

abbrev pub invariant-copy_members-loop-member : goal.invariant-copy_members-loop-member
invariant-copy_members-loop-member l = map member_view l.copy.items ≡ map member_view (take l.member-index l.members.items)
