use Rattle.std.proofs.Common.{◌≡◌, ◌++◌, take, map}
use Rattle.std.specs.List.{join_with_byte}
use Rattle.hq_base.specs.Json.{json_view, member_view, elements_of, members_of}
use Rattle.hq_base.specs.Compact.{element_texts, member_texts}
use Rattle.hq_base.proofs.compact.+put.Given as goal

abbrev pub invariant-put_elements-loop-at : goal.invariant-put_elements-loop-at
invariant-put_elements-loop-at l = l.out ≡ l.initial.out ++ join_with_byte 44 (element_texts (elements_of (map json_view (take l.at l.elements.items))))

abbrev pub invariant-put_members-loop-at : goal.invariant-put_members-loop-at
invariant-put_members-loop-at l = l.out ≡ l.initial.out ++ join_with_byte 44 (member_texts (members_of (map member_view (take l.at l.members.items))))
