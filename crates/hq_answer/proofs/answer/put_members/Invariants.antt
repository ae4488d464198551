use Rattle.std.proofs.Common.{◌≡◌, ◌++◌, take, map}
use Rattle.std.specs.List.{join_with_byte}
use Rattle.hq_answer.specs.Answers.{named_text, member_text}
use Rattle.hq_answer.proofs.answer.put_members.Given as goal

-- the members so far are written
abbrev pub invariant-loop-at : goal.invariant-loop-at
invariant-loop-at l = l.out ≡ l.initial.out ++ join_with_byte 44 (map member_text (map named_text (take l.at l.members)))
