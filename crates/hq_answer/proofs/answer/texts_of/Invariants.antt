use Rattle.std.proofs.Common.{◌≡◌, take, map}
use Rattle.hq_base.specs.Json.{member_view, members_of}
use Rattle.hq_answer.specs.Answers.{named_text, named_texts}
use Rattle.hq_answer.proofs.answer.texts_of.Given as goal

-- the texts are those of the members so far
abbrev pub invariant-loop-member : goal.invariant-loop-member
invariant-loop-member l = map named_text l.texts.items ≡ named_texts (members_of (map member_view (take l.member-index l.members.items)))
