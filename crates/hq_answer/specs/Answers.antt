-- A JSON value as text: of an object the name of each member with the compact text of its value, of another value its compact text
-- (RFC 8259).
use Rattle.std.specs.Prelude.{◌≡◌, ℕ, List, [], ◌∷◌, ◌++◌, map}
use Rattle.std.specs.List.{join_with_byte}
use Rattle.hq_base.specs.Compact.{compact, quoted}
use Rattle.hq_base.specs.Json.{JsonTree, obj, MemberTrees, no_member, member}
use Rattle.hq_answer.specs.declared.answer.AnswerMember.{AnswerMember}
use Rattle.hq_answer.specs.declared.answer.Answer.{Answer}
use Rattle.hq_answer.specs.declared.answer.Answer.TheVariants.{Object, Other}

-- an answer without where it lies in memory: names with texts, in order, or one text
pub data AnswerTree : Type 0 where
  object : List (List ℕ × List ℕ) → AnswerTree
  other : List ℕ → AnswerTree

abbrev pub named_text : AnswerMember → List ℕ × List ℕ
named_text m = (m.name, m.text)

abbrev pub answer_view : Answer → AnswerTree
answer_view (Object ms) = object (map named_text ms.items)
answer_view (Other text) = other text

-- the name of each member, with the compact text of its value
abbrev pub named_texts : MemberTrees → List (List ℕ × List ℕ)
named_texts no_member = []
named_texts (member name j ms) = (name, compact j) ∷ named_texts ms

-- the answer that a value is
abbrev pub answer_of : JsonTree → AnswerTree
answer_of (obj ms) = object (named_texts ms)
answer_of j = other (compact j)

abbrev pub IsAnswer : Answer → JsonTree → Type 0
IsAnswer answer j = answer_view answer ≡ answer_of j

-- a member in the text of its object
abbrev pub member_text : List ℕ × List ℕ → List ℕ
member_text m = quoted m.0 ++ 58 ∷ m.1

-- the text of an answer
abbrev pub answer_text : AnswerTree → List ℕ
answer_text (object ms) = 123 ∷ (join_with_byte 44 (map member_text ms) ++ 125 ∷ [])
answer_text (other text) = text
