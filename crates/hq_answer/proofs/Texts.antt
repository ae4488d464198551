-- An answer has one text: that of its value.
use Rattle.std.proofs.Common.{◌≡◌, ◌∙◌, refl, ap, List, [], ◌∷◌, ◌++◌, ℕ, map}
use Rattle.std.specs.List.{join_with_byte}
use Rattle.hq_base.specs.Compact.{compact, quoted, member_texts}
use Rattle.hq_base.specs.Json.{JsonTree, null, bool, int, str, arr, obj, MemberTrees, no_member, member}
use Rattle.hq_answer.specs.Answers.{IsAnswer, answer_view, answer_of, answer_text, member_text, named_texts}
use Rattle.hq_answer.specs.declared.answer.Answer.{Answer}

-- the members of an object are written alike
pub members_text : (ms : MemberTrees) → map member_text (named_texts ms) ≡ member_texts ms
members_text no_member = refl
members_text (member name j ms) = ap (λ ts. (quoted name ++ 58 ∷ compact j) ∷ ts) (members_text ms)

value_text : (j : JsonTree) → answer_text (answer_of j) ≡ compact j
value_text null = refl
value_text (bool b) = refl
value_text (int n) = refl
value_text (str s) = refl
value_text (arr js) = refl
value_text (obj ms) = ap (λ (ts : List (List ℕ)). 123 ∷ (join_with_byte 44 ts ++ 125 ∷ [])) (members_text ms)

-- the text of an answer is the compact text of its value
pub one_text : (answer : Answer) (j : JsonTree) → IsAnswer answer j → answer_text (answer_view answer) ≡ compact j
one_text answer j is = ap answer_text is ∙ value_text j
