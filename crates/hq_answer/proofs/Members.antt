-- The members of an answer, one by one.
use Rattle.std.proofs.Common.{◌≡◌, refl, ap, List, [], ◌∷◌, ◌++◌, ℕ, ◌+◌, ◌<◌, map, take, get_or, length}
use Rattle.std.proofs.lemmas.List.{take_more, map-append}
use Rattle.hq_base.proofs.Views.{member_view-fields}
use Rattle.hq_base.specs.Compact.{compact}
use Rattle.hq_base.specs.Json.{JsonTree, json_view, member_view, members_of}
use Rattle.hq_base.specs.declared.json.Member.{Member}
use Rattle.hq_answer.specs.Answers.{named_text, named_texts}
use Rattle.hq_answer.specs.declared.answer.AnswerMember.{AnswerMember}

abbrev pub pair_texts : List (List ℕ × JsonTree) → List (List ℕ × List ℕ)
pair_texts ms = map (λ m. (m.0, compact m.1)) ms

pub texts_by_pair : (ms : List (List ℕ × JsonTree)) → named_texts (members_of ms) ≡ pair_texts ms
texts_by_pair [] = refl
texts_by_pair (m ∷ ms) = ap (λ ts. (m.0, compact m.1) ∷ ts) (texts_by_pair ms)

-- one more text behind those of the members so far
pub one_more_text : (ms : List Member) (i : ℕ) (m : Member) (texts later : List AnswerMember) (text : AnswerMember) → i < length ms → m ≡ get_or ms i m
    → text.name ≡ m.name → text.text ≡ compact (json_view m.value) → map named_text texts ≡ named_texts (members_of (map member_view (take i ms))) → later ≡ texts ++ text ∷ []
    → map named_text later ≡ named_texts (members_of (map member_view (take (i + 1) ms)))
one_more_text ms i m texts later text h is name value so_far grown =
    let last : named_text text ≡ ((member_view m).0, compact (member_view m).1) = rw (member_view-fields m, name, value) refl in
    rw (grown, map-append, so_far, texts_by_pair (map member_view (take i ms)), texts_by_pair (map member_view (take (i + 1) ms)), take_more ms i m h, ← is, map-append, map-append, last) refl
