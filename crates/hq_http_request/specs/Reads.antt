-- What the spans of a whole head request.
use Rattle.std.specs.Prelude.{◌≡◌, ℕ, ◌+◌, ◌<◌, ◌≤◌, List, ◌||◌, ◌==◌, length, map, take, codes, All, ⊤}
use Rattle.std.specs.declared.option.Option.TheVariants.{None, Some}
use Rattle.std.specs.Str.{bytes_eq}
use Rattle.httparse.specs.Spans.{span_bytes, header_bytes, IsHeaderWithin, AreFieldsAt}
use Rattle.httparse.specs.Grammar.{RequestHead, ReadsRequest}
use Rattle.hq_http_request.specs.declared.judge.WholeRequest.{WholeRequest}
use Rattle.httparse.specs.declared.spans.HeaderSpan.{HeaderSpan}
use Rattle.httparse.specs.declared.spans.RequestSpans.{RequestSpans}
use Rattle.hq_http_request.specs.declared.next.Next.{Next}
use Rattle.hq_http_request.specs.declared.next.Next.TheVariants.{More, Refused, Whole}
use Rattle.hq_http_request.specs.Requests.{refusal_of, value_of, body_of, closes}
use Rattle.hq_http_request.specs.Holds.{place_of}

-- what is answered to a whole head with these parts
abbrev pub AnswersBy : (method target : List ℕ) (version : ℕ) → List (List ℕ × List ℕ) → (len total : ℕ) → Next → Type 0
AnswersBy method target version fields len total (Refused c is_head) =
    (refusal_of method version fields ≡ Some c) × (is_head ≡ bytes_eq method (codes "HEAD"))
AnswersBy method target version fields len total (More need) =
    (refusal_of method version fields ≡ None) × (body_of (value_of (codes "content-length") fields) ≤ 1048576) × (need ≡ len + body_of (value_of (codes "content-length") fields)) × (total < need)
AnswersBy method target version fields len total (Whole request) =
    (refusal_of method version fields ≡ None)
    × (body_of (value_of (codes "content-length") fields) ≤ 1048576)
    × (request.place ≡ place_of method target)
    × (request.is_head ≡ bytes_eq method (codes "HEAD"))
    × (request.closes ≡ (version == 0 || closes fields))
    × (request.body ≡ len)
    × (request.len ≡ len + body_of (value_of (codes "content-length") fields))
    × (request.len ≤ total)

-- the same with the spans of a head
abbrev pub Answers : List ℕ → ℕ → List HeaderSpan → RequestSpans → Next → Type 0
Answers bytes total headers spans n =
    AnswersBy (span_bytes bytes spans.method) (span_bytes bytes spans.path) spans.version (map (header_bytes bytes) headers) spans.len total n

-- P of what is asked, if the request is whole
abbrev pub IfWhole : Next → (WholeRequest → Type 0) → Type 0
IfWhole (More need) P = ⊤
IfWhole (Refused c is_head) P = ⊤
IfWhole (Whole request) P = P request

-- the first spans cover the fields of the head that stands at the front
pub record SpansAre (bytes : List ℕ) (headers : List HeaderSpan) (request : WholeRequest) : Type 0 where
  pub within : All (IsHeaderWithin (length bytes)) (take request.fields headers)
  pub few : request.fields ≤ 64
  pub fields : (h : RequestHead) (rest : List ℕ) → ReadsRequest bytes h rest → length h.fields ≤ 64 → AreFieldsAt bytes headers request.fields h.fields
