-- From the spans of a head to what the bytes at hand hold.
use Rattle.std.proofs.Common.{◌≡◌, ◌≤◌, ℕ, List, length, map, take, codes, All, get_or, sym, ap, subst, ◌∙◌, arith, length-take}
use Rattle.std.proofs.lemmas.List.{length-map}
use Rattle.httparse.specs.Grammar.{RequestHead, print_request, Field, ReadsRequest}
use Rattle.httparse.specs.Spans.{header_bytes, IsRequestOf, IsRequestWithin, IsHeaderWithin, AreFieldsAt, FindsRequest, name_and_value}
use Rattle.std.specs.declared.result.Result.TheVariants.{Ok}
use Rattle.httparse.specs.declared.Status.TheVariants.{Complete}
use Rattle.hq_http_request.specs.declared.judge.WholeRequest.{WholeRequest}
use Rattle.httparse.specs.declared.spans.HeaderSpan.{HeaderSpan}
use Rattle.httparse.specs.declared.spans.RequestSpans.{RequestSpans}
use Rattle.hq_http_request.specs.declared.next.Next.{Next}
use Rattle.hq_http_request.specs.declared.next.Next.TheVariants.{More, Refused, Whole}
use Rattle.hq_http_request.specs.Requests.{value_of, body_of}
use Rattle.hq_http_request.specs.Holds.{Holds, HasHead, whole, without_body, refused, window, fields_of, body_length_of}
use Rattle.hq_http_request.specs.Reads.{Answers, AnswersBy, IfWhole, SpansAre}

answers_head : (bytes m t : List ℕ) (v len : ℕ) (fs : List (List ℕ × List ℕ)) (h : RequestHead) (n : Next)
    → m ≡ h.method → t ≡ h.target → v ≡ h.minor → fs ≡ fields_of h → len ≡ length (print_request h)
    → HasHead bytes h → AnswersBy m t v fs len (length bytes) n → Holds bytes n
answers_head bytes m t v len fs h (Refused c is_head) em et ev ef el head a =
    refused h c head (cc) (cc)
answers_head bytes m t v len fs h (More need) em et ev ef el head a =
    let small : body_length_of h ≤ 1048576 = subst (λ (x : List (List ℕ × List ℕ)). body_of (value_of (codes "content-length") x) ≤ 1048576) ef a.1 in
    without_body h need head (cc) small (cc) a.3 (cc)
answers_head bytes m t v len fs h (Whole request) em et ev ef el head a =
    let small : body_length_of h ≤ 1048576 = subst (λ (x : List (List ℕ × List ℕ)). body_of (value_of (codes "content-length") x) ≤ 1048576) ef a.1 in
    whole h request head (record { accepted = cc; small = small; place = cc; is_head = cc; closes = cc; body = cc; len = cc }) a.7 (cc)

-- a head that was read whole has at most as many fields as there was room for
few_fields : (w : List ℕ) (headers : List HeaderSpan) (count : ℕ) (fields : List Field)
    → map (header_bytes w) (take count headers) ≡ map name_and_value fields → length headers ≡ 64 → length fields ≤ 64
few_fields w headers count fields e full =
    let n : length (take count headers) ≡ length fields = sym (length-map (take count headers) (header_bytes w)) ∙ ap length e ∙ length-map fields name_and_value in
    omega (arith, length-take count headers)

pub whole_head : (bytes : List ℕ) (headers : List HeaderSpan) (spans : RequestSpans) (n : Next)
    → IsRequestOf (window bytes) headers spans → length headers ≡ 64
    → Answers (window bytes) (length bytes) (take spans.headers headers) spans n → Holds bytes n
whole_head bytes headers spans n (h, at) full a =
    answers_head bytes _ _ _ _ _ h n at.method at.path at.version at.fields at.len
    (record { rest = _; reads = at.reads; few = few_fields (window bytes) headers spans.headers h.fields at.fields full }) a

spans_for : (w : List ℕ) (headers : List HeaderSpan) (request : WholeRequest) (count : ℕ)
    → count ≡ request.fields → count ≤ 64 → All (IsHeaderWithin (length w)) (take count headers)
    → ((h : RequestHead) (rest : List ℕ) → ReadsRequest w h rest → length h.fields ≤ 64 → AreFieldsAt w headers count h.fields)
    → SpansAre w headers request
spans_for w headers request count e few fit finds =
    let family : ℕ → Type 0 = λ n. n ≤ 64 in
    let fits : ℕ → Type 0 = λ n. All (IsHeaderWithin (length w)) (take n headers) in
    let found : ℕ → Type 0 = λ n. (h : RequestHead) (rest : List ℕ) → ReadsRequest w h rest → length h.fields ≤ 64 → AreFieldsAt w headers n h.fields in
    record { within = subst fits e fit; few = subst family e few; fields = subst found e finds }

pub spans_are : (w : List ℕ) (headers : List HeaderSpan) (n : Next) (count : ℕ)
    → IfWhole n (λ request. request.fields ≡ count) → count ≤ 64 → All (IsHeaderWithin (length w)) (take count headers)
    → ((h : RequestHead) (rest : List ℕ) → ReadsRequest w h rest → length h.fields ≤ 64 → AreFieldsAt w headers count h.fields)
    → IfWhole n (λ request. SpansAre w headers request)
spans_are w headers (More need) count e few fit finds = tt
spans_are w headers (Refused c is_head) count e few fit finds = tt
spans_are w headers (Whole request) count e few fit finds = spans_for w headers request count (sym e) few fit finds

weaker : (n m : ℕ) → n ≤ m → (hs : List HeaderSpan) → All (IsHeaderWithin n) hs → All (IsHeaderWithin m) hs
weaker n m le hs all k d in_range =
    let fit : IsHeaderWithin n (get_or hs k d) = all k d in_range in
    ((fit.0.0, omega (arith, fit.0.1)), (fit.1.0, omega (arith, fit.1.1)))

pub spans_of_complete : (w : List ℕ) (headers : List HeaderSpan) (spans : RequestSpans) (n : Next)
    → IsRequestWithin w headers spans → FindsRequest w 64 headers (Ok (Complete spans)) → length headers ≡ 64
    → IfWhole n (λ request. request.fields ≡ spans.headers) → IfWhole n (λ request. SpansAre w headers request)
spans_of_complete w headers spans n within finds full e =
    spans_are w headers n spans.headers e (omega (arith, within.section.count_fits))
    (weaker spans.len (length w) within.section.len_fits (take spans.headers headers) within.section.headers_fit)
    (λ h rest reads few. (finds h rest reads few).fields)
