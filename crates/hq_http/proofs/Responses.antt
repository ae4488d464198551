-- A whole request at the front of the bytes at hand, cut into its parts.
use Rattle.std.proofs.Common.{◌≡◌, ◌≤◌, ◌+◌, ℕ, List, ◌++◌, length, map, take, drop, refl, sym, ap, ◌∙◌, subst, arith, length-append, length-take, length-drop}
use Rattle.std.proofs.lemmas.List.{take-take, take-append-drop}
use Rattle.std.proofs.Math.Seq.{take-append_seam}
use Rattle.httparse.specs.Grammar.{RequestHead, print_request}
use Rattle.httparse.specs.Spans.{header_bytes}
use Rattle.httparse.specs.declared.spans.HeaderSpan.{HeaderSpan}
use Rattle.hq_base.specs.declared.reply.Reply.{Reply}
use Rattle.hq_session.specs.declared.header.Header.{Header}
use Rattle.hq_http_request.specs.declared.judge.WholeRequest.{WholeRequest}
use Rattle.hq_http_request.specs.declared.next.Next.{Next}
use Rattle.hq_http_request.specs.declared.next.Next.TheVariants.{Whole}
use Rattle.hq_http_request.specs.Holds.{Holds, HasHead, Announces, whole, without_body, refused, begun, large, many, never, window, fields_of}
use Rattle.hq_http_request.specs.Reads.{SpansAre}
use Rattle.hq_http.specs.declared.respond.Response.{Response}
use Rattle.hq_http.specs.Fields.{headers_in}
use Rattle.hq_http.specs.Connections.{MayRespond}
use Rattle.hq_http.specs.Serving.{Responds}

-- the parts of a whole request
pub record Parts (b : List ℕ) (request : WholeRequest) : Type 0 where
  pub head : RequestHead
  pub has : HasHead b head
  pub announces : Announces head request
  pub fits : request.len ≤ length b

same_request : (a b : WholeRequest) → Whole a ≡ Whole b → b ≡ a
same_request a b e = cc

parts_of : (b : List ℕ) (request : WholeRequest) (n : Next) → n ≡ Whole request → Holds b n → Parts b request
parts_of b request n e (whole h other hd announces le q) =
    let same : other ≡ request = same_request request other (sym e ∙ q) in
    subst (λ (x : WholeRequest). Parts b x) same (record { head = h; has = hd; announces = announces; fits = le })
parts_of b request n e (without_body h m hd acc small is lt q) = absurd (cc)
parts_of b request n e (refused h c hd acc q) = absurd (cc)
parts_of b request n e (begun lt hn may q) = absurd (cc)
parts_of b request n e (large le hn may q) = absurd (cc)
parts_of b request n e (many ex over q) = absurd (cc)
parts_of b request n e (never hn q) = absurd (cc)

pub parts : (b : List ℕ) (request : WholeRequest) → Holds b (Whole request) → Parts b request
parts b request holds_next = parts_of b request (Whole request) refl holds_next

pub body_within : (b : List ℕ) (request : WholeRequest) → Holds b (Whole request) → request.body ≤ request.len
body_within b request holds_next = let p = parts b request holds_next in omega (arith, p.announces.len, p.announces.body)

pub len_within : (b : List ℕ) (request : WholeRequest) → Holds b (Whole request) → request.len ≤ length b
len_within b request holds_next = (parts b request holds_next).fits

pub body_small : (b : List ℕ) (request : WholeRequest) → Holds b (Whole request) → length (drop request.body (take request.len b)) ≤ 1048576
body_small b request holds_next =
    let p = parts b request holds_next in
    omega (arith, p.announces.len, p.announces.body, p.announces.small, p.fits, length-drop request.body (take request.len b), length-take request.len b)

pub responds : (deny : List Header → Type 0) (give : List Header → List ℕ → Reply → Type 0)
    (b : List ℕ) (headers : List HeaderSpan) (request : WholeRequest) (g : Response)
    → Holds b (Whole request) → SpansAre (window b) headers request
    → MayRespond (deny (headers_in (map (header_bytes (window b)) (take request.fields headers))))
    (give (headers_in (map (header_bytes (window b)) (take request.fields headers))) (drop request.body (take request.len b)))
    request.place g
    → Responds deny give b request g
responds deny give b headers request g holds_next spans gives =
    let p = parts b request holds_next in
    let text = print_request p.head in
    let body = drop request.body (take request.len b) in
    let fields : map (header_bytes (window b)) (take request.fields headers) ≡ fields_of p.head = spans.fields p.head p.has.rest p.has.reads p.has.few in
    let long : length (window b) ≡ length text + length p.has.rest = ap length p.has.reads.1 ∙ length-append text p.has.rest in
    let short : length text ≤ 16384 = omega (arith, length-take 16384 b) in
    let front : take (length text) b ≡ text = sym (take-take (length text) 16384 b short) ∙ ap (take (length text)) p.has.reads.1 ∙ take-append_seam text p.has.rest in
    let le : length text ≤ request.len = omega (arith, p.announces.len) in
    let first : take request.body (take request.len b) ≡ text =
    ap (λ k. take k (take request.len b)) p.announces.body ∙ take-take (length text) request.len b le ∙ front in
    let whole_text : take request.len b ≡ text ++ body = sym (take-append-drop request.body (take request.len b)) ∙ ap (λ x. x ++ body) first in
    record {
      head = p.head;
      body = body;
      fits = p.fits;
      all = sym (take-append-drop request.len b) ∙ ap (λ x. x ++ drop request.len b) whole_text;
      exchange = λ ends. record {
        head = p.has.reads.0;
        short = short;
        few = p.has.few;
        announces = p.announces;
        body = omega (arith, p.announces.len, p.announces.body, p.fits, length-drop request.body (take request.len b), length-take request.len b);
        responds = subst (λ (x : List (List ℕ × List ℕ)). MayRespond (deny (headers_in x)) (give (headers_in x) body) request.place g) fields gives;
      };
    }

pub responds_at : (deny : List Header → Type 0) (give : List Header → List ℕ → Reply → Type 0)
    (b w : List ℕ) (headers fs : List HeaderSpan) (text body : List ℕ) (request : WholeRequest) (g : Response)
    → w ≡ window b → fs ≡ take request.fields headers → text ≡ take request.len b → body ≡ drop request.body text
    → Holds b (Whole request) → SpansAre (window b) headers request
    → MayRespond (deny (headers_in (map (header_bytes w) fs))) (give (headers_in (map (header_bytes w) fs)) body) request.place g
    → Responds deny give b request g
responds_at deny give b w headers fs text body request g ew ef er eb holds_next spans gives =
    let e : map (header_bytes w) fs ≡ map (header_bytes (window b)) (take request.fields headers) = ap (λ x. map (header_bytes x) fs) ew ∙ ap (map (header_bytes (window b))) ef in
    let eb' : body ≡ drop request.body (take request.len b) = eb ∙ ap (drop request.body) er in
    let one : MayRespond (deny (headers_in (map (header_bytes w) fs))) (give (headers_in (map (header_bytes w) fs)) (drop request.body (take request.len b))) request.place g =
    subst (λ (x : List ℕ). MayRespond (deny (headers_in (map (header_bytes w) fs))) (give (headers_in (map (header_bytes w) fs)) x) request.place g) eb' gives in
    responds deny give b headers request g holds_next spans
    (subst
    (λ (x : List (List ℕ × List ℕ)). MayRespond (deny (headers_in x)) (give (headers_in x) (drop request.body (take request.len b)))
    request.place g)
    e one)
