-- Steps of reading on.
use Rattle.std.proofs.Common.{◌≡◌, ◌≤◌, ◌<◌, ◌+◌, ℕ, List, [], ◌++◌, length, take, refl, sym, ap, ◌∙◌, subst, arith, append_assoc, drop, append-nil, length-append, length-take}
use Rattle.std.proofs.lemmas.List.{nil_from_length, take-append-le, take-take, take-append-drop}
use Rattle.std.proofs.Math.Seq.{take-append_seam}
use Rattle.std.specs.declared.option.Option.{Option}
use Rattle.std.specs.Io.KnownBytes.{Consumes}
use Rattle.httparse.specs.Grammar.{RequestHead, print_request}
use Rattle.hq_http_request.specs.declared.next.Next.{Next}
use Rattle.hq_http_request.specs.declared.next.Next.TheVariants.{More}
use Rattle.hq_http_request.specs.Holds.{Holds, HasHead, whole, without_body, refused, begun, large, many, never, window}
use Rattle.hq_io.proofs.Pieces.{consumes_none, consumes_more}
use Rattle.hq_http.specs.Pending.{Fills}
use Rattle.hq_http.specs.Waits.{Reaches, FillsTo, Awaits}
use Rattle.hq_http.specs.declared.await_next.Filled.TheVariants.{Enough, Over, Failed}
use Rattle.hq_http.specs.declared.await_next.Arrived.TheVariants as arrived
use Rattle.httparse.specs.declared.spans.HeaderSpan.{HeaderSpan}

pub reaches_none : (a : Option (List ℕ)) (pending : List ℕ) → Reaches a a pending pending
reaches_none a pending = record { piece = []; added = sym (append-nil pending); consumed = consumes_none a }

pub reaches_more : (a b c : Option (List ℕ)) (xs ys zs : List ℕ) → Reaches a b xs ys → Reaches b c ys zs → Reaches a c xs zs
reaches_more a b c xs ys zs h k =
    record {
      piece = h.piece ++ k.piece;
      added = k.added ∙ ap (λ w. w ++ k.piece) h.added ∙ append_assoc xs h.piece k.piece;
      consumed = consumes_more a b c h.piece k.piece h.consumed k.consumed;
    }

pub reaches_fill : (a b c : Option (List ℕ)) (xs ys zs : List ℕ) (n : ℕ) → Reaches a b xs ys → Fills b c ys zs n → Reaches a c xs zs
reaches_fill a b c xs ys zs n h k = reaches_more a b c xs ys zs h (record { piece = k.piece; added = k.added; consumed = k.consumed })

pub fills_grow : (a b : Option (List ℕ)) (xs ys : List ℕ) (n : ℕ) → Fills a b xs ys n → length ys ≡ length xs + n
fills_grow a b xs ys n h = ap length h.added ∙ length-append xs h.piece ∙ ap (λ k. length xs + k) h.long

-- how reading up to a number of bytes ends: with as many at hand
pub enough_fills : (a b : Option (List ℕ)) (xs ys : List ℕ) (need : ℕ) → Reaches a b xs ys → need ≤ length ys → FillsTo a b xs ys need Enough
enough_fills a b xs ys need r holds = record { piece = r.piece; added = r.added; consumed = r.consumed; holds = holds }

-- with none more to come
pub over_fills : (a b c : Option (List ℕ)) (xs ys zs : List ℕ) (need n : ℕ) → Reaches a b xs ys → Fills b c ys zs n → length ys < need → n ≡ 0 → FillsTo a c xs zs need Over
over_fills a b c xs ys zs need n r f short none =
    let all = reaches_fill a b c xs ys zs n r f in
    let grown : length zs ≡ length ys + n = fills_grow b c ys zs n f in
    record { piece = all.piece; added = all.added; consumed = all.consumed; holds = (omega arith, f.over none) }

-- or with a fault, which leaves all as it was
pub failed_fills : (a b c : Option (List ℕ)) (xs ys zs : List ℕ) (need : ℕ) → Reaches a b xs ys → c ≡ b → zs ≡ ys → length ys < need → FillsTo a c xs zs need Failed
failed_fills a b c xs ys zs need r left same short = record {
  piece = r.piece;
  added = same ∙ r.added;
  consumed = subst (λ (l : Option (List ℕ)). Consumes a l r.piece) (sym left) r.consumed;
  holds = subst (λ (w : List ℕ). length w < need) (sym same) short;
}

head_short : (b : List ℕ) (h : RequestHead) → HasHead b h → length (print_request h) ≤ 16384
head_short b h hd =
    let e : length (window b) ≡ length (print_request h) + length hd.rest = ap length hd.reads.1 ∙ length-append (print_request h) hd.rest in
    omega (arith, length-take 16384 b)

-- the number that is asked for fits
pub need_fits : (b : List ℕ) (need : ℕ) (n : Next) → n ≡ More need → Holds b n → (length b < need) × (need ≤ 1064960)
need_fits b need n e (whole h request hd announces le q) = absurd (cc)
need_fits b need n e (without_body h m hd acc small is lt q) =
    let same : m ≡ need = cc in
    let s : length (print_request h) ≤ 16384 = head_short b h hd in
    (omega arith, omega arith)
need_fits b need n e (refused h c hd acc q) = absurd (cc)
need_fits b need n e (begun lt hn may q) =
    let same : length b + 1 ≡ need = cc in
    (omega arith, omega arith)
need_fits b need n e (large le hn may q) = absurd (cc)
need_fits b need n e (many ex over q) = absurd (cc)
need_fits b need n e (never hn q) = absurd (cc)

-- a head at the front stays there when bytes follow
head_stays : (b p : List ℕ) (h : RequestHead) → HasHead b h → HasHead (b ++ p) h
head_stays b p h hd =
    let text = print_request h in
    let n = length (print_request h) in
    let short : n ≤ 16384 = head_short b h hd in
    let e : length (window b) ≡ n + length hd.rest = ap length hd.reads.1 ∙ length-append text hd.rest in
    let long : n ≤ length b = omega (arith, length-take 16384 b) in
    let front : take n (window (b ++ p)) ≡ text =
    take-take n 16384 (b ++ p) short ∙ take-append-le n b p long ∙ sym (take-take n 16384 b short) ∙ ap (take n) hd.reads.1 ∙ take-append_seam text hd.rest in
    record {
      rest = drop n (window (b ++ p));
      reads = (hd.reads.0, sym (take-append-drop n (window (b ++ p))) ∙ ap (λ x. x ++ drop n (window (b ++ p))) front);
      few = hd.few;
    }

-- as long as fewer bytes than that are at hand, they are the beginning of a request
pub more_stays : (b p : List ℕ) (need : ℕ) (n : Next) → n ≡ More need → Holds b n → length (b ++ p) < need → (m : ℕ) × Holds (b ++ p) (More m)
more_stays b p need n e (whole h request hd announces le q) lt = absurd (cc)
more_stays b p need n e (without_body h m hd acc small is less q) lt =
    let same : m ≡ need = cc in
    (m, without_body h m (head_stays b p h hd) acc small is (omega arith) refl)
more_stays b p need n e (refused h c hd acc q) lt = absurd (cc)
more_stays b p need n e (begun less hn may q) lt =
    let same : length b + 1 ≡ need = cc in
    let none : p ≡ [] = nil_from_length p (omega (arith, length-append b p)) in
    let all : b ++ p ≡ b = ap (λ w. b ++ w) none ∙ append-nil b in
    (length b + 1, subst (λ (x : List ℕ). Holds x (More (length b + 1))) (sym all) (begun less hn may refl))
more_stays b p need n e (large le hn may q) lt = absurd (cc)
more_stays b p need n e (many ex over q) lt = absurd (cc)
more_stays b p need n e (never hn q) lt = absurd (cc)

pub stays : (b b' p : List ℕ) (need : ℕ) (n : Next) → b' ≡ b ++ p → n ≡ More need → Holds b n → length b' < need → (m : ℕ) × Holds b' (More m)
stays b b' p need n all e holds_next lt =
    subst (λ (x : List ℕ). (m : ℕ) × Holds x (More m)) (sym all) (more_stays b p need n e holds_next (subst (λ (x : List ℕ). length x < need) all lt))

pub over_awaits : (a b c : Option (List ℕ)) (xs ys zs : List ℕ) (need : ℕ) (n : Next) (hs : List HeaderSpan)
    → Reaches a b xs ys → FillsTo b c ys zs need Over → n ≡ More need → Holds ys n → Awaits a c xs zs hs arrived.Over
over_awaits a b c xs ys zs need n hs r f e holds_next =
    let all = reaches_more a b c xs ys zs r (record { piece = f.piece; added = f.added; consumed = f.consumed }) in
    record { piece = all.piece; added = all.added; consumed = all.consumed; holds = (stays ys zs f.piece need n f.added e holds_next f.holds.0, f.holds.1) }

pub failed_awaits : (a b c : Option (List ℕ)) (xs ys zs : List ℕ) (need : ℕ) (n : Next) (hs : List HeaderSpan)
    → Reaches a b xs ys → FillsTo b c ys zs need Failed → n ≡ More need → Holds ys n → Awaits a c xs zs hs arrived.Failed
failed_awaits a b c xs ys zs need n hs r f e holds_next =
    let all = reaches_more a b c xs ys zs r (record { piece = f.piece; added = f.added; consumed = f.consumed }) in
    record { piece = all.piece; added = all.added; consumed = all.consumed; holds = stays ys zs f.piece need n f.added e holds_next f.holds }

pub enough_reaches : (a b c : Option (List ℕ)) (xs ys zs : List ℕ) (need : ℕ) → Reaches a b xs ys → FillsTo b c ys zs need Enough → Reaches a c xs zs
enough_reaches a b c xs ys zs need r f = reaches_more a b c xs ys zs r (record { piece = f.piece; added = f.added; consumed = f.consumed })
