-- A connection grows by a request with its reply, and ends.
use Rattle.std.proofs.Common.{◌≡◌, ◌≤◌, ◌+◌, ◌++◌, ℕ, List, [], ◌∷◌, false, refl, sym, ap, ◌∙◌, subst, arith, append_assoc, append-nil, length-append}
use Rattle.std.proofs.lemmas.Grind.{flat_map-append}
use Rattle.std.specs.List.{flat_map}
use Rattle.std.specs.declared.option.Option.{Option}
use Rattle.std.specs.declared.option.Option.TheVariants.{None, Some}
use Rattle.std.specs.Io.KnownBytes.{Appends, Consumes, IsAtEnd}
use Rattle.hq_base.specs.declared.reply.Reply.{Reply}
use Rattle.hq_session.specs.declared.header.Header.{Header}
use Rattle.hq_http.specs.declared.end.ConnEnd.{ConnEnd}
use Rattle.hq_http.specs.declared.end.ConnEnd.TheVariants as end
use Rattle.hq_http.specs.Connections.{Counts, Exchange, IsExchange, EachGoesOn, failures, failures_of, request_bytes, due_bytes, Ending, memory, Connects}
use Rattle.hq_http.specs.Serving.{Ran, Going, Stopping}
use Rattle.hq_http.proofs.Weaker.{exchange_weaker, ending_weaker}
use Rattle.hq_io.proofs.Pieces.{consumes_none, consumes_more}
use Rattle.hq_http.proofs.Served.{appends_nothing}

pub appends_both : (a b c : Option (List ℕ)) (xs ys : List ℕ) → Appends a b xs → Appends b c ys → Appends a c (xs ++ ys)
appends_both None b c xs ys h k = tt
appends_both (Some x) None c xs ys h k = absurd h
appends_both (Some x) (Some y) None xs ys h k = absurd k
appends_both (Some x) (Some y) (Some z) xs ys h k = k ∙ (ap (λ w. w ++ ys) h ∙ append_assoc x xs ys)

goes_on_more : (d : List Header → Type 0) (v : List Header → List ℕ → Reply → Type 0) (es : List Exchange) (x : Exchange)
    → EachGoesOn d v es → IsExchange d v x → x.ends ≡ false → x.request.closes ≡ false → EachGoesOn d v (es ++ x ∷ [])
goes_on_more d v [] x g is e w = ((is, e, w), tt)
goes_on_more d v (y ∷ es) x g is e w = (g.0, goes_on_more d v es x g.1 is e w)

failures_more : (es : List Exchange) (x : Exchange) → failures (es ++ x ∷ []) ≡ failures es + failures_of x.response
failures_more [] x = omega arith
failures_more (y ∷ es) x = omega (arith, failures_more es x)

one_more : (f : Exchange → List ℕ) (es : List Exchange) (x : Exchange) → flat_map f (es ++ x ∷ []) ≡ flat_map f es ++ f x
one_more f es x = flat_map-append f es (x ∷ []) ∙ ap (λ w. flat_map f es ++ w) (append-nil (f x))

-- counts that rose one after the other
counts_more : (a b c m k : ℕ) → Counts a m b → Counts b k c → Counts a (m + k) c
counts_more a b c m k h l = omega arith

counts_later : (a b c m : ℕ) → Counts a m b → b ≤ c → Counts a m c
counts_later a b c m h l = omega arith

pub connects_nothing : (d : List Header → Type 0) (v : List Header → List ℕ → Reply → Type 0) (f : ℕ) (left written : Option (List ℕ)) (e : ConnEnd)
    → e ≡ end.Memory → Connects d v f f left left written written e
connects_nothing d v f left written e is =
    record {
      done = [];
      rest = [];
      out = [];
      goes_on = tt;
      few = omega arith;
      read = consumes_none left;
      wrote = appends_nothing written written refl;
      counted = omega arith;
      ends = memory refl is;
    }

pub ran_more : (d d' : List Header → Type 0) (v v' : List Header → List ℕ → Reply → Type 0) (f f1 f2 n : ℕ)
    (a b c : Option (List ℕ)) (xs ys piece : List ℕ) (o p q : Option (List ℕ))
    → Ran d v f f1 n a b xs o p → ((fs : List Header) → d' fs → d fs) → ((fs : List Header) (t : List ℕ) (r : Reply) → v' fs t r → v fs t r)
    → Consumes b c piece → Going d' v' (λ g. Counts f1 (failures_of g) f2) n (xs ++ piece) ys p q
    → Ran d v f f2 (n + 1) a c ys o q
ran_more d d' v v' f f1 f2 n a b c xs ys piece o p q r sd sg read s =
    let es = r.done in
    let x = s.x in
    let old : Consumes a c ((flat_map request_bytes es ++ xs) ++ piece) = consumes_more a b c _ piece r.read read in
    let e : (flat_map request_bytes es ++ xs) ++ piece ≡ flat_map request_bytes (es ++ x ∷ []) ++ ys =
    append_assoc (flat_map request_bytes es) xs piece ∙ ap (λ w. flat_map request_bytes es ++ w) s.all
    ∙ sym (ap (λ w. w ++ ys) (one_more request_bytes es x) ∙ append_assoc (flat_map request_bytes es) (request_bytes x) ys) in
    let wrote : Appends o q (flat_map due_bytes es ++ due_bytes x) = appends_both o p q _ _ r.wrote s.wrote in
    let counted : Counts f (failures es + failures_of x.response) f2 = counts_more f f1 f2 (failures es) (failures_of x.response) r.counted s.counted in
    record {
      done = es ++ x ∷ [];
      count = length-append es (x ∷ []) ∙ ap (λ k. k + 1) r.count;
      few = omega (arith, s.early);
      goes_on = goes_on_more d v es x r.goes_on (exchange_weaker d' d v' v sd sg x s.exchange) s.open_end s.wanted;
      read = subst (λ (w : List ℕ). Consumes a c w) e old;
      wrote = subst (λ (w : List ℕ). Appends o q w) (sym (one_more due_bytes es x)) wrote;
      counted = subst (λ (w : ℕ). Counts f w f2) (sym (failures_more es x)) counted;
    }

pub ran_stops : (d d' : List Header → Type 0) (v v' : List Header → List ℕ → Reply → Type 0) (f f1 f2 n : ℕ)
    (a b c : Option (List ℕ)) (xs piece : List ℕ) (o p q : Option (List ℕ)) (e : ConnEnd)
    → Ran d v f f1 n a b xs o p → ((fs : List Header) → d' fs → d fs) → ((fs : List Header) (t : List ℕ) (r : Reply) → v' fs t r → v fs t r)
    → Consumes b c piece → f1 ≤ f2 → Stopping d' v' (λ g. Counts f1 (failures_of g) f2) (IsAtEnd c) n (xs ++ piece) p q e
    → Connects d v f f2 a c o q e
ran_stops d d' v v' f f1 f2 n a b c xs piece o p q e r sd sg read later s =
    let es = r.done in
    let old : Consumes a c ((flat_map request_bytes es ++ xs) ++ piece) = consumes_more a b c _ piece r.read read in
    let kept : Ending d v (λ g. Counts f (failures es + failures_of g) f2) (IsAtEnd c) n (xs ++ piece) s.out e =
    ending_weaker d' d v' v (λ g. Counts f1 (failures_of g) f2) (λ g. Counts f (failures es + failures_of g) f2) (IsAtEnd c) n (xs ++ piece) s.out e sd sg
    (λ g k. counts_more f f1 f2 (failures es) (failures_of g) r.counted k) s.ends in
    record {
      done = es;
      rest = xs ++ piece;
      out = s.out;
      goes_on = r.goes_on;
      few = omega (arith, r.count, r.few);
      read = subst (λ (w : List ℕ). Consumes a c w) (append_assoc (flat_map request_bytes es) xs piece) old;
      wrote = appends_both o p q _ _ r.wrote s.wrote;
      counted = counts_later f f1 f2 (failures es) r.counted later;
      ends = subst (λ (k : ℕ). Ending d v (λ g. Counts f (failures es + failures_of g) f2) (IsAtEnd c) k (xs ++ piece) s.out e) (sym r.count) kept;
    }
