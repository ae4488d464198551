-- A step of a connection, from what arrived and what was served.
use Rattle.std.proofs.Common.{◌≡◌, ◌++◌, ℕ, List, [], ◌∷◌, Bool, take, refl, sym, ap, subst, arith}
use Rattle.std.specs.declared.option.Option.{Option}
use Rattle.std.specs.Io.KnownBytes.{Consumes, IsAtEnd}
use Rattle.httparse.specs.declared.spans.HeaderSpan.{HeaderSpan}
use Rattle.hq_base.specs.declared.reply.Reply.{Reply}
use Rattle.hq_session.specs.declared.header.Header.{Header}
use Rattle.hq_http_request.specs.declared.fault.Fault.{Fault}
use Rattle.hq_http_request.specs.declared.judge.WholeRequest.{WholeRequest}
use Rattle.hq_http_request.specs.declared.next.Next.TheVariants.{More, Refused}
use Rattle.hq_http_request.specs.Holds.{Holds}
use Rattle.hq_http.specs.Waits.{Awaits}
use Rattle.hq_http.specs.declared.await_next.Arrived.TheVariants as arrived
use Rattle.hq_http.specs.declared.respond.Response.{Response}
use Rattle.hq_http.specs.declared.end.Step.{Step}
use Rattle.hq_http.specs.declared.end.Step.TheVariants as step
use Rattle.hq_http.specs.declared.end.ConnEnd.{ConnEnd}
use Rattle.hq_http.specs.declared.end.ConnEnd.TheVariants as end
use Rattle.hq_http.specs.Connections.{between, cut, refused, read_fault, refusal_fault, memory, refusal_bytes}
use Rattle.hq_http.specs.Serving.{Stepped, Stopping, ServedAs, RefusedAs, over_as}
use Rattle.hq_http.proofs.Served.{appends_nothing}

pub stepped_whole : (deny : List Header → Type 0) (give : List Header → List ℕ → Reply → Type 0) (counts : Response → Type 0) (n : ℕ)
    (a b c : Option (List ℕ)) (xs ys zs : List ℕ) (old mid new : Option (List ℕ)) (hs : List HeaderSpan) (request : WholeRequest) (s : Step)
    → Awaits a b xs ys hs (arrived.Whole request) → mid ≡ old → c ≡ b → ServedAs deny give counts (IsAtEnd b) n ys zs mid new s
    → Stepped deny give counts n a c xs zs old new s
stepped_whole deny give counts n a b c xs ys zs old mid new hs request s w first same served =
    let from : ServedAs deny give counts (IsAtEnd b) n ys zs old new s =
    subst (λ (x : Option (List ℕ)). ServedAs deny give counts (IsAtEnd b) n ys zs x new s) first served in
    let here : ServedAs deny give counts (IsAtEnd b) n (xs ++ w.piece) zs old new s =
    subst (λ (x : List ℕ). ServedAs deny give counts (IsAtEnd b) n x zs old new s) w.added from in
    record {
      piece = w.piece;
      consumed = subst (λ (x : Option (List ℕ)). Consumes a x w.piece) (sym same) w.consumed;
      served = subst (λ (x : Option (List ℕ)). ServedAs deny give counts (IsAtEnd x) n (xs ++ w.piece) zs old new s) (sym same) here;
    }

refused_stops : (deny : List Header → Type 0) (give : List Header → List ℕ → Reply → Type 0) (counts : Response → Type 0) (over : Type 0) (n : ℕ)
    (rest : List ℕ) (old new : Option (List ℕ)) (c : Fault) (is_head : Bool) (e : ConnEnd)
    → Holds rest (Refused c is_head) → RefusedAs old new c is_head e → Stopping deny give counts over n rest old new e
refused_stops deny give counts over n rest old new c is_head (end.Refused k) m r =
    record { out = refusal_bytes c is_head; wrote = r.1; ends = refused c is_head m refl (ap end.Refused r.0) }
refused_stops deny give counts over n rest old new c is_head end.WriteFault m r =
    record { out = take r.0 (refusal_bytes c is_head); wrote = r.2; ends = refusal_fault c is_head r.0 m refl refl }
refused_stops deny give counts over n rest old new c is_head end.Memory m r =
    record { out = []; wrote = appends_nothing old new r; ends = memory refl refl }
refused_stops deny give counts over n rest old new c is_head end.Ended m r = absurd r
refused_stops deny give counts over n rest old new c is_head (end.Cut k) m r = absurd r
refused_stops deny give counts over n rest old new c is_head end.Spent m r = absurd r
refused_stops deny give counts over n rest old new c is_head end.ReadFault m r = absurd r

pub stepped_refused : (deny : List Header → Type 0) (give : List Header → List ℕ → Reply → Type 0) (counts : Response → Type 0) (n : ℕ)
    (a b d : Option (List ℕ)) (xs ys : List ℕ) (old mid new : Option (List ℕ)) (hs : List HeaderSpan) (c : Fault) (is_head : Bool) (e : ConnEnd)
    → Awaits a b xs ys hs (arrived.Refused c is_head) → mid ≡ old → d ≡ b → RefusedAs mid new c is_head e
    → Stepped deny give counts n a d xs ys old new (step.Ends e)
stepped_refused deny give counts n a b d xs ys old mid new hs c is_head e w first same r =
    record {
      piece = w.piece;
      consumed = subst (λ (x : Option (List ℕ)). Consumes a x w.piece) (sym same) w.consumed;
      served =
          refused_stops deny give counts (IsAtEnd d) n (xs ++ w.piece) old new c is_head e
          (subst (λ (x : List ℕ). Holds x (Refused c is_head)) w.added w.holds)
          (subst (λ (x : Option (List ℕ)). RefusedAs x new c is_head e) first r);
    }

over_stops : (deny : List Header → Type 0) (give : List Header → List ℕ → Reply → Type 0) (counts : Response → Type 0) (over : Type 0) (n : ℕ)
    (rest : List ℕ) (old : Option (List ℕ)) (need : ℕ)
    → Holds rest (More need) → over → Stopping deny give counts over n rest old old (over_as rest)
over_stops deny give counts over n [] old need m o =
    record { out = []; wrote = appends_nothing old old refl; ends = between refl refl o refl }
over_stops deny give counts over n (x ∷ xs) old need m o =
    record { out = []; wrote = appends_nothing old old refl; ends = cut need m (omega arith) refl o refl }

pub stepped_over : (deny : List Header → Type 0) (give : List Header → List ℕ → Reply → Type 0) (counts : Response → Type 0) (n : ℕ)
    (a b : Option (List ℕ)) (xs ys : List ℕ) (old new : Option (List ℕ)) (hs : List HeaderSpan) (e : ConnEnd)
    → Awaits a b xs ys hs arrived.Over → new ≡ old → e ≡ over_as ys → Stepped deny give counts n a b xs ys old new (step.Ends e)
stepped_over deny give counts n a b xs ys old new hs e w same is =
    let stops : Stopping deny give counts (IsAtEnd b) n ys old old (over_as ys) = over_stops deny give counts (IsAtEnd b) n ys old w.holds.0.0 w.holds.0.1 w.holds.1 in
    let at_end : Stopping deny give counts (IsAtEnd b) n ys old old e = subst (λ (x : ConnEnd). Stopping deny give counts (IsAtEnd b) n ys old old x) (sym is) stops in
    let here : Stopping deny give counts (IsAtEnd b) n (xs ++ w.piece) old old e = subst (λ (x : List ℕ). Stopping deny give counts (IsAtEnd b) n x old old e) w.added at_end in
    record {
      piece = w.piece;
      consumed = w.consumed;
      served = subst (λ (x : Option (List ℕ)). Stopping deny give counts (IsAtEnd b) n (xs ++ w.piece) old x e) (sym same) here;
    }

pub stepped_failed : (deny : List Header → Type 0) (give : List Header → List ℕ → Reply → Type 0) (counts : Response → Type 0) (n : ℕ)
    (a b : Option (List ℕ)) (xs ys : List ℕ) (old new : Option (List ℕ)) (hs : List HeaderSpan)
    → Awaits a b xs ys hs arrived.Failed → new ≡ old → Stepped deny give counts n a b xs ys old new (step.Ends end.ReadFault)
stepped_failed deny give counts n a b xs ys old new hs w same =
    record {
      piece = w.piece;
      consumed = w.consumed;
      served = record {
        out = [];
        wrote = appends_nothing old new same;
        ends = read_fault w.holds.0 (subst (λ (x : List ℕ). Holds x (More w.holds.0)) w.added w.holds.1) refl refl;
      };
    }

pub over_no_read : (bytes : List ℕ) (x : ConnEnd) → x ≡ over_as bytes → step.Ends x ≡ step.Ends end.ReadFault → ⊥
over_no_read [] x e f = cc
over_no_read (b ∷ bs) x e f = cc

pub over_no_write : (bytes : List ℕ) (x : ConnEnd) → x ≡ over_as bytes → step.Ends x ≡ step.Ends end.WriteFault → ⊥
over_no_write [] x e f = cc
over_no_write (b ∷ bs) x e f = cc
