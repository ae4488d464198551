-- What a reply leaves of the bytes at hand and of those written.
use Rattle.std.proofs.Common.{◌≡◌, ◌≤◌, ◌<◌, ◌||◌, ◌==◌, ◌++◌, ℕ, List, [], Bool, true, false, take, drop, refl, sym, ap, ◌∙◌, subst, arith, append-nil, if◌then◌else◌}
use Rattle.std.proofs.lemmas.Grind.{common_steps}
use Rattle.std.specs.declared.option.Option.{Option}
use Rattle.std.specs.declared.option.Option.TheVariants.{None, Some}
use Rattle.std.specs.Io.KnownBytes.{Appends}
use Rattle.httparse.specs.Grammar.{print_request}
use Rattle.hq_base.specs.declared.reply.Reply.{Reply}
use Rattle.hq_session.specs.declared.header.Header.{Header}
use Rattle.hq_http_request.specs.declared.judge.WholeRequest.{WholeRequest}
use Rattle.hq_http.specs.declared.respond.Response.{Response}
use Rattle.hq_http.specs.declared.end.Sent.{Sent}
use Rattle.hq_http.specs.declared.end.Sent.TheVariants.{Whole, Fault, Memory}
use Rattle.hq_http.specs.declared.reply.Manner.{Manner}
use Rattle.hq_http.specs.declared.end.Step.{Step}
use Rattle.hq_http.specs.declared.end.Step.TheVariants as step
use Rattle.hq_http.specs.declared.end.ConnEnd.TheVariants as end
use Rattle.hq_http.specs.Connections.{closed, reply_fault, memory, response_status, response_is_plain, response_text}
use Rattle.hq_http.specs.Serving.{Responds, Writes, ServedAs, step_after}
use Rattle.hq_http.specs.Replies.{reply_bytes}

wanted : (a : Bool) (n : ℕ) → false ≡ (a || n == 999) → a ≡ false
wanted true n e = absurd (cc)
wanted false n e = refl

early : (a : Bool) (n : ℕ) → false ≡ (a || n == 999) → n ≤ 999 → n < 999
early true n e le = absurd (cc)
early false n e le = grind (arith, common_steps)

pub appends_nothing : (old new : Option (List ℕ)) → new ≡ old → Appends old new []
appends_nothing None new e = tt
appends_nothing (Some xs) None e = absurd (cc)
appends_nothing (Some xs) (Some ys) e = let same : ys ≡ xs = cc in same ∙ sym (append-nil xs)

abbrev manner : Response → WholeRequest → Bool → Manner
manner g request closes = record { status = response_status g; plain = response_is_plain g; place = request.place; closes = closes; is_head = request.is_head }

pub served : (deny : List Header → Type 0) (give : List Header → List ℕ → Reply → Type 0) (counts : Response → Type 0) (over : Type 0)
    (n : ℕ) (at_hand at_hand' : List ℕ) (written written' : Option (List ℕ)) (request : WholeRequest) (g : Response) (sent : Sent) (closes : Bool)
    → n ≤ 999 → closes ≡ (request.closes || n == 999) → Responds deny give at_hand request g → counts g → at_hand' ≡ drop request.len at_hand
    → Writes written written' (reply_bytes (manner g request closes) (response_text g)) sent
    → ServedAs deny give counts over n at_hand at_hand' written written' (step_after sent closes n)
served deny give counts over n b b' old new request g Whole false le e response count rest writes =
    record {
      x = record { head = response.head; body = response.body; request = request; response = g; ends = false };
      exchange = response.exchange false;
      open_end = refl;
      wanted = wanted request.closes n e;
      early = early request.closes n e le;
      counted = count;
      all = response.all ∙ ap (λ w. (print_request response.head ++ response.body) ++ w) (sym rest);
      wrote = writes;
    }
served deny give counts over n b b' old new request g Whole true le e response count rest writes =
    record {
      out = reply_bytes (manner g request true) (response_text g);
      wrote = writes;
      ends =
          closed (record { head = response.head; body = response.body; request = request; response = g; ends = true }) (drop request.len b)
          (response.exchange true) e refl count response.all refl refl;
    }
served deny give counts over n b b' old new request g Fault closes le e response count rest writes =
    record {
      out = take writes.0 (reply_bytes (manner g request closes) (response_text g));
      wrote = writes.2;
      ends =
          reply_fault (record { head = response.head; body = response.body; request = request; response = g; ends = closes })
          (drop request.len b) writes.0 (response.exchange closes) e count response.all refl refl;
    }
served deny give counts over n b b' old new request g Memory closes le e response count rest writes =
    record { out = []; wrote = appends_nothing old new writes; ends = memory refl refl }

no_fault : (b : Bool) → step.Ends (if b then end.Spent else end.Ended) ≡ step.Ends end.WriteFault → ⊥
no_fault true e = cc
no_fault false e = cc

no_read : (b : Bool) → step.Ends (if b then end.Spent else end.Ended) ≡ step.Ends end.ReadFault → ⊥
no_read true e = cc
no_read false e = cc

pub fault_sent : (sent : Sent) (closes : Bool) (n : ℕ) → step_after sent closes n ≡ step.Ends end.WriteFault → sent ≡ Fault
fault_sent Whole false n e = absurd (cc)
fault_sent Whole true n e = absurd (no_fault (n == 999) e)
fault_sent Fault closes n e = refl
fault_sent Memory closes n e = absurd (cc)

pub never_read : (sent : Sent) (closes : Bool) (n : ℕ) → step_after sent closes n ≡ step.Ends end.ReadFault → ⊥
never_read Whole false n e = cc
never_read Whole true n e = no_read (n == 999) e
never_read Fault closes n e = cc
never_read Memory closes n e = cc

pub served_at : (deny : List Header → Type 0) (give : List Header → List ℕ → Reply → Type 0) (counts : Response → Type 0) (over : Type 0)
    (n : ℕ) (bytes at_hand at_hand' : List ℕ) (written written' : Option (List ℕ)) (request : WholeRequest) (g : Response) (sent : Sent) (closes : Bool) (s : Step)
    → bytes ≡ at_hand → s ≡ step_after sent closes n → n ≤ 999 → closes ≡ (request.closes || n == 999) → Responds deny give bytes request g → counts g → at_hand' ≡ drop request.len at_hand
    → Writes written written' (reply_bytes (manner g request closes) (response_text g)) sent
    → ServedAs deny give counts over n at_hand at_hand' written written' s
served_at deny give counts over n bytes b b' old new request g sent closes s eb es le e response count rest writes =
    subst (λ (x : Step). ServedAs deny give counts over n b b' old new x) (sym es)
    (served deny give counts over n b b' old new request g sent closes le e (subst (λ (x : List ℕ). Responds deny give x request g) eb response) count rest writes)
