-- A head decides what the bytes at hand hold.
use Rattle.std.proofs.Common.{◌≤◌, ◌<◌, ◌++◌, ℕ, List, [], length, sym, subst, arith, append-nil, inl, inr}
use Rattle.httparse.specs.Grammar.{RequestHead, ReadsRequest}
use Rattle.httparse.proofs.GrammarLemmas.{request_unique}
use Rattle.hq_http_request.specs.Holds.{window}
use Rattle.hq_http_request.specs.Laws.{HeadDecides, TargetsAreOpen}

reads_on : (w : List ℕ) (h : RequestHead) (rest : List ℕ) → ReadsRequest w h rest → ReadsRequest (w ++ []) h rest
reads_on w h rest r = subst (λ (x : List ℕ). ReadsRequest x h rest) (sym (append-nil w)) r

too_few : (n : ℕ) → 64 < n → n ≤ 64 → ⊥
too_few n a b = absurd (omega arith)

pub head_decides : HeadDecides
head_decides bytes h hd =
    record {
      only = λ k kd. (request_unique (window bytes) k h kd.rest hd.rest kd.reads hd.reads).0;
      no_request = λ f. f h hd.rest hd.reads;
      no_overflow = λ f. too_few (length h.fields) (f [] h hd.rest (reads_on (window bytes) h hd.rest hd.reads)) hd.few;
      no_end = λ f. f [] h hd.rest (reads_on (window bytes) h hd.rest hd.reads);
    }

pub targets_are_open : TargetsAreOpen
targets_are_open bytes may never = elim may [
  | inl (more, h, reads) ↦ absurd (never more h [] reads)
  | inr target ↦ target
]
