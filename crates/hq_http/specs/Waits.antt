-- What reading on gives.
use Rattle.std.specs.Prelude.{◌≡◌, ℕ, ◌<◌, ◌≤◌, List, ◌++◌, length}
use Rattle.std.specs.declared.option.Option.{Option}
use Rattle.std.specs.Io.KnownBytes.{Consumes, IsAtEnd}
use Rattle.httparse.specs.declared.spans.HeaderSpan.{HeaderSpan}
use Rattle.hq_http_request.specs.declared.next.Next.TheVariants as next
use Rattle.hq_http_request.specs.Holds.{Holds, window}
use Rattle.hq_http_request.specs.Reads.{SpansAre}
use Rattle.hq_http.specs.declared.await_next.Filled.{Filled}
use Rattle.hq_http.specs.declared.await_next.Filled.TheVariants as filled
use Rattle.hq_http.specs.declared.await_next.Arrived.{Arrived}
use Rattle.hq_http.specs.declared.await_next.Arrived.TheVariants as arrived

-- a piece of what is left was added to the bytes at hand
pub record Reaches (left left' : Option (List ℕ)) (old new : List ℕ) : Type 0 where
  pub piece : List ℕ
  pub added : new ≡ old ++ piece
  pub consumed : Consumes left left' piece

abbrev pub FilledAs : Filled → (at_hand : List ℕ) → (need : ℕ) → (over : Type 0) → Type 0
FilledAs filled.Enough at_hand need over = need ≤ length at_hand
FilledAs filled.Over at_hand need over = (length at_hand < need) × over
FilledAs filled.Failed at_hand need over = length at_hand < need

-- a piece of what is left was added to the bytes at hand
pub record FillsTo (left left' : Option (List ℕ)) (old new : List ℕ) (need : ℕ) (f : Filled) : Type 0 where
  pub piece : List ℕ
  pub added : new ≡ old ++ piece
  pub consumed : Consumes left left' piece
  pub holds : FilledAs f new need (IsAtEnd left')

abbrev pub ArrivedAs : Arrived → (at_hand : List ℕ) → (headers : List HeaderSpan) → (over : Type 0) → Type 0
ArrivedAs (arrived.Whole request) at_hand headers over = Holds at_hand (next.Whole request) × SpansAre (window at_hand) headers request
ArrivedAs (arrived.Refused c is_head) at_hand headers over = Holds at_hand (next.Refused c is_head)
ArrivedAs arrived.Over at_hand headers over = ((need : ℕ) × Holds at_hand (next.More need)) × over
ArrivedAs arrived.Failed at_hand headers over = (need : ℕ) × Holds at_hand (next.More need)

-- the bytes at hand hold what arrived
pub record Awaits (left left' : Option (List ℕ)) (old new : List ℕ) (headers : List HeaderSpan) (c : Arrived) : Type 0 where
  pub piece : List ℕ
  pub added : new ≡ old ++ piece
  pub consumed : Consumes left left' piece
  pub holds : ArrivedAs c new headers (IsAtEnd left')
