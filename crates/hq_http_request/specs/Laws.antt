-- What the bytes at hand hold is decided, but for two choices that are left open.
use Rattle.std.specs.Prelude.{◌≡◌, ℕ, List}
use Rattle.httparse.specs.Grammar.{RequestHead, HasNoRequest, NeverHasRequest, MayBecomeRequest, EndsInTarget}
use Rattle.httparse.specs.Spans.{RequestOverflows}
use Rattle.hq_http_request.specs.Holds.{HasHead, window}

-- where a head of at most 64 fields stands at the front it is the only one, and no other case holds
pub record Decides (bytes : List ℕ) (h : RequestHead) : Type 0 where
  pub only : (k : RequestHead) → HasHead bytes k → k ≡ h
  pub no_request : ¬ (HasNoRequest (window bytes))
  pub no_overflow : ¬ (RequestOverflows 64 (window bytes))
  pub no_end : ¬ (NeverHasRequest (window bytes))

abbrev pub HeadDecides : Type 0
HeadDecides = (bytes : List ℕ) (h : RequestHead) → HasHead bytes h → Decides bytes h

-- bytes that may become a head, and that no head begins with, end inside a target: its test for UTF-8 waits for its end
abbrev pub TargetsAreOpen : Type 0
TargetsAreOpen = (bytes : List ℕ) → MayBecomeRequest bytes → NeverHasRequest bytes → EndsInTarget bytes
