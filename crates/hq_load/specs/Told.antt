-- What a call answers over objects that tell their content.
use Rattle.std.specs.Prelude.{◌≡◌, ◌⊎◌, Result, Ok, Err}

-- The answer is the due one, seen by view; where memory is wanted, or an object failed, it may be that in its place.
abbrev pub GivesUnless : {X Y E : Type 0} → (X → Y) → (memory fault : E) → (due : Result Y E) → Result X E → Type 0
GivesUnless view memory fault due (Ok x) = due ≡ Ok (view x)
GivesUnless view memory fault due (Err e) = (e ≡ memory) ⊎ (e ≡ fault) ⊎ (due ≡ Err e)
