-- What a disk has, where it tells it.
use Rattle.std.specs.Prelude.{◌≡◌, ◌+◌, ℕ, List, ◌++◌, length, take, drop, ⊤}
use Rattle.std.specs.declared.option.Option.{Option}
use Rattle.std.specs.declared.option.Option.TheVariants.{None, Some}

-- the new bytes are the old ones with this piece at this place
abbrev pub Holds : (old : Option (List ℕ)) → (at : ℕ) → (piece : List ℕ) → (new : Option (List ℕ)) → Type 0
Holds None at piece new = ⊤
Holds (Some old) at piece None = ⊥
Holds (Some old) at piece (Some new) = new ≡ take at old ++ piece ++ drop (at + length piece) old

-- this piece stands at this place
abbrev pub HoldsAt : (held : Option (List ℕ)) → (at : ℕ) → (piece : List ℕ) → Type 0
HoldsAt None at piece = ⊤
HoldsAt (Some held) at piece = take (length piece) (drop at held) ≡ piece
