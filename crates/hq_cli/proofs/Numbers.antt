-- The number of an option, as it is read from its text.
use Rattle.std.proofs.Common.{◌≡◌, ℕ, List, Result, refl, sym, ap}
use Rattle.std.specs.Prelude.{Option, Some, None, IfSome, option_map}
use Rattle.std.specs.Str.Parse.{digits_value, without_leading_plus, ParsesUnsigned, ExplainsUnsignedError, HasUnsignedDigitsIfOk}
use Rattle.std.specs.declared.num.ParseIntError.{ParseIntError}
use Rattle.clap.specs.Words.{ReadsOne}

-- what reading an unsigned number of so many bits gives
abbrev pub ReadsUnsigned : ℕ → List ℕ → Result ℕ ParseIntError → Type 0
ReadsUnsigned bits text r = ParsesUnsigned bits 10 text r × ExplainsUnsignedError 10 text r × HasUnsignedDigitsIfOk text r

pub number_read : (bits : ℕ) (text : Option (List ℕ)) (r : Option ℕ) → (text ≡ None → r ≡ None) → ((t : List ℕ) → text ≡ Some t → ReadsOne (ReadsUnsigned bits) t r)
    → IfSome r (λ n. option_map (λ t. digits_value 10 (without_leading_plus t)) text ≡ Some n)
number_read bits text None none value = tt
number_read bits None (Some n) none value = let bad : Some n ≡ None = none refl in absurd (cc)
number_read bits (Some t) (Some n) none value = ap Some (sym (value t refl).0.1)
