-- What a pattern that is read once means.
use Rattle.std.specs.Prelude.{◌≡◌, ℕ, List, Bool, false, Option}
use Rattle.std.specs.Option.{option_map_or}
use Rattle.hq_base.specs.Patterns.{meets, like}
use Rattle.hq_like.specs.Parts.{parts_view}
use Rattle.hq_like.specs.Reading.{read}
use Rattle.hq_like.specs.declared.parts.Parts.{Parts as RustParts}

-- a text is like the pattern exactly where its characters meet these parts, and never where there are none
abbrev pub Fits : (pattern : List ℕ) → (fold : Bool) → Option RustParts → Type 0
Fits pattern fold parts = (text : List ℕ) → like fold pattern text ≡ option_map_or (λ p. meets false (parts_view p) (read fold text)) parts false
