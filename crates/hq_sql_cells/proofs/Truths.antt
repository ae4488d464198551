-- OR over a list, begun with a truth; and what a pattern's refusal says.
use Rattle.std.proofs.Common.{◌≡◌, refl, ℕ, List, Bool, true, false, Some, None, Ok, Err, is_some}
use Rattle.std.specs.Prelude.{if◌then◌else◌}
use Rattle.std.specs.Option.{option_map_or}
use Rattle.std.specs.Str.{chars}
use Rattle.hq_base.specs.Patterns.{steps_of, meets, like, pattern_of}
use Rattle.hq_base.specs.declared.pattern.PatternRefusal.{PatternRefusal}
use Rattle.hq_base.specs.declared.pattern.PatternRefusal.TheVariants.{EndsInEscape}
use Rattle.hq_model.specs.Logic.{or3}
use Rattle.hq_model.specs.declared.truth.Truth.{Truth}
use Rattle.hq_model.specs.declared.truth.Truth.TheVariants.{Yes, No, Unknown}

pub or3_no : (a : Truth) → or3 a No ≡ a
or3_no Yes = refl
or3_no No = refl
or3_no Unknown = refl

pub or3_assoc : (a b c : Truth) → or3 (or3 a b) c ≡ or3 a (or3 b c)
or3_assoc Yes b c = refl
or3_assoc No b c = refl
or3_assoc Unknown Yes c = refl
or3_assoc Unknown No c = refl
or3_assoc Unknown Unknown Yes = refl
or3_assoc Unknown Unknown No = refl
or3_assoc Unknown Unknown Unknown = refl

-- the pattern of a text is that text
pub pattern_is : (s p : List ℕ) → pattern_of s ≡ Ok p → p ≡ s
pattern_is s p =
    elim (is_some (steps_of (chars s))) as (λ b. (if b then Ok s else Err EndsInEscape) ≡ Ok p → p ≡ s) [
      | true ↦ λ h. cc
      | false ↦ λ h. cc
    ]

-- nothing is like a text that is no pattern
pub no_pattern : (fold : Bool) (s t : List ℕ) (e : PatternRefusal) → pattern_of s ≡ Err e → false ≡ like fold s t
no_pattern fold s t e =
    elim (steps_of (chars s)) as (λ o. (if is_some o then Ok s else Err EndsInEscape) ≡ Err e → false ≡ option_map_or (λ steps. meets fold steps (chars t)) o false) [
      | None ↦ λ h. refl
      | Some steps ↦ λ h. cc
    ]
