-- LIKE and ILIKE (PostgreSQL manual, pattern matching): % stands for any characters, _ for one character, and \ for
-- the character behind it as it is.
use Rattle.std.specs.Prelude.{ℕ, ◌==◌, ◌&&◌, ◌||◌, List, [], ◌∷◌, Bool, true, false, Option, Some, None, is_some, option_map, Result, Ok, Err, if◌then◌else◌}
use Rattle.std.specs.Option.{option_map_or}
use Rattle.std.specs.Str.{chars}
use Rattle.std.specs.Char.{to_ascii_lowercase}
use Rattle.hq_base.specs.declared.pattern.Step.{Step}
use Rattle.hq_base.specs.declared.pattern.Step.TheVariants.{Any, One, This}
use Rattle.hq_base.specs.declared.pattern.PatternRefusal.{PatternRefusal}
use Rattle.hq_base.specs.declared.pattern.PatternRefusal.TheVariants.{EndsInEscape}

-- what a character that is not escaped asks for
abbrev pub plain_step : ℕ → Step
plain_step c = if c == 37 then Any else (if c == 95 then One else This c)

-- what a pattern's characters ask for, read from the left; None where a last \ is left alone
abbrev pub steps_of : List ℕ → Option (List Step)
steps_of [] = Some []
steps_of (c ∷ []) = if c == 92 then None else Some (plain_step c ∷ [])
steps_of (c ∷ d ∷ cs) =
    if c == 92 then option_map (λ steps. This d ∷ steps) (steps_of cs) else option_map (λ steps. plain_step c ∷ steps) (steps_of (d ∷ cs))

-- two characters are alike: equal, or under fold equal but for the case of the letters A to Z
abbrev pub alike : (fold : Bool) → ℕ → ℕ → Bool
alike fold c d = if fold then to_ascii_lowercase c == to_ascii_lowercase d else c == d

-- the first character passes the test, and the rest of the text too
abbrev pub first_then : (ℕ → Bool) → (List ℕ → Bool) → List ℕ → Bool
first_then test rest [] = false
first_then test rest (c ∷ cs) = test c && rest cs

-- the text or some end of it passes the test
abbrev pub some_end : (List ℕ → Bool) → List ℕ → Bool
some_end test [] = test []
some_end test (c ∷ cs) = test (c ∷ cs) || some_end test cs

abbrev pub is_empty : List ℕ → Bool
is_empty [] = true
is_empty (c ∷ cs) = false

-- the characters are what the steps ask for
abbrev pub meets : (fold : Bool) → List Step → List ℕ → Bool
meets fold [] = is_empty
meets fold (Any ∷ steps) = some_end (meets fold steps)
meets fold (One ∷ steps) = first_then (λ c. true) (meets fold steps)
meets fold (This d ∷ steps) = first_then (alike fold d) (meets fold steps)

-- the text is like the pattern
abbrev pub like : (fold : Bool) → (pattern text : List ℕ) → Bool
like fold pattern text = option_map_or (λ steps. meets fold steps (chars text)) (steps_of (chars pattern)) false

-- a pattern, which does not end in an escape
abbrev pub pattern_of : List ℕ → Result (List ℕ) PatternRefusal
pattern_of text = if is_some (steps_of (chars text)) then Ok text else Err EndsInEscape
