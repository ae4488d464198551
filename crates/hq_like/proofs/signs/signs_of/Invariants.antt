use Rattle.std.proofs.Common.{◌≡◌, ℕ, List, ◌++◌, length, map, false}
use Rattle.std.specs.Option.{option_map_or}
use denote.Text.{Utf8}
use denote.Shadow.{shadow}
use Rattle.std.specs.Str.{chars}
use Rattle.hq_base.specs.Patterns.{steps_of, meets}
use Rattle.hq_like.specs.Signs.{lowered, signs_view}
use Rattle.hq_like.proofs.signs.signs_of.Given as goal

-- a text meets the pattern where it meets the signs and what is left behind them
abbrev pub invariant-loop-c : goal.invariant-loop-c
invariant-loop-c l =
    shadow (Utf8 l.left)
    × ((cs : List ℕ) → option_map_or (λ steps. meets false (map (lowered l.fold) steps) cs) (steps_of (chars l.pattern)) false
    ≡ option_map_or (λ steps. meets false (signs_view l.signs.items ++ map (lowered l.fold) steps) cs) (steps_of (chars l.left)) false)

abbrev pub decreases-loop-c : goal.decreases-loop-c
decreases-loop-c l = length (chars l.left)
