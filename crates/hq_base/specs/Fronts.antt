-- How a pattern is matched from one % to the next. Private clauses alone cite it.
use Rattle.std.specs.Prelude.{ℕ, List, [], ◌∷◌, Bool, true, if◌then◌else◌}
use Rattle.std.specs.Str.{chars}
use Rattle.hq_base.specs.Patterns.{alike}
use Rattle.hq_base.specs.declared.pattern.Step.{Step}
use Rattle.hq_base.specs.declared.pattern.Step.TheVariants.{Any, One, This}
use Rattle.hq_base.specs.declared.pattern.Reach.{Reach as RustReach}
use Rattle.hq_base.specs.declared.pattern.Reach.TheVariants as rust

-- the step stands for the character, perhaps among others
abbrev pub fits : (fold : Bool) → Step → ℕ → Bool
fits fold Any c = true
fits fold One c = true
fits fold (This d) c = alike fold d c

-- how far a text goes with the steps before the first %: not at all, or to both ends, or to the steps behind the %
-- and the rest of the text
pub data Reach : Type 0 where
  misfit : Reach
  whole : Reach
  up_to_any : (later : List Step) → (rest : List ℕ) → Reach

abbrev pub at_end : List ℕ → Reach
at_end [] = whole
at_end (c ∷ cs) = misfit

abbrev pub behind_first : (ℕ → Bool) → (List ℕ → Reach) → List ℕ → Reach
behind_first test rest [] = misfit
behind_first test rest (c ∷ cs) = if test c then rest cs else misfit

abbrev pub front : (fold : Bool) → List Step → List ℕ → Reach
front fold [] text = at_end text
front fold (Any ∷ steps) text = up_to_any steps text
front fold (One ∷ steps) text = behind_first (fits fold One) (front fold steps) text
front fold (This d ∷ steps) text = behind_first (fits fold (This d)) (front fold steps) text

-- what the code's Reach says
abbrev pub reach : RustReach → Reach
reach rust.Misfit = misfit
reach rust.Whole = whole
reach (rust.UpToAny later rest) = up_to_any later.now (chars rest.now)
