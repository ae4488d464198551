-- What a pattern asks for of characters as they are compared.
use Rattle.std.specs.Prelude.{◌≡◌, ℕ, List, [], ◌∷◌, ◌++◌, map, Bool, false, Option}
use Rattle.std.specs.Global.{Vec}
use Rattle.std.specs.Option.{option_map_or}
use Rattle.hq_base.specs.Patterns.{meets, like}
use Rattle.hq_base.specs.declared.pattern.Step.{Step}
use Rattle.hq_base.specs.declared.pattern.Step.TheVariants as step
use Rattle.hq_like.specs.Reading.{read, read_letter}
use Rattle.hq_like.specs.declared.signs.Sign.{Sign}
use Rattle.hq_like.specs.declared.signs.Sign.TheVariants.{Any, One, This}

-- a sign is a step of the pattern
abbrev pub sign_view : Sign → Step
sign_view Any = step.Any
sign_view One = step.One
sign_view (This c) = step.This c

abbrev pub signs_view : List Sign → List Step
signs_view = map sign_view

-- a step whose character stands as it is compared
abbrev pub lowered : (fold : Bool) → Step → Step
lowered fold step.Any = step.Any
lowered fold step.One = step.One
lowered fold (step.This c) = step.This (read_letter fold c)

-- the same texts meet one list of steps as another one
pub record MeansSame (a b : List Step) : Type 0 where
  pub same : (cs : List ℕ) → meets false a cs ≡ meets false b cs

-- these signs mean what the others mean with this one behind them
pub record Adds (before : List Sign) (sign : Sign) (after : List Sign) : Type 0 where
  pub same : (more : List Step) → MeansSame (signs_view after ++ more) (signs_view before ++ sign_view sign ∷ more)

-- a text is like the pattern exactly where its characters meet these signs, and never where there are none
abbrev pub MeansLike : (fold : Bool) → (pattern : List ℕ) → Option (Vec Sign) → Type 0
MeansLike fold pattern signs =
    (text : List ℕ) → like fold pattern text ≡ option_map_or (λ v. meets false (signs_view v.items) (read fold text)) signs false
