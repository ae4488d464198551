use Rattle.std.proofs.Common.{◌≡◌, refl, ℕ, List, Option, Some, None, Ok, ok_or}
use Rattle.std.specs.Str.{chars}
use Rattle.hq_base.specs.Patterns.{steps_of, pattern_of}
use Rattle.hq_base.specs.declared.pattern.Step.{Step}
use Rattle.hq_base.specs.declared.pattern.PatternRefusal.{PatternRefusal}
use Rattle.hq_base.proofs.pattern.Pattern.new.Goals as goal

found : (o : Option (List Step)) (e : PatternRefusal) (steps : List Step) → ok_or o e ≡ Ok steps → o ≡ Some steps
found None e steps h = cc
found (Some x) e steps h = cc

is_pattern : (text : List ℕ) (steps : List Step) → steps_of (chars text) ≡ Some steps → pattern_of text ≡ Ok text
is_pattern text steps h = rw h refl

pub invariant_of-result : goal.invariant_of-result
invariant_of-result c = rw (c.in_ok-text.ensures, ← c.as_str.ensures) (found _ _ _ c.in_ok-steps.ensures)

pub returns : goal.returns
returns c = rw c.in_ok-text.ensures (is_pattern c.args.text.now c.in_ok-steps.steps (rw (← c.as_str.ensures) (found _ _ _ c.in_ok-steps.ensures)))
