use Rattle.std.proofs.Common.{◌≡◌, ℕ, List, [], ◌∷◌, ◌==◌, false, option_map, arith, refl}
use Rattle.std.proofs.lemmas.Bool.{ne_eqb}
use Rattle.hq_base.specs.Patterns.{steps_of}
use Rattle.hq_base.specs.declared.pattern.Step.TheVariants.{This}
use Rattle.hq_base.proofs.pattern.step_at.Goals as goal

-- a character without a meaning of its own stands for itself
stands_for_itself : (c : ℕ) (cs : List ℕ) → (c == 37) ≡ false → (c == 95) ≡ false → (c == 92) ≡ false → steps_of (c ∷ cs) ≡ option_map (λ steps. This c ∷ steps) (steps_of cs)
stands_for_itself c [] any one escape = rw (escape, any, one) refl
stands_for_itself c (d ∷ ds) any one escape = rw (escape, any, one) refl

pub returns-in_default-clause-step : goal.returns-in_default-clause-step
returns-in_default-clause-step c =
    stands_for_itself c.args.c _ (ne_eqb c.args.c 37 (λ h. omega arith)) (ne_eqb c.args.c 95 (λ h. omega arith)) (ne_eqb c.args.c 92 (λ h. omega arith))
