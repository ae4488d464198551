use Rattle.std.proofs.Common.{◌≡◌, ◌∙◌, ℕ, List, [], ◌∷◌, ◌==◌, false, map, option_map, arith, ap, sym, refl}
use Rattle.std.specs.Str.{chars}
use Rattle.std.proofs.lemmas.Bool.{ne_eqb}
use Rattle.hq_base.specs.Patterns.{steps_of}
use Rattle.hq_base.specs.declared.pattern.Step.TheVariants.{This}
use Rattle.hq_like.specs.Signs.{lowered}
use Rattle.hq_like.proofs.Steps.{mapped_front}
use Rattle.hq_like.proofs.signs.sign_at.Goals as goal

-- a character without a meaning of its own stands for itself
stands_for_itself : (c : ℕ) (cs : List ℕ) → (c == 37) ≡ false → (c == 95) ≡ false → (c == 92) ≡ false → steps_of (c ∷ cs) ≡ option_map (λ steps. This c ∷ steps) (steps_of cs)
stands_for_itself c [] any one escape = rw (escape, any, one) refl
stands_for_itself c (d ∷ ds) any one escape = rw (escape, any, one) refl

pub returns-in_default-clause-sign : goal.returns-in_default-clause-sign
returns-in_default-clause-sign c =
    let fold = c.args.fold in
    let low = c.read_letter-in_default.ensures in
    ap (option_map (map (lowered fold))) (stands_for_itself c.args.c _ (ne_eqb c.args.c 37 (λ h. omega arith)) (ne_eqb c.args.c 95 (λ h. omega arith)) (ne_eqb c.args.c 92 (λ h. omega arith)))
    ∙ mapped_front fold (This c.args.c) (This c.read_letter-in_default.result) (steps_of (chars c.args.rest.now)) (ap This (sym low))

pub returns-in-Some-clause-sign : goal.returns-in-Some-clause-sign
returns-in-Some-clause-sign c =
    let fold = c.args.fold in
    let low = c.read_letter.ensures in
    let escape : c.args.c ≡ 92 = omega arith in
    ap (λ k. option_map (map (lowered fold)) (steps_of (k ∷ chars c.args.rest.now))) escape
    ∙ ap (λ cs. option_map (map (lowered fold)) (steps_of (92 ∷ cs))) c.in-Some.ensures
    ∙ mapped_front fold (This c.in-Some.escaped) (This c.read_letter.result) (steps_of (chars c.in-Some.rest.now)) (ap This (sym low))
