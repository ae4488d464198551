use Rattle.std.proofs.Common.{◌≡◌, ◌∙◌, ◌++◌, ◌∷◌, [], ap, sym, subst}
use Rattle.hq_like.specs.Signs.{Adds}
use Rattle.hq_like.specs.declared.signs.Sign.TheVariants.{Any}
use Rattle.hq_like.proofs.Steps.{added_any, added_one}
use Rattle.hq_like.proofs.signs.add.Goals as goal

pub returns-in_ok-push-in-Any-Any : goal.returns-in_ok-push-in-Any-Any
returns-in_ok-push-in-Any-Any c =
    let xs = c.pop.new.self.items in
    let before = c.args.signs.now.items in
    let after = c.push-in-Any-Any.new.self.items in
    let was : before ≡ xs ++ Any ∷ [] = c.in-Some.ensures.items ∙ ap (λ s. xs ++ s ∷ []) c.in-Any-Any.is-0 in
    subst (λ s. Adds before s after) (sym c.in-Any-Any.is-1) (added_any xs before after was c.in_ok-push-in-Any-Any.ensures.items)

pub returns-in_ok-push-in-Any-One-2 : goal.returns-in_ok-push-in-Any-One-2
returns-in_ok-push-in-Any-One-2 c =
    let xs = c.pop.new.self.items in
    let before = c.args.signs.now.items in
    let middle = c.push-in-Any-One.new.self.items in
    let after = c.push-in-Any-One-2.new.self.items in
    let was : before ≡ xs ++ Any ∷ [] = c.in-Some.ensures.items ∙ ap (λ s. xs ++ s ∷ []) c.in-Any-One.is-0 in
    subst (λ s. Adds before s after) (sym c.in-Any-One.is-1) (added_one xs before middle after was c.in_ok-push-in-Any-One.ensures.items c.in_ok-push-in-Any-One-2.ensures.items)
