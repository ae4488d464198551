use Rattle.std.proofs.Common.{ℕ, List, Bor, bytes_eq, refl, sym}
use Rattle.hq_confine_rules.specs.Origins.{same_path}
use Rattle.hq_confine_uses.specs.Views.{texts}
use Rattle.hq_confine_uses.proofs.Walks.{lists_differ}
use Rattle.hq_confine_uses.proofs.origins.same_aliases.Goals as goal

pub returns-then-one-other : goal.returns-then-one-other
returns-then-one-other c =
    let F = λ (us vs : List (Bor (List ℕ))). same_path (texts us) (texts vs) in
    sym (lists_differ F (λ a b. bytes_eq a.now b.now) (λ a b us vs. refl) (λ b vs. refl) (λ a us. refl) c.args.one.now c.args.other.now c.if-one-other.true)
