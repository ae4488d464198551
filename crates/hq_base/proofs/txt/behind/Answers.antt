use Rattle.std.proofs.Common.{◌≡◌, ℕ, List, ◌++◌, Option, Some, None, MatchOption, Bor, ap, sym, ◌∙◌, subst}
use Rattle.std.specs.Str.Pattern.{FindsTextPrefix, StripsPrefix}
use Rattle.hq_base.specs.Text.{after}
use Rattle.hq_base.proofs.TextLemmas.{after-front, after-none}
use Rattle.hq_base.proofs.txt.behind.Goals as goal

-- what `strip_prefix` gives is what follows the front
stripped : (front text : List ℕ) (r : Option (Bor (List ℕ)))
    → MatchOption r (FindsTextPrefix front text None) (λ x. StripsPrefix (FindsTextPrefix front) text x.now)
    → MatchOption r (after front text ≡ None) (λ rest. after front text ≡ Some rest.now)
stripped front text None h = after-none front text h
stripped front text (Some x) (n, found, is, long) =
    subst (λ (t : List ℕ). after front t ≡ Some x.now) (ap (λ (rest : List ℕ). front ++ rest) is ∙ sym found.1) (after-front front x.now)

pub returns : goal.returns
returns c = stripped c.args.front.now c.args.text.now c.strip_prefix.result c.strip_prefix.ensures.cases
