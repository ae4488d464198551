use Rattle.std.proofs.Common.{◌∙◌, ap, ℕ, List, Bool}
use Rattle.hq_base.specs.Patterns.{like}
use Rattle.hq_sql_cells.proofs.truth.text_matched.Goals as goal

pub returns : goal.returns
returns c = c.matches.ensures ∙ ap (λ (m : List ℕ × Bool). like m.1 m.0 c.args.text.now) c.in_ok-matcher.ensures
