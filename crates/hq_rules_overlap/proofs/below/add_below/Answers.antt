-- The row of the key has the set.
use Rattle.std.proofs.Common.{refl, ◌∙◌, ap, subst, List, ℕ}
use Rattle.std.specs.List.{Contains}
use Rattle.hq_overlap_sets.specs.Rows.{row_at}
use Rattle.hq_overlap_sets.specs.Sets.{place_in}
use Rattle.hq_rules_overlap.proofs.below.add_below.Goals as goal

pub push_below-requires-clause-key : goal.push_below-requires-clause-key
push_below-requires-clause-key c = c.if-not-is_key_at.ensures refl

pub returns-clause-added : goal.returns-clause-added
returns-clause-added c = λ _.
    let at = c.place_of-at.ensures ∙ ap (λ (k : List ℕ). place_in c.args.keys.now k) c.key.ensures in
    subst (λ (n : ℕ). Contains (row_at c.push_below.new.rows.items n) c.args.entry.now.below) at c.in_ok-push_below.ensures.added
