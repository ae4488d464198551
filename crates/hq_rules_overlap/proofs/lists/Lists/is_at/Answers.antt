-- The row is the list.
use Rattle.std.proofs.Common.{rules, ◌∙◌, ap, sym, List, ℕ}
use Rattle.std.specs.Prelude.{Vec}
use Rattle.std.specs.declared.alloc.Global.{Global}
use Rattle.hq_overlap_sets.specs.Rows.{row_at}
use Rattle.hq_rules_overlap.proofs.Rows.{listed}
use Rattle.hq_rules_overlap.proofs.lists.Lists.is_at.Goals as goal

pub returns : goal.returns
returns c = λ held.
    listed c.args.self.now.rows.items c.args.place c.args.list.now (search rules)
    (ap (λ (rows : List (Vec ℕ Global)). row_at rows c.args.place) (sym c.deref.ensures.value) ∙ (sym c.row.ensures ∙ c.are_same.ensures held))
