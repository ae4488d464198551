use Rattle.std.proofs.Common.{◌==◌, ◌∙◌, ap, List, length}
use Rattle.hq_sql_tree.specs.declared.select.Join.{Join}
use Rattle.hq_confine_members.proofs.Empty.{no_join}
use Rattle.hq_confine_members.proofs.alike.has_no_join.Goals as goal

pub returns : goal.returns
returns c = c.is_empty.ensures ∙ ap (λ (js : List Join). length js == 0) c.as_slice.ensures.value ∙ no_join c.args.joins.now.items
