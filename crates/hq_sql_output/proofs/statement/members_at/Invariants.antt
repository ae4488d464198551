use Rattle.std.proofs.Common.{◌≡◌, map, take}
use Rattle.hq_answer.specs.Answers.{named_text}
use Rattle.hq_sql_tree.specs.View.{pair_view}
use Rattle.hq_sql_access.specs.View.{world_of, names_of}
use Rattle.hq_sql_output.specs.Placed.{names_in}
use Rattle.hq_sql_output.specs.Texts.{named_pair}
use Rattle.hq_sql_output.proofs.statement.members_at.Given as goal

abbrev pub invariant-loop-pair : goal.invariant-loop-pair
invariant-loop-pair l = map named_text l.members.items ≡ map (named_pair (names_in l.placed (world_of l.world) (names_of l.scope l.world) l.place)) (map pair_view (take l.pair-index l.pairs.items))
