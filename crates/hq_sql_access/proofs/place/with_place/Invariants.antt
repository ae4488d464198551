use Rattle.std.proofs.Common.{◌≡◌, ◌+◌, ◌-◌, vec_len}
use Rattle.hq_sql_tree.specs.Meaning.{NamedRow}
use Rattle.hq_sql_access.specs.Joined.{put_joined}
use Rattle.hq_sql_access.specs.View.{joined_view}
use Rattle.hq_sql_access.proofs.place.with_place.Given as goal

-- the places so far give the same
abbrev pub invariant-loop-all : goal.invariant-loop-all
invariant-loop-all l = (row : NamedRow) → put_joined (joined_view l.all) l.at row ≡ put_joined (joined_view l.fn.joined) l.at row

abbrev pub decreases-loop-all : goal.decreases-loop-all
decreases-loop-all l = (l.at + 1) - vec_len l.all
