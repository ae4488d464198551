use Rattle.std.proofs.Common.{◌+◌, ◌*◌}
use Rattle.hq_gql_parser.proofs.types.+type_ref.Given as goal

abbrev pub decreases-list_type : goal.decreases-list_type
decreases-list_type l = 4 * l.depth

abbrev pub decreases-nullable : goal.decreases-nullable
decreases-nullable l = 4 * l.depth + 1

abbrev pub decreases-type_ref : goal.decreases-type_ref
decreases-type_ref l = 4 * l.depth + 2

abbrev pub decreases-opened_list_type : goal.decreases-opened_list_type
decreases-opened_list_type l = 4 * l.depth + 3
