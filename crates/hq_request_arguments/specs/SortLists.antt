-- Lists of sorts that grow. Private clauses alone cite it.
use Rattle.std.specs.Prelude.{List, ◌++◌, map, Vec}
use Rattle.std.specs.declared.alloc.Global.{Global}
use Rattle.hq_request_tree.specs.Arguments.{sort_view}
use Rattle.hq_request_tree.specs.declared.arguments.Sort.{Sort}
use Rattle.hq_base.specs.Due.{mapped}
use Rattle.hq_model.specs.Selected.{SortKey}
use Rattle.hq_request_arguments.specs.Reading.{Read}

-- what sorts are seen as
abbrev pub sorts_view : Vec Sort Global → List SortKey
sorts_view v = map sort_view v.items

-- these sorts, and behind them what is read
abbrev pub behind : List SortKey → Read (List SortKey) → Read (List SortKey)
behind before more = mapped (λ ks. before ++ ks) more
