use Rattle.hq_base.proofs.StableSorts.{std_sort}
use Rattle.hq_base.proofs.stable_sort.sort.Goals as goal

-- what std's sort gives is the sort of the definitions
pub returns : goal.returns
returns g c = std_sort g.met.T.Ord.total c.args.items.now c.sort.new.self (c.in_ok-sort.ensures.sorted) (c.in_ok-sort.ensures.stable)
