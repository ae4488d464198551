use Rattle.std.specs.Prelude.{bytes_eq}
use Rattle.hq_schema.specs.Schema.{arg_view}
use Rattle.hq_schema.proofs.Lists.{found_seen}
use Rattle.hq_schema.proofs.look.arg_named.Goals as goal

pub returns : goal.returns
returns c = found_seen (λ a. bytes_eq a.name c.args.name.now) arg_view _ _ c.find.ensures
