use Rattle.std.proofs.Common.{◌∙◌, bytes_eq}
use Rattle.hq_schema.proofs.Lists.{found_at, none_at}
use Rattle.hq_schema.proofs.named.NamedList.find.Goals as goal

pub returns-in-Some : goal.returns-in-Some
returns-in-Some g c = c.get.ensures ∙ found_at (λ x. bytes_eq (g.T.Named.name_of x) c.args.name.now) c.args.self.now c.in-Some.at c.in-Some.ensures

pub returns-in-None : goal.returns-in-None
returns-in-None g c = none_at (λ x. bytes_eq (g.T.Named.name_of x) c.args.name.now) c.args.self.now c.in-None.ensures
