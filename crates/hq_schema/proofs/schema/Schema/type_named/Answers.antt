use Rattle.std.proofs.Common.{◌∙◌, ap, Some}
use Rattle.std.specs.Prelude.{bytes_eq}
use Rattle.hq_schema.specs.Schema.{type_view}
use Rattle.hq_schema.proofs.Lists.{position-map}
use Rattle.hq_schema.proofs.schema.Schema.type_named.Goals as goal

pub returns-in-Some : goal.returns-in-Some
returns-in-Some c = ap Some c.new.ensures ∙ (c.in-Some.ensures ∙ position-map (λ t. bytes_eq t.name c.args.name.now) type_view c.args.self.now.types)

pub returns-in-None : goal.returns-in-None
returns-in-None c = c.in-None.ensures ∙ position-map (λ t. bytes_eq t.name c.args.name.now) type_view c.args.self.now.types
