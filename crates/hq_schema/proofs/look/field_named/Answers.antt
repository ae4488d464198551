use Rattle.std.specs.Prelude.{bytes_eq}
use Rattle.hq_schema.specs.Schema.{field_view}
use Rattle.hq_schema.proofs.Lists.{found_seen}
use Rattle.hq_schema.proofs.look.field_named.Goals as goal

pub returns : goal.returns
returns c = found_seen (λ f. bytes_eq f.name c.args.name.now) field_view _ _ c.find.ensures
