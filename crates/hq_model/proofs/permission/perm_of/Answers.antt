use Rattle.std.specs.Prelude.{bytes_eq}
use Rattle.hq_model.specs.Meta.{perm_view}
use Rattle.hq_model.proofs.Lists.{found_seen}
use Rattle.hq_model.proofs.permission.perm_of.Goals as goal

pub returns : goal.returns
returns c = found_seen (λ p. bytes_eq p.role c.args.name.now) perm_view _ _ c.perm_named.ensures
