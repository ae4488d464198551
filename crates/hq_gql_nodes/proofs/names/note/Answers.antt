use Rattle.std.proofs.Common.{◌≡◌, refl, ap, ◌∙◌, Bool, true, false, Option, Some, cond, ◌||◌, bytes_eq}
use Rattle.std.specs.Prelude.{is_some}
use Rattle.std.proofs.lemmas.Map.Text.{hash_map_updates_str}
use Rattle.hq_gql_nodes.proofs.names.note.Goals as goal

noted : (b : Bool) (o : Option Bool) → is_some (cond b (Some true) o) ≡ (b || is_some o)
noted true o = refl
noted false o = refl

pub returns-clause-noted : goal.returns-clause-noted
returns-clause-noted c = λ q. ap is_some (hash_map_updates_str c.args.name.now c.args.names.now c.insert.new.self _ c.in_ok-insert.ensures.updates q) ∙ noted (bytes_eq c.args.name.now q) _
