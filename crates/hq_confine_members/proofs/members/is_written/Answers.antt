use Rattle.std.proofs.Common.{◌∙◌, ℕ, List, [], ◌∷◌, ap₂}
use Rattle.hq_sql_tree.specs.View.{pred_view}
use Rattle.hq_confine_rules.specs.Renamed.{is_alike}
use Rattle.hq_confine_members.proofs.AliasLemmas.{written_alias}
use Rattle.hq_confine_members.proofs.members.is_written.Goals as goal

pub returns : goal.returns
returns c = c.is_alike.ensures ∙ ap₂ (λ (own alias : List ℕ). is_alike ((own, alias) ∷ []) (pred_view c.args.own.now) (pred_view c.args.pred.now)) written_alias c.as_str.ensures
