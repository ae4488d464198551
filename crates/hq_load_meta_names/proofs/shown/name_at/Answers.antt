use Rattle.std.proofs.Common.{◌∙◌, [], ap}
use Rattle.std.specs.Prelude.{slice_index_or, unwrap_or}
use Rattle.std.proofs.lemmas.Option.{unwrap_or-slice_get}
use Rattle.hq_load_meta_names.proofs.shown.name_at.Goals as goal

pub returns-in-None : goal.returns-in-None
returns-in-None c =
    c.new.ensures ∙ ap (λ o. unwrap_or o []) c.in-None.ensures ∙ unwrap_or-slice_get c.args.names.now c.at.result [] ∙ ap (λ i. slice_index_or c.args.names.now i []) c.at.ensures
