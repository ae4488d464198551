use Rattle.std.proofs.Common.{◌∙◌, [], Option, map, ap}
use Rattle.std.specs.Prelude.{option_map, unwrap_or}
use Rattle.hq_model.specs.PermView.{mask_view}
use Rattle.hq_compile_tables.specs.declared.context.Granted.{Granted}
use Rattle.hq_compile_tables.proofs.context.Context.masks.Goals as goal

-- the masks are those of what is granted of the table
pub returns-in-Some : goal.returns-in-Some
returns-in-Some c =
    ap (map mask_view) c.as_slice.ensures.value
    ∙ ap (λ (o : Option Granted). unwrap_or (option_map (λ (g : Granted). map mask_view g.masks.items) o) []) c.in-Some.ensures

pub returns-in-None : goal.returns-in-None
returns-in-None c = ap (λ (o : Option Granted). unwrap_or (option_map (λ (g : Granted). map mask_view g.masks.items) o) []) c.in-None.ensures
