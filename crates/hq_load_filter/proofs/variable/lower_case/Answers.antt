use Rattle.std.proofs.Common.{◌∙◌, ap}
use Rattle.std.specs.Str.{str_to_ascii_lowercase}
use Rattle.hq_base.specs.Text.{has_zero}
use Rattle.hq_load_filter.proofs.LowerCase.{has_zero-lower}
use Rattle.hq_load_filter.proofs.variable.lower_case.Goals as goal

pub push_str-requires : goal.push_str-requires
push_str-requires c =
    ap has_zero (c.as_str-2.ensures.value ∙ c.in_ok-to_ascii_lowercase.ensures.ok ∙ ap str_to_ascii_lowercase c.as_str.ensures)
    ∙ has_zero-lower c.args.text.now ∙ c.is_text.ensures.no_zero
