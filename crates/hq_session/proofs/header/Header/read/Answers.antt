use Rattle.std.proofs.Common.{◌∙◌, ap, ℕ, List}
use Rattle.hq_base.specs.Text.{has_zero}
use Rattle.std.specs.List.{after_first}
use Rattle.hq_session.specs.Fields.{is_colon}
use Rattle.hq_session.proofs.Tokens.{after_clean}
use Rattle.hq_session.proofs.header.Header.read.Goals as goal

pub trimmed-requires : goal.trimmed-requires
trimmed-requires c =
    let text = c.args.text.now in
    let clean = after_clean is_colon text c.is_text.ensures.no_zero in
    ap has_zero (c.in-Some.ensures.2 ∙ ap (λ (t : List ℕ). after_first is_colon t) c.as_str.ensures) ∙ clean
