-- The line around a place and the marks below it, as the parts that they are told in.
use Rattle.std.proofs.Common.{◌≡◌, ◌∙◌, ◌++◌, ℕ, List, ap}
use Rattle.hq_explain_places.specs.Excerpts.{excerpt, line_told, marks_told}
use Rattle.hq_explain_places.specs.Lines.{line_of, line_before, line_behind}

pub excerpt_told : (text : List ℕ) (at line : ℕ) (before behind : List ℕ) (marks : ℕ)
    → line ≡ line_of text at → before ≡ line_before text at → behind ≡ line_behind text at
    → line_told line before behind ++ marks_told line before marks ≡ excerpt text at marks
excerpt_told text at line before behind marks l b h =
    ap (λ n. line_told n before behind ++ marks_told n before marks) l
    ∙ (ap (λ x. line_told (line_of text at) x behind ++ marks_told (line_of text at) x marks) b
    ∙ ap (λ x. line_told (line_of text at) (line_before text at) x ++ marks_told (line_of text at) (line_before text at) marks) h)
