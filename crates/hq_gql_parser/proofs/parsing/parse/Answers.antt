use Rattle.std.proofs.Common.{◌≡◌, ℕ, ◌⊎◌, inl, inr, List, Result, Err, sym, ap, ◌∙◌}
use Rattle.hq_gql_lexer.specs.declared.token.Token.{Token}
use Rattle.hq_gql_tree.specs.Documents.{DefinitionTree}
use Rattle.hq_gql_parser.specs.declared.refusal.ParseRefusal.TheVariants as refusal
use Rattle.hq_gql_parser.specs.declared.stop.Stop.{Stop}
use Rattle.hq_gql_parser.specs.declared.stop.Stop.TheVariants as stop
use Rattle.hq_gql_parser.specs.Documents.{nesting_limit}
use Rattle.hq_gql_parser.specs.Answered.{answer_of}
use Rattle.hq_gql_parser.proofs.AnsweredLaws.{answered, none_answered}
use Rattle.hq_gql_parser.proofs.DocumentLaws.{found, unexpected_fits, too_deep_fits}
use Rattle.hq_gql_parser.proofs.parsing.parse.Goals as goal

-- what stopped was no want of memory
abbrev Parsed : Type 0
Parsed = Result (List DefinitionTree × List Token) Stop

at_token : (e : Stop) (k : ℕ) (due : Parsed) → e ≡ stop.Unexpected k → (e ≡ stop.Memory) ⊎ (due ≡ Err e) → due ≡ Err (stop.Unexpected k)
at_token e k due is (inl m) = absurd cc
at_token e k due is (inr h) = h ∙ ap (λ s. Err s) is

at_bracket : (e : Stop) (k : ℕ) (due : Parsed) → e ≡ stop.TooDeep k → (e ≡ stop.Memory) ⊎ (due ≡ Err e) → due ≡ Err (stop.TooDeep k)
at_bracket e k due is (inl m) = absurd cc
at_bracket e k due is (inr h) = h ∙ ap (λ s. Err s) is

pub invariant_of-result : goal.invariant_of-result
invariant_of-result c = record { nested = (found nesting_limit _ _ _ c.in-Ok.ensures).1 }

pub place-requires : goal.place-requires
place-requires c =
    let u = c.in-Err-Unexpected in
    unexpected_fits u.left c.as_slice-tokens.result.now (at_token u.field-0 u.left _ u.field-0-is u.ensures)

pub place-requires-in-Err-TooDeep : goal.place-requires-in-Err-TooDeep
place-requires-in-Err-TooDeep c =
    let u = c.in-Err-TooDeep in
    too_deep_fits u.left c.as_slice-tokens.result.now (at_bracket u.field-0 u.left _ u.field-0-is u.ensures)

pub returns-then-is_empty : goal.returns-then-is_empty
returns-then-is_empty c = inr (none_answered c.args.end c.as_slice-tokens.result.now c.args.tokens.now c.as_slice-tokens.ensures c.if-is_empty.ensures)

pub returns-in-Ok : goal.returns-in-Ok
returns-in-Ok c =
    let ts = c.as_slice-tokens.result.now in
    answered c.args.end ts c.args.tokens.now c.as_slice-tokens.ensures c.if-is_empty.ensures ∙ ap (answer_of c.args.end ts) c.in-Ok.ensures

pub returns-in-Err-Unexpected : goal.returns-in-Err-Unexpected
returns-in-Err-Unexpected c =
    let u = c.in-Err-Unexpected in
    let ts = c.as_slice-tokens.result.now in
    inr (answered c.args.end ts c.args.tokens.now c.as_slice-tokens.ensures c.if-is_empty.ensures
    ∙ ap (answer_of c.args.end ts) (at_token u.field-0 u.left _ u.field-0-is u.ensures)
    ∙ ap (λ n. Err (refusal.Unexpected n)) (sym c.place.ensures))

pub returns-in-Err-TooDeep : goal.returns-in-Err-TooDeep
returns-in-Err-TooDeep c =
    let u = c.in-Err-TooDeep in
    let ts = c.as_slice-tokens.result.now in
    inr (answered c.args.end ts c.args.tokens.now c.as_slice-tokens.ensures c.if-is_empty.ensures
    ∙ ap (answer_of c.args.end ts) (at_bracket u.field-0 u.left _ u.field-0-is u.ensures)
    ∙ ap (λ n. Err (refusal.TooDeep n)) (sym c.place-in-Err-TooDeep.ensures))
