-- What is answered to tokens is due.
use Rattle.std.proofs.Common.{◌≡◌, ◌≢◌, ℕ, suc, ◌==◌, true, false, List, [], ◌∷◌, length, Result, Ok, Err, refl, sym, ap, subst, ◌∙◌, arith}
use Rattle.std.proofs.lemmas.Bool.{eqb-true}
use Rattle.hq_gql_lexer.specs.declared.token.Token.{Token}
use Rattle.hq_gql_tree.specs.Documents.{DocumentTree}
use Rattle.hq_gql_parser.specs.declared.refusal.ParseRefusal.TheVariants.{Empty}
use Rattle.hq_gql_parser.specs.declared.stop.Stop.{Stop}
use Rattle.hq_gql_parser.specs.declared.stop.Stop.TheVariants as stop
use Rattle.hq_gql_parser.specs.Answered.{answer_of, parsed}
use Rattle.hq_gql_parser.specs.Documents.{nesting_limit, Parses}
use Rattle.hq_gql_parser.specs.Operations.{IsDocument}
use Rattle.hq_gql_parser.specs.ParsingOperations.{document_at}
use Rattle.hq_gql_parser.proofs.DocumentLaws.{found, unexpected, too_deep}
use Rattle.hq_gql_parser.proofs.Exact.{Seen}
use Rattle.hq_gql_parser.proofs.OperationLaws.{law_document}

-- an answer to tokens is due
answer_due : (end : ℕ) (ts : List Token) → ts ≢ [] → (r : Result (DocumentTree × List Token) Stop) → document_at nesting_limit ts ≡ r → Parses end ts (answer_of end ts r)
answer_due end ts some (Ok x) e = found nesting_limit ts x.0 x.1 e
answer_due end ts some (Err (stop.Unexpected k)) e = unexpected end k ts some e
answer_due end ts some (Err (stop.TooDeep k)) e = too_deep end k ts e
answer_due end ts some (Err stop.Memory) e = absurd (subst (λ r. Seen nesting_limit nesting_limit (document_at nesting_limit) IsDocument ts r) e ((law_document nesting_limit).seen ts))

pub parsed_due : (end : ℕ) (ts : List Token) → Parses end ts (parsed end ts)
unfolding parsed
parsed_due end [] = refl
parsed_due end (t ∷ ts) = answer_due end (t ∷ ts) (λ e. cc) (document_at nesting_limit (t ∷ ts)) refl

-- what is answered where there is a token, and where there is none
answered_by : (end : ℕ) (ts : List Token) → false ≡ (length ts == 0) → parsed end ts ≡ answer_of end ts (document_at nesting_limit ts)
unfolding parsed
answered_by end [] e = absurd cc
answered_by end (t ∷ ts) e = refl

pub answered : (end : ℕ) (ts us : List Token) → ts ≡ us → false ≡ (length ts == 0) → parsed end us ≡ answer_of end ts (document_at nesting_limit ts)
answered end ts us same e = ap (parsed end) (sym same) ∙ answered_by end ts e

none_by : (end : ℕ) (ts : List Token) → true ≡ (length ts == 0) → parsed end ts ≡ Err Empty
unfolding parsed
none_by end [] e = refl
none_by end (t ∷ ts) e = let h : suc (length ts) ≡ 0 = eqb-true (suc (length ts)) 0 (sym e) in absurd (omega (arith, h))

pub none_answered : (end : ℕ) (ts us : List Token) → ts ≡ us → true ≡ (length ts == 0) → parsed end us ≡ Err Empty
none_answered end ts us same e = ap (parsed end) (sym same) ∙ none_by end ts e
