-- The one answer to the tokens of a text, as a function of them. A law of this crate says that it is the one that is due.
use Rattle.std.specs.Prelude.{ℕ, ◌-◌, List, [], ◌∷◌, length, drop, Result, Ok, Err}
use Rattle.hq_gql_lexer.specs.declared.token.Token.{Token}
use Rattle.hq_gql_tree.specs.Documents.{DocumentTree}
use Rattle.hq_gql_parser.specs.declared.refusal.ParseRefusal.{ParseRefusal}
use Rattle.hq_gql_parser.specs.declared.refusal.ParseRefusal.TheVariants.{Unexpected, TooDeep, Empty, Memory}
use Rattle.hq_gql_parser.specs.declared.stop.Stop.{Stop}
use Rattle.hq_gql_parser.specs.declared.stop.Stop.TheVariants as stop
use Rattle.hq_gql_parser.specs.Documents.{nesting_limit, place}
use Rattle.hq_gql_parser.specs.ParsingOperations.{document_at}

-- the place of the token that has so many from itself on
abbrev pub place_before : (end : ℕ) → List Token → (left : ℕ) → ℕ
place_before end ts left = place end (drop (length ts - left) ts)

-- the refusal where parsing stops
abbrev pub stopped : (end : ℕ) → List Token → Stop → ParseRefusal
stopped end ts (stop.Unexpected left) = Unexpected (place_before end ts left)
stopped end ts (stop.TooDeep left) = TooDeep (place_before end ts left)
stopped end ts stop.Memory = Memory

abbrev pub answer_of : (end : ℕ) → List Token → Result (DocumentTree × List Token) Stop → Result DocumentTree ParseRefusal
answer_of end ts (Ok x) = Ok x.0
answer_of end ts (Err e) = Err (stopped end ts e)

unfoldable pub parsed : (end : ℕ) → List Token → Result DocumentTree ParseRefusal
parsed end [] = Err Empty
parsed end (t ∷ ts) = answer_of end (t ∷ ts) (document_at nesting_limit (t ∷ ts))
