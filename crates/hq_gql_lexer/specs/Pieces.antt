-- What one character of a string stands for.
use Rattle.std.specs.Prelude.{ℕ, List, [], ◌∷◌, encode_utf8}
use Rattle.hq_gql_lexer.specs.declared.characters.Piece.{Piece}
use Rattle.hq_gql_lexer.specs.declared.characters.Piece.TheVariants.{Byte, Char, Quotes}
use Rattle.hq_gql_lexer.specs.Strings.{quotes}

-- its bytes
abbrev pub piece_text : Piece → List ℕ
piece_text (Byte b) = b ∷ []
piece_text (Char c) = encode_utf8 c
piece_text Quotes = quotes
