use Rattle.std.proofs.Common.{take, subst, sym}
use Rattle.hq_gql_lexer.proofs.TextLemmas.{IsText, text_of-IsText}
use Rattle.hq_gql_lexer.proofs.NumberLemmas.{name_in_front}
use Rattle.hq_gql_lexer.proofs.ProductionLemmas.{name-IsText}
use Rattle.hq_gql_lexer.proofs.lexeme.name.Goals as goal

pub text-requires : goal.text-requires
text-requires c =
    let bytes = c.args.bytes.now in
    text_of-IsText _ (subst (λ k. IsText (take k bytes)) (sym c.name_len-len.ensures.len) (name-IsText _ (name_in_front bytes c.requires)))
