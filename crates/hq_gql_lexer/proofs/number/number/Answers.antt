use Rattle.std.proofs.Common.{◌≤◌, length, take, subst, sym}
use Rattle.hq_gql_lexer.proofs.TextLemmas.{IsText, text_of-IsText}
use Rattle.hq_gql_lexer.proofs.NumberLemmas.{number-IsText}
use Rattle.hq_gql_lexer.proofs.number.number.Goals as goal

pub text-requires : goal.text-requires
text-requires c =
    let bytes = c.args.bytes.now in
    let n = c.number_len-len.ensures in
    text_of-IsText _ (subst (λ k. IsText (take k bytes)) (sym n.len) (number-IsText bytes c.requires.starts (subst (λ k. k ≤ length bytes) n.len n.within)))
