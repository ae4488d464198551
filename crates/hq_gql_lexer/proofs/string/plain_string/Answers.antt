use Rattle.std.proofs.Common.{subst, sym}
use Rattle.hq_gql_lexer.proofs.TextLemmas.{IsText, text_of-IsText}
use Rattle.hq_gql_lexer.proofs.PlainLemmas.{plain_read, plain-IsText}
use Rattle.hq_gql_lexer.proofs.string.plain_string.Goals as goal

pub text-requires : goal.text-requires
text-requires c =
    text_of-IsText _ (subst IsText (sym c.deref.ensures.value) (plain-IsText _ _ (plain_read _ _ _ _ (sym c.in-Some.ensures.value) c.in_ok-value.ensures)))
