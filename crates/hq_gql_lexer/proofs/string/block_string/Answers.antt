use Rattle.std.proofs.Common.{subst, sym, ◌∙◌, ap}
use Rattle.hq_gql_lexer.specs.BlockStrings.{block_value}
use Rattle.hq_gql_lexer.proofs.TextLemmas.{IsText, text_of-IsText}
use Rattle.hq_gql_lexer.proofs.QuotesLemmas.{block_read, block-IsText}
use Rattle.hq_gql_lexer.proofs.ValueLemmas.{block_value-IsText}
use Rattle.hq_gql_lexer.proofs.string.block_string.Goals as goal

pub text-requires : goal.text-requires
text-requires c =
    let value = c.deref-2.ensures.value ∙ c.in_ok-value.ensures ∙ ap block_value c.deref.ensures.value in
    text_of-IsText _ (subst IsText (sym value) (block_value-IsText _ (block-IsText _ _ (block_read _ _ _ _ (sym c.in-Some.ensures.value) c.in_ok-raw.ensures))))
