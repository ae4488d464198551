use Rattle.std.proofs.Common.{Ok, ◌∙◌, ap, zero-add}
use Rattle.std.specs.Prelude.{length, slice_range}
use Rattle.hq_base.specs.Due.{◌>>=◌}
use Rattle.hq_gql_lexer.specs.Lexemes.{tokens_in, tokens_at}
use Rattle.hq_gql_lexer.proofs.StepsLemmas.{made_more}
use Rattle.hq_gql_lexer.proofs.lexing.all_tokens.Goals as goal

pub loop-at-preserved : goal.loop-at-preserved
loop-at-preserved c =
    let at = c.loop-at.at in
    let step = c.in_ok-kind.ensures in
    let rest = slice_range c.args.text.now at (length c.args.text.now) in
    let exact = ap (λ k. tokens_at k rest) (zero-add at) ∙ ap (λ found. found >>= λ l. Ok (tokens_in at l.0 l.1, l.1)) step.exact in
    rw c.in_ok-push_token.ensures (made_more tokens_at 0 at _ _ _ _ c.loop-at.invariant exact step.within.0 step.within.1)
