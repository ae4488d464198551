-- Loops that parse items one behind the other.
use Rattle.std.proofs.Common.{◌≡◌, ℕ, ◌⊎◌, inl, inr, Bool, true, false, not, List, [], ◌∷◌, ◌++◌, Result, Ok, Err, refl, sym, ap, ◌∙◌, append_assoc}
use Rattle.std.proofs.lemmas.List.{append-nil}
use Rattle.hq_base.specs.Due.{◌>>=◌}
use Rattle.hq_gql_lexer.specs.declared.token.Token.{Token}
use Rattle.hq_gql_parser.specs.declared.lookahead.Lookahead.{Lookahead}
use Rattle.hq_gql_parser.specs.declared.lookahead.Lookahead.TheVariants as ahead
use Rattle.hq_gql_parser.specs.declared.stop.Stop.{Stop}
use Rattle.hq_gql_parser.specs.declared.stop.Stop.TheVariants.{Memory}
use Rattle.hq_gql_parser.specs.Lookahead.{next, is_at}
use Rattle.hq_gql_parser.specs.Languages.{Language}
use Rattle.hq_gql_parser.specs.Parsing.{Parse, all, some, until}
use Rattle.hq_gql_parser.proofs.Sets.{Set}
use Rattle.hq_gql_parser.proofs.Exact.{Exact}
use Rattle.hq_gql_parser.proofs.Items.{all_is}

-- what is parsed, behind these
abbrev pub with_front : {A : Type 0} → List A → Result (List A × List Token) Stop → Result (List A × List Token) Stop
with_front front parsed = parsed >>= λ x. Ok (front ++ x.0, x.1)

-- these are parsed, and the rest is left to be parsed
abbrev pub IsParsed : {A : Type 0} → (Lookahead → Bool) → Parse A → List A → List Token → Result (List A × List Token) Stop → Type 0
IsParsed test item found rest total = with_front found (all test item rest) ≡ total

-- what the test of a loop says
pub goes_on : (a : Lookahead) (ts : List Token) (b : Bool) → b ≡ is_at a (next ts) → b ≡ false → until a (next ts) ≡ true
goes_on a ts b is e = ap not (sym is ∙ e)

pub stands : (a : Lookahead) (ts : List Token) (b : Bool) → b ≡ is_at a (next ts) → b ≡ true → until a (next ts) ≡ false
stands a ts b is e = ap not (sym is ∙ e)

-- the first item is parsed
pub begun : {A : Type 0} (test : Set) (item : Parse A) (ts : List Token) (x : A) (rest : List Token) → item ts ≡ Ok (x, rest) → IsParsed test item (x ∷ []) rest (some test item ts)
unfolding some
begun test item ts x rest e = rw e refl

module _ {A : Type 0} {d : ℕ} {item : Parse A} {R : A → Language} {s k : Set} (law : Exact d d item R s k) (takes : s ahead.End ≡ false)
    (test : Set) (found : List A) (ts : List Token) (total : Result (List A × List Token) Stop) (so_far : IsParsed test item found ts total)
  where
    -- where an item stops, all stops
    pub stopped : test (next ts) ≡ true → (e : Stop) → (e ≡ Memory) ⊎ (item ts ≡ Err e) → (e ≡ Memory) ⊎ (total ≡ Err e)
    stopped t e (inl m) = inl m
    stopped t e (inr is) =
        let all_stop : all test item ts ≡ Err e = rw (all_is law takes test ts, t, is) refl in
        inr (sym so_far ∙ ap (with_front found) all_stop)

    regroup : (x : A) (r : Result (List A × List Token) Stop) → with_front found (r >>= λ xs. Ok (x ∷ xs.0, xs.1)) ≡ with_front (found ++ x ∷ []) r
    regroup x (Err e) = refl
    regroup x (Ok xs) = ap (λ ys. Ok (ys, xs.1)) (sym (append_assoc found (x ∷ []) xs.0))

    -- behind an item the rest is left
    pub parsed_more : test (next ts) ≡ true → (x : A) (rest : List Token) → item ts ≡ Ok (x, rest) → IsParsed test item (found ++ x ∷ []) rest total
    parsed_more t x rest is =
        let one : all test item ts ≡ (all test item rest >>= λ xs. Ok (x ∷ xs.0, xs.1)) = rw (all_is law takes test ts, t, is) refl in
        sym (regroup x (all test item rest)) ∙ ap (with_front found) (sym one) ∙ so_far

    -- where the test fails, these are all
    pub finished : test (next ts) ≡ false → total ≡ Ok (found, ts)
    finished t =
        let none : all test item ts ≡ Ok ([], ts) = rw (all_is law takes test ts, t) refl in
        sym so_far ∙ ap (with_front found) none ∙ ap (λ ys. Ok (ys, ts)) (append-nil found)
