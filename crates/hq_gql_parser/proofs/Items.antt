-- Laws of items one behind the other, while a test holds on what stands next.
use Rattle.std.proofs.Common.{◌≡◌, ℕ, zero, suc, ◌<◌, ◌≤◌, inl, inr, Bool, true, false, not, List, [], ◌∷◌, ◌++◌, length, Result, Ok, Err, refl, sym, ap, subst, ◌∙◌, append_assoc, arith, if◌then◌else◌}
use Rattle.std.proofs.lemmas.List.{length-append}
use Rattle.hq_base.specs.Due.{◌>>=◌}
use Rattle.hq_gql_lexer.specs.declared.token.Token.{Token}
use Rattle.hq_gql_parser.specs.declared.lookahead.Lookahead.TheVariants as ahead
use Rattle.hq_gql_parser.specs.declared.stop.Stop.{Stop}
use Rattle.hq_gql_parser.specs.declared.stop.Stop.TheVariants.{Unexpected, TooDeep, Memory}
use Rattle.hq_gql_parser.specs.Lookahead.{next}
use Rattle.hq_gql_parser.specs.Languages.{Language, ◌▸◌, Each}
use Rattle.hq_gql_parser.specs.Parsing.{Parse, either, many, all, some}
use Rattle.hq_gql_parser.proofs.Sets.{Set, subset, within, joined, first_in, is_end, anything, union, right_holds}
use Rattle.hq_gql_parser.proofs.Exact.{Taken, Seen, Reads, Exact, Chain, exact_then, first_wrong, first_deep, second, reads_both}
use Rattle.hq_gql_parser.proofs.Choices.{Only, Mapped, mapped_seen, mapped_reads, exact_map, Either, on_seen, off_seen, exact_as}

-- the same answers of an equal parser, for a wider grammar
seen_to : {A : Type 0} (d e : ℕ) (p q : Parse A) (R T : A → Language) (ts : List Token) → ((us : List Token) → p us ≡ q us)
    → ((x : A) (us : List Token) → R x us → T x us) → (r : Result (A × List Token) Stop) → Seen d e p R ts r → Seen d e q T ts r
seen_to d e p q R T ts same to (Ok x) (front, is, r, m, local) = (front, is, to x.0 front r, m, λ after h. sym (same (front ++ after)) ∙ local after h)
seen_to d e p q R T ts same to (Err (Unexpected n)) (front, rest, is, len, (more, x, r), m, local) =
    (front, rest, is, len, (more, x, to x (front ++ more) r), m, λ after h. sym (same (front ++ after)) ∙ local after h)
seen_to d e p q R T ts same to (Err (TooDeep n)) (front, t, rest, is, len, (more, x, r), m, o) = (front, t, rest, is, len, (more, x, to x ((front ++ t ∷ []) ++ more) r), m, o)
seen_to d e p q R T ts same to (Err Memory) seen = absurd seen

-- one or more
abbrev pub AtLeastOne : {A : Type 0} → (A → Language) → List A → Language
AtLeastOne R [] ts = ⊥
AtLeastOne R (x ∷ xs) ts = (R x ▸ Each R xs) ts

module _ {A : Type 0} {d : ℕ} {item : Parse A} {R : A → Language} {s k : Set} (law : Exact d d item R s k) (takes : s ahead.End ≡ false) where
  not_empty : (x : A) (front : List Token) → R x front → 0 < length front
  not_empty x [] r = let begins : s ahead.End ≡ true = law.begins x [] r in let wrong : true ≡ false = sym begins ∙ takes in absurd cc
  not_empty x (t ∷ front) r = omega arith

  pub shorter : (ts : List Token) (x : A) (rest : List Token) → Taken d d item R ts x rest → length rest < length ts
  shorter ts x rest (front, is, r, m, local) = let some = not_empty x front r in rw is (omega (arith, length-append front rest))

  shorter_as : (ts : List Token) (x : A) (rest : List Token) (r : Result (A × List Token) Stop) → r ≡ Ok (x, rest) → Seen d d item R ts r → length rest < length ts
  shorter_as ts x rest (Ok y) e seen = let same : y ≡ (x, rest) = cc in subst (λ us. length us < length ts) (ap (λ z. z.1) same) (shorter ts y.0 y.1 seen)
  shorter_as ts x rest (Err y) e seen = absurd cc

  -- an item takes a token
  pub item_takes : (ts : List Token) (x : A) (rest : List Token) → item ts ≡ Ok (x, rest) → length rest < length ts
  item_takes ts x rest e = shorter_as ts x rest (item ts) e (law.seen ts)

  module _ (test : Set) where
    abbrev more_of : Parse (List A) → A → Parse (List A)
    more_of more x ts = more ts >>= λ xs. Ok (x ∷ xs.0, xs.1)

    abbrev one_of : Parse (List A) → Parse (List A)
    one_of more ts = item ts >>= λ x. more_of more x.0 x.1

    abbrev nothing : Parse (List A)
    nothing ts = Ok ([], ts)

    enough_after : (n m : ℕ) (ts : List Token) → ((us : List Token) → length us < length ts → many test item n us ≡ many test item m us)
        → (r : Result (A × List Token) Stop) → Seen d d item R ts r → (r >>= λ x. more_of (many test item n) x.0 x.1) ≡ (r >>= λ x. more_of (many test item m) x.0 x.1)
    enough_after n m ts again (Err e) seen = refl
    enough_after n m ts again (Ok x) seen = rw (again x.1 (shorter ts x.0 x.1 seen)) refl

    enough : (n m : ℕ) (ts : List Token) → length ts < n → length ts < m → many test item n ts ≡ many test item m ts
    unfolding many
    enough zero m ts hn hm = absurd (omega arith)
    enough (suc n) zero ts hn hm = absurd (omega arith)
    enough (suc n) (suc m) ts hn hm = ap (λ r. if test (next ts) then r else Ok ([], ts)) (enough_after n m ts (λ us h. enough n m us (omega arith) (omega arith)) (item ts) (law.seen ts))

    all_after : (n : ℕ) (ts : List Token) → length ts ≤ n → (r : Result (A × List Token) Stop) → Seen d d item R ts r
        → (r >>= λ x. more_of (many test item n) x.0 x.1) ≡ (r >>= λ x. more_of (all test item) x.0 x.1)
    all_after n ts hn (Err e) seen = refl
    all_after n ts hn (Ok x) seen = let lt = shorter ts x.0 x.1 seen in rw (enough n (suc (length x.1)) x.1 (omega arith) (omega arith)) refl

    -- all items are the first and all behind it, or none
    pub all_is : (ts : List Token) → all test item ts ≡ either test (one_of (all test item)) nothing ts
    unfolding many
    all_is ts = ap (λ r. if test (next ts) then r else Ok ([], ts)) (all_after (length ts) ts (omega arith) (item ts) (law.seen ts))

    abbrev Behind : A → List A → Language
    Behind x = Mapped (λ xs. x ∷ xs) (Each R)

    some_behind : (x : A) → (xs : List A) × (front : List Token) × Behind x xs front
    some_behind x = (x ∷ [], [], ([], refl, refl))

    one_seen : (ts : List Token) → ((us : List Token) → length us < length ts → Seen d d (all test item) (Each R) us (all test item us))
        → (r : Result (A × List Token) Stop) → Seen d d item R ts r → Seen d d (one_of (all test item)) (Chain R Behind) ts (r >>= λ x. more_of (all test item) x.0 x.1)
    one_seen ts again (Ok x) seen =
        second d d d item (more_of (all test item)) R Behind some_behind ts x.0 x.1 seen (more_of (all test item) x.0 x.1)
        (mapped_seen d d (all test item) (Each R) (λ xs. x.0 ∷ xs) x.1 (all test item x.1) (again x.1 (shorter ts x.0 x.1 seen)))
    one_seen ts again (Err (Unexpected n)) seen = first_wrong d d d item (more_of (all test item)) R Behind some_behind ts n seen
    one_seen ts again (Err (TooDeep n)) seen = first_deep d d d item (more_of (all test item)) R Behind some_behind ts n seen
    one_seen ts again (Err Memory) seen = absurd seen

    each_of : (xs : List A) (ts : List Token) → Either (Chain R Behind) (Only []) xs ts → Each R xs ts
    each_of xs ts (inl (x, (a, b, is, r, (ys, same, each)))) = subst (λ zs. Each R zs ts) (sym same) (a, b, is, r, each)
    each_of xs ts (inr (same, is)) = subst (λ zs. Each R zs ts) (sym same) is

    none_seen : (ts : List Token) → Seen d d nothing (Only []) ts (nothing ts)
    none_seen ts = ([], refl, (refl, refl), refl, λ after h. refl)

    seen_by : (ts : List Token) → ((us : List Token) → length us < length ts → Seen d d (all test item) (Each R) us (all test item us)) → (b : Bool) → test (next ts) ≡ b
        → Seen d d (either test (one_of (all test item)) nothing) (Either (Chain R Behind) (Only [])) ts (if b then one_of (all test item) ts else nothing ts)
    seen_by ts again true t = on_seen d d test (one_of (all test item)) nothing (Chain R Behind) (Only []) ts t (one_of (all test item) ts) (one_seen ts again (item ts) (law.seen ts))
    seen_by ts again false t = off_seen d d test (one_of (all test item)) nothing (Chain R Behind) (Only []) ts t (nothing ts) (none_seen ts)

    all_seen : (n : ℕ) (ts : List Token) → length ts < n → Seen d d (all test item) (Each R) ts (all test item ts)
    all_seen zero ts h = absurd (omega arith)
    all_seen (suc n) ts h =
        rw (all_is ts) (seen_to d d (either test (one_of (all test item)) nothing) (all test item) (Either (Chain R Behind) (Only [])) (Each R) ts (λ us. sym (all_is us)) each_of
        (either test (one_of (all test item)) nothing ts) (seen_by ts (λ us lt. all_seen n us (omega arith)) (test (next ts)) refl))

    module _ (follow : Set) (starts : subset (joined s anything) (union s is_end) ≡ true) (on : subset (joined s anything) test ≡ true)
        (off : subset follow (λ a. not (test a)) ≡ true) (fits : subset (joined (union s is_end) follow) k ≡ true) where
      each_begins : (xs : List A) (ts : List Token) → Each R xs ts → union s is_end (next ts) ≡ true
      each_begins [] ts is = rw is (right_holds (s ahead.End) true refl)
      each_begins (x ∷ xs) ts (a, b, is, r, each) = rw is (within (joined s anything) (union s is_end) starts (next (a ++ b)) (first_in s anything a b (law.begins x a r) refl))

      not_true : (b : Bool) → not b ≡ true → b ≡ false
      not_true true e = absurd cc
      not_true false e = refl

      all_reads : (xs : List A) (front after : List Token) → Each R xs front → follow (next after) ≡ true → Reads d d front (all test item (front ++ after)) (xs, after)
      all_reads [] front after is h =
          let t : test (next after) ≡ false = not_true (test (next after)) (within follow (λ a. not (test a)) off (next after) h) in
          rw (is, all_is after, t) (inl (refl, refl))
      all_reads (x ∷ xs) front after (a, b, is, r, each) h =
          let t : test (next (a ++ (b ++ after))) ≡ true = within (joined s anything) test on (next (a ++ (b ++ after))) (first_in s anything a (b ++ after) (law.begins x a r) refl) in
          let follows : k (next (b ++ after)) ≡ true = within (joined (union s is_end) follow) k fits (next (b ++ after)) (first_in (union s is_end) follow b after (each_begins xs b each) h) in
          let again = mapped_reads d d (all test item) (Each R) (λ zs. x ∷ zs) xs (x ∷ xs) b after (all test item (b ++ after)) refl (all_reads xs b after each h) in
          let both = reads_both d d d item (more_of (all test item)) R Behind some_behind a b after x (x ∷ xs) (item (a ++ (b ++ after))) (law.reads x a (b ++ after) r follows) again in
          rw (is, append_assoc a b after, all_is (a ++ (b ++ after)), t) both

      pub exact_all : Exact d d (all test item) (Each R) (union s is_end) follow
      exact_all = record {
        some = ([], [], refl);
        seen = λ ts. all_seen (suc (length ts)) ts (omega arith);
        begins = each_begins;
        reads = all_reads;
      }

      some_to : (xs : List A) (ts : List Token) → Chain R Behind xs ts → AtLeastOne R xs ts
      some_to xs ts (x, (a, b, is, r, (ys, same, each))) = subst (λ zs. AtLeastOne R zs ts) (sym same) (a, b, is, r, each)

      some_from : (xs : List A) (ts : List Token) → AtLeastOne R xs ts → Chain R Behind xs ts
      some_from [] ts r = absurd r
      some_from (x ∷ xs) ts (a, b, is, r, each) = (x, (a, b, is, r, (xs, refl, each)))

      pub exact_some : subset (joined s (union s is_end)) s ≡ true → subset follow follow ≡ true → Exact d d (some test item) (AtLeastOne R) s follow
      unfolding some
      exact_some within_s itself = exact_as (AtLeastOne R) s follow (exact_then law (λ x. exact_map (λ xs. x ∷ xs) exact_all) fits) some_to some_from within_s itself
