-- The laws of the parsers of selections.
use Rattle.std.proofs.Common.{◌≡◌, ℕ, zero, suc, inl, inr, false, not, ◌&&◌, ◌||◌, List, [], ◌∷◌, ◌++◌, Option, Some, None, refl, sym, ap, subst, ◌∙◌}
use Rattle.std.proofs.lemmas.List.{append-nil}
use Rattle.hq_gql_lexer.specs.declared.token.Punct.TheVariants.{Spread, Colon, OpenBrace, CloseBrace, At}
use Rattle.hq_gql_lexer.specs.declared.token.Token.{Token}
use Rattle.hq_gql_lexer.specs.declared.token.TokenKind.TheVariants as kind
use Rattle.hq_gql_tree.specs.declared.selection.TypeCond.{TypeCond}
use Rattle.hq_gql_tree.specs.Values.{DirectiveTree}
use Rattle.hq_gql_tree.specs.Selections.{SelectionTree, field, spread, inline, SelectionTrees, no_selection, selection, selections_of, selections_in}
use Rattle.hq_gql_parser.specs.declared.keyword.Keyword.TheVariants as keyword
use Rattle.hq_gql_parser.specs.declared.lookahead.Lookahead.TheVariants as ahead
use Rattle.hq_gql_parser.specs.Lookahead.{is_at, is_name, is_fragment_name}
use Rattle.hq_gql_parser.specs.Languages.{Language, Each}
use Rattle.hq_gql_parser.specs.Values.{AreArguments, AreDirectives}
use Rattle.hq_gql_parser.specs.Selections.{IsHead, IsFragmentName, IsCondition, IsSomeCondition, IsSelection, IsSet, AreSelections, IsSelectionSet}
use Rattle.hq_gql_parser.specs.Parsing.{Parse, until_punct}
use Rattle.hq_gql_parser.specs.ParsingSelections.{Head, alias_at, head_at, SetParse, some_set_with, field_with, condition_at, some_condition_at, spread_with, inline_with, fragment_with, selection_with, set_with, set_at, selection_at}
use Rattle.hq_gql_parser.proofs.Sets.{Set, anything, is_end, union}
use Rattle.hq_gql_parser.proofs.Exact.{Begins, Exact, Chain, exact_then}
use Rattle.hq_gql_parser.proofs.Choices.{Only, exact_pure, Mapped, exact_map, Either, exact_either, exact_as, exact_stopped}
use Rattle.hq_gql_parser.proofs.Items.{AtLeastOne, exact_some}
use Rattle.hq_gql_parser.proofs.TokenLaws.{token, PunctAt, exact_punct, punct_is, at_self, NameAt, exact_name, exact_keyword, exact_fragment_name}
use Rattle.hq_gql_parser.proofs.DirectiveLaws.{law_arguments, no_directive, law_directives}

-- ---- lists of selections

pub selections_back : (ss : SelectionTrees) → selections_of (selections_in ss) ≡ ss
selections_back no_selection = refl
selections_back (selection s more) = ap (selection s) (selections_back more)

selections_to : (ss : List SelectionTree) (ts : List Token) → Each IsSelection ss ts → AreSelections (selections_of ss) ts
selections_to [] ts is = is
selections_to (s ∷ ss) ts (a, b, is, r, each) = (a, b, is, r, selections_to ss b each)

selections_from : (ss : List SelectionTree) (ts : List Token) → AreSelections (selections_of ss) ts → Each IsSelection ss ts
selections_from [] ts is = is
selections_from (s ∷ ss) ts (a, b, is, r, more) = (a, b, is, r, selections_from ss b more)

-- ---- the head of a field

abbrev HeadIs : Head → Language
HeadIs h = IsHead h.0 h.1 h.2

abbrev no_colon : Set
no_colon = until_punct Colon

abbrev AliasIs : ℕ × List ℕ → Head → Language
AliasIs n = Either (Chain (PunctAt Colon) (λ c. Mapped (λ m. (n.0, Some n.1, m.1)) NameAt)) (Only (n.0, None, n.1))

law_alias : (d : ℕ) (n : ℕ × List ℕ) → Exact d d (alias_at n) (AliasIs n) (union (is_at (ahead.Punct Colon)) is_end) no_colon
unfolding alias_at is_at is_name
law_alias d n =
    exact_either (is_at (ahead.Punct Colon))
    (exact_as (Chain (PunctAt Colon) (λ c. Mapped (λ m. (n.0, Some n.1, m.1)) NameAt)) (is_at (ahead.Punct Colon)) no_colon
    (exact_then (exact_punct Colon d d refl) (λ c. exact_map (λ m. (n.0, Some n.1, m.1)) (exact_name d)) refl) (λ v ts r. r) (λ v ts r. r) refl refl)
    (exact_as (Only (n.0, None, n.1)) is_end no_colon (exact_pure d (n.0, None, n.1)) (λ v ts r. r) (λ v ts r. r) refl refl) refl refl

head_to : (h : Head) (ts : List Token) → Chain NameAt AliasIs h ts → HeadIs h ts
head_to h ts (n, (a, b, is, r, inl (c, (a', b', is', r', (m, same, r''))))) = subst (λ k. HeadIs k ts) (sym same) (a, b, is, r, (a', b', is', (c, r'), (m.0, r'')))
head_to h ts (n, (a, b, is, r, inr (same, none))) = subst (λ k. HeadIs k ts) (sym same) (subst (NameAt n) (sym (is ∙ ap (λ us. a ++ us) none ∙ append-nil a)) r)

head_from : (at : ℕ) (alias : Option (List ℕ)) (name : List ℕ) (ts : List Token) → IsHead at alias name ts → Chain NameAt AliasIs (at, alias, name) ts
head_from at None name ts r = ((at, name), (ts, [], sym (append-nil ts), r, inr (refl, refl)))
head_from at (Some alias) name ts (a, b, is, r, (a', b', is', (c, r'), (place, r''))) = ((at, alias), (a, b, is, r, inl (c, (a', b', is', r', ((place, name), refl, r'')))))

law_head : (d : ℕ) → Exact d d head_at HeadIs is_name no_colon
unfolding head_at is_at is_name
law_head d = exact_as HeadIs is_name no_colon (exact_then (exact_name d) (law_alias d) refl) head_to (λ h ts r. head_from h.0 h.1 h.2 ts r) refl refl

-- ---- type conditions

pub law_condition : (d : ℕ) → Exact d d condition_at IsCondition (is_at (ahead.Keyword keyword.On)) anything
unfolding condition_at is_at is_name
law_condition d =
    exact_as IsCondition (is_at (ahead.Keyword keyword.On)) anything
    (exact_then (exact_keyword keyword.On d) (λ o. exact_map (λ m. record { at = o; name = m.1 }) (exact_name d)) refl)
    (λ x ts (o, (a, b, is, r, (m, same, r'))). subst (λ w. IsCondition w ts) (sym same) (a, b, is, r, (m.0, r')))
    (λ x ts (a, b, is, r, (place, r')). (x.at, (a, b, is, r, ((place, x.name), refl, r'))))
    refl refl

-- what may stand behind a condition that is left out
abbrev no_on : Set
no_on a = not (is_at (ahead.Keyword keyword.On) a)

some_condition_to : (x : Option TypeCond) (ts : List Token) → Either (Mapped (λ c. Some c) IsCondition) (Only None) x ts → IsSomeCondition x ts
some_condition_to x ts (inl (c, same, r)) = subst (λ w. IsSomeCondition w ts) (sym same) r
some_condition_to x ts (inr (same, is)) = subst (λ w. IsSomeCondition w ts) (sym same) is

some_condition_from : (x : Option TypeCond) (ts : List Token) → IsSomeCondition x ts → Either (Mapped (λ c. Some c) IsCondition) (Only None) x ts
some_condition_from None ts is = inr (refl, is)
some_condition_from (Some c) ts r = inl (c, refl, r)

law_some_condition : (d : ℕ) → Exact d d some_condition_at IsSomeCondition (union (is_at (ahead.Keyword keyword.On)) is_end) no_on
unfolding some_condition_at is_at
law_some_condition d =
    exact_as IsSomeCondition (union (is_at (ahead.Keyword keyword.On)) is_end) no_on
    (exact_either (is_at (ahead.Keyword keyword.On))
    (exact_as (Mapped (λ c. Some c) IsCondition) (is_at (ahead.Keyword keyword.On)) no_on (exact_map (λ c. Some c) (law_condition d)) (λ v ts r. r) (λ v ts r. r) refl refl)
    (exact_as (Only None) is_end no_on (exact_pure d None) (λ v ts r. r) (λ v ts r. r) refl refl) refl refl)
    some_condition_to some_condition_from refl refl

-- ---- selections, where sets are parsed so

abbrev pub SetIs : ℕ × List SelectionTree → Language
SetIs s = IsSelectionSet s.0 (selections_of s.1)

abbrev pub is_set : Set
is_set = is_at (ahead.Punct OpenBrace)

-- what may follow a field
abbrev pub after_field : Set
after_field a = (no_colon a && not (is_set a)) && no_directive a

abbrev SomeSetIs : List SelectionTree → Language
SomeSetIs ss = IsSet (selections_of ss)

set_part : (at : ℕ) (ss : List SelectionTree) (ts : List Token) → SetIs (at, ss) ts → SomeSetIs ss ts
set_part at [] ts r = absurd r
set_part at (s ∷ ss) ts (a, b, is, r, more) = (a, b, is, (at, r), more)

some_set_to : (ss : List SelectionTree) (ts : List Token) → Either (Mapped (λ s. s.1) SetIs) (Only []) ss ts → SomeSetIs ss ts
some_set_to ss ts (inl (s, same, r)) = subst (λ w. SomeSetIs w ts) (sym same) (set_part s.0 s.1 ts r)
some_set_to ss ts (inr (same, is)) = subst (λ w. SomeSetIs w ts) (sym same) is

some_set_from : (ss : List SelectionTree) (ts : List Token) → SomeSetIs ss ts → Either (Mapped (λ s. s.1) SetIs) (Only []) ss ts
some_set_from [] ts is = inr (refl, is)
some_set_from (s ∷ ss) ts (a, b, is, (at, r), more) = inl ((at, s ∷ ss), refl, (a, b, is, r, more))

abbrev FieldIs : SelectionTree → Language
FieldIs =
    Chain HeadIs (λ h. Chain (AreArguments false) (λ args. Chain (AreDirectives false)
    (λ ds. Mapped (λ ss. field (record { at = h.0; alias = h.1; name = h.2; args = args; directives = ds }) (selections_of ss)) SomeSetIs)))

abbrev SpreadIs : ℕ → SelectionTree → Language
SpreadIs at = Chain IsFragmentName (λ m. Mapped (λ ds. spread (record { at = at; name = m; directives = ds })) (AreDirectives false))

abbrev InlineIs : ℕ → SelectionTree → Language
InlineIs at = Chain IsSomeCondition (λ c. Chain (AreDirectives false) (λ ds. Mapped (λ s. inline (record { at = at; cond = c; directives = ds }) (selections_of s.1)) SetIs))

abbrev FragmentIs : SelectionTree → Language
FragmentIs = Chain (PunctAt Spread) (λ o. Either (SpreadIs o) (InlineIs o))

field_to : (x : SelectionTree) (ts : List Token) → FieldIs x ts → IsSelection x ts
field_to x ts (h, (a, b, is, r, (args, (a', b', is', r', (ds, (a'', b'', is'', r'', (ss, same, r'''))))))) =
    subst (λ w. IsSelection w ts) (sym same) (a, b, is, r, (a', b', is', r', (a'', b'', is'', r'', r''')))

spread_to : (o : ℕ) (x : SelectionTree) (ts a b : List Token) → ts ≡ a ++ b → PunctAt Spread o a → SpreadIs o x b → IsSelection x ts
spread_to o x ts a b is r (m, (a', b', is', r', (ds, same, r''))) = subst (λ w. IsSelection w ts) (sym same) (a, b, is, r, (a', b', is', r', r''))

inline_parts : (o at : ℕ) (ss : List SelectionTree) (ts a b a' b' a'' b'' : List Token) (c : Option TypeCond) (ds : List DirectiveTree)
    → ts ≡ a ++ b → PunctAt Spread o a → b ≡ a' ++ b' → IsSomeCondition c a' → b' ≡ a'' ++ b'' → AreDirectives false ds a''
    → SetIs (at, ss) b''
    → IsSelection (inline (record { at = o; cond = c; directives = ds }) (selections_of ss)) ts
inline_parts o at [] ts a b a' b' a'' b'' c ds is r is' r' is'' r'' set = absurd set
inline_parts o at (s ∷ ss) ts a b a' b' a'' b'' c ds is r is' r' is'' r'' (p, q, is''', brace, more) = (a, b, is, r, (a', b', is', r', (a'', b'', is'', r'', (p, q, is''', (at, brace), more))))

inline_to : (o : ℕ) (x : SelectionTree) (ts a b : List Token) → ts ≡ a ++ b → PunctAt Spread o a → InlineIs o x b → IsSelection x ts
inline_to o x ts a b is r (c, (a', b', is', r', (ds, (a'', b'', is'', r'', (s, same, set))))) =
    subst (λ w. IsSelection w ts) (sym same) (inline_parts o s.0 s.1 ts a b a' b' a'' b'' c ds is r is' r' is'' r'' set)

selection_to : (x : SelectionTree) (ts : List Token) → Either FragmentIs FieldIs x ts → IsSelection x ts
selection_to x ts (inl (o, (a, b, is, r, inl s))) = spread_to o x ts a b is r s
selection_to x ts (inl (o, (a, b, is, r, inr s))) = inline_to o x ts a b is r s
selection_to x ts (inr f) = field_to x ts f

selection_from : (x : SelectionTree) (ts : List Token) → IsSelection x ts → Either FragmentIs FieldIs x ts
selection_from (field h set) ts (a, b, is, r, (a', b', is', r', (a'', b'', is'', r'', s))) =
    inr (
      (h.at, h.alias, h.name),
      (
        a,
        b,
        is,
        r,
        (
          h.args,
          (
            a',
            b',
            is',
            r',
            (
              h.directives,
              (
                a'',
                b'',
                is'',
                r'',
                (selections_in set, ap (field h) (sym (selections_back set)), subst (λ w. IsSet w b'') (sym (selections_back set)) s),
              ),
            ),
          ),
        ),
      ),
    )
selection_from (spread s) ts (a, b, is, r, (a', b', is', r', r'')) = inl (s.at, (a, b, is, r, inl (s.name, (a', b', is', r', (s.directives, refl, r'')))))
selection_from (inline h no_selection) ts r = absurd r
selection_from (inline h (selection s more)) ts (a, b, is, r, (a', b', is', r', (a'', b'', is'', r'', (p, q, is''', (at, brace), rest)))) =
    let back = selections_back (selection s more) in
    inl (
      h.at,
      (
        a,
        b,
        is,
        r,
        inr (
          h.cond,
          (
            a',
            b',
            is',
            r',
            (
              h.directives,
              (
                a'',
                b'',
                is'',
                r'',
                (
                  (at, s ∷ selections_in more),
                  ap (inline h) (sym back),
                  subst (λ w. IsSelectionSet at w b'') (sym back) (p, q, is''', brace, rest),
                ),
              ),
            ),
          ),
        ),
      ),
    )

-- what an inline fragment begins with, behind its `...`
abbrev is_inline : Set
is_inline a = is_at (ahead.Keyword keyword.On) a || (is_at (ahead.Punct At) a || is_set a)

-- what a selection begins with
abbrev pub is_selection : Set
is_selection a = is_name a || is_at (ahead.Punct Spread) a

module _ (n : ℕ) (set : SetParse) (law : Exact n n set SetIs is_set anything) where
  law_some_set : Exact n n (some_set_with set) SomeSetIs (union is_set is_end) after_field
  unfolding some_set_with is_at
  law_some_set =
      exact_as SomeSetIs (union is_set is_end) after_field
      (exact_either is_set
      (exact_as (Mapped (λ s. s.1) SetIs) is_set after_field (exact_map (λ s. s.1) law) (λ v ts r. r) (λ v ts r. r) refl refl)
      (exact_as (Only []) is_end after_field (exact_pure n []) (λ v ts r. r) (λ v ts r. r) refl refl) refl refl)
      some_set_to some_set_from refl refl

  law_field : Exact n n (field_with n set) FieldIs is_name after_field
  unfolding field_with is_at is_name
  law_field =
      exact_as FieldIs is_name after_field
      (exact_then (law_head n) (λ h. exact_then (law_arguments false n) (λ args. exact_then (law_directives false n)
      (λ ds. exact_map (λ ss. field (record { at = h.0; alias = h.1; name = h.2; args = args; directives = ds }) (selections_of ss)) law_some_set) refl) refl) refl)
      (λ v ts r. r) (λ v ts r. r) refl refl

  law_spread : (at : ℕ) → Exact n n (spread_with n at) (SpreadIs at) is_fragment_name after_field
  unfolding spread_with is_at is_name is_fragment_name
  law_spread at =
      exact_as (SpreadIs at) is_fragment_name after_field
      (exact_then (exact_fragment_name n) (λ m. exact_map (λ ds. spread (record { at = at; name = m; directives = ds })) (law_directives false n)) refl)
      (λ v ts r. r) (λ v ts r. r) refl refl

  law_inline : (at : ℕ) → Exact n n (inline_with n set at) (InlineIs at) is_inline after_field
  unfolding inline_with is_at is_name
  law_inline at =
      exact_as (InlineIs at) is_inline after_field
      (exact_then (law_some_condition n) (λ c. exact_then (law_directives false n)
      (λ ds. exact_map (λ s. inline (record { at = at; cond = c; directives = ds }) (selections_of s.1)) law) refl) refl)
      (λ v ts r. r) (λ v ts r. r) refl refl

  law_fragment : Exact n n (fragment_with n set) FragmentIs (is_at (ahead.Punct Spread)) after_field
  unfolding fragment_with is_at is_name is_fragment_name
  law_fragment =
      exact_as FragmentIs (is_at (ahead.Punct Spread)) after_field
      (exact_then (exact_punct Spread n n refl) (λ o. exact_either is_fragment_name (law_spread o) (law_inline o) refl refl) refl)
      (λ v ts r. r) (λ v ts r. r) refl refl

  law_selection : Exact n n (selection_with n set) IsSelection is_selection after_field
  unfolding selection_with is_at is_name
  law_selection =
      exact_as IsSelection is_selection after_field (exact_either (is_at (ahead.Punct Spread)) law_fragment law_field refl refl) selection_to selection_from refl refl

-- ---- sets

abbrev SetParts : ℕ × List SelectionTree → Language
SetParts = Chain (PunctAt OpenBrace) (λ o. Chain (AtLeastOne IsSelection) (λ ss. Mapped (λ e. (o, ss)) (PunctAt CloseBrace)))

set_parts : (o e : ℕ) (ss : List SelectionTree) (ts a b a' b' : List Token) → ts ≡ a ++ b → PunctAt OpenBrace o a → b ≡ a' ++ b'
    → AtLeastOne IsSelection ss a' → PunctAt CloseBrace e b' → SetIs (o, ss) ts
set_parts o e [] ts a b a' b' is r is' one close = absurd one
set_parts o e (s ∷ ss) ts a b a' b' is r is' (p, q, is'', first, each) close = (a, b, is, r, (a', b', is', (p, q, is'', first, selections_to ss q each), (e, close)))

set_to : (x : ℕ × List SelectionTree) (ts : List Token) → SetParts x ts → SetIs x ts
set_to x ts (o, (a, b, is, r, (ss, (a', b', is', one, (e, same, close))))) = subst (λ w. SetIs w ts) (sym same) (set_parts o e ss ts a b a' b' is r is' one close)

set_from : (at : ℕ) (ss : List SelectionTree) (ts : List Token) → SetIs (at, ss) ts → SetParts (at, ss) ts
set_from at [] ts r = absurd r
set_from at (s ∷ ss) ts (a, b, is, r, (a', b', is', (p, q, is'', first, more), (e, close))) =
    (at, (a, b, is, r, (s ∷ ss, (a', b', is', (p, q, is'', first, selections_from ss q more), (e, refl, close)))))

exact_set : (n : ℕ) (item : Parse SelectionTree) → Exact n n item IsSelection is_selection after_field → Exact (suc n) (suc n) (set_with item) SetIs is_set anything
unfolding set_with is_at is_name
exact_set n item law =
    exact_as SetIs is_set anything
    (exact_then (exact_punct OpenBrace (suc n) n refl)
    (λ o. exact_then (exact_some law refl (until_punct CloseBrace) (is_at (ahead.Punct CloseBrace)) refl refl refl refl refl refl)
    (λ ss. exact_map (λ e. (o, ss)) (exact_punct CloseBrace n (suc n) refl)) refl) refl)
    set_to (λ x ts r. set_from x.0 x.1 ts r) refl refl

-- a field of the empty name
abbrev a_field : SelectionTree
a_field = field (record { at = 0; alias = None; name = []; args = []; directives = [] }) no_selection

set_begins : (t : Token) → t.kind ≡ kind.Punct OpenBrace → Begins SetIs (t ∷ [])
set_begins t e =
    let name = token 0 (kind.Name []) in
    let close = token 0 (kind.Punct CloseBrace) in (
      name ∷ close ∷ [],
      (t.from, a_field ∷ []),
      (
        t ∷ [],
        name ∷ close ∷ [],
        refl,
        (t.to, ap (λ k. record { from = t.from; to = t.to; kind = k } ∷ []) e),
        (name ∷ [], close ∷ [], refl, (name ∷ [], [], refl, (name ∷ [], [], refl, (0, refl), ([], [], refl, refl, ([], [], refl, refl, refl))), refl), (0, (0, refl))),
      ),
    )

set_opens : (at : ℕ) (ss : List SelectionTree) (front : List Token) → SetIs (at, ss) front → (t : Token) × (rest : List Token) × (front ≡ t ∷ rest) × (t.kind ≡ kind.Punct OpenBrace)
set_opens at [] front r = absurd r
set_opens at (s ∷ ss) front (a, b, is, (to, e), more) = (record { from = at; to = to; kind = kind.Punct OpenBrace }, b, is ∙ ap (λ us. us ++ b) e, refl)

pub law_set : (n : ℕ) → Exact n n (set_at n) SetIs is_set anything
unfolding set_at
law_set zero =
    let b = set_begins (token 0 (kind.Punct OpenBrace)) refl in
    exact_stopped 0 OpenBrace SetIs anything (b.1, (token 0 (kind.Punct OpenBrace) ∷ []) ++ b.0, b.2) set_begins
    (λ x front r. set_opens x.0 x.1 front r) refl (at_self OpenBrace) (λ t h. punct_is OpenBrace t.kind h)
law_set (suc n) = exact_set n (selection_at n) (law_selection n (set_at n) (law_set n))

pub law_selection_at : (n : ℕ) → Exact n n (selection_at n) IsSelection is_selection after_field
law_selection_at n = law_selection n (set_at n) (law_set n)

pub selection_takes : is_selection ahead.End ≡ false
unfolding is_at is_name
selection_takes = refl
