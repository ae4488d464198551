-- The laws of the parsers of values.
use Rattle.std.proofs.Common.{◌≡◌, ℕ, zero, suc, inl, inr, ◌||◌, Bool, true, false, List, [], ◌∷◌, ◌++◌, Some, refl, sym, ap, subst, ◌∙◌, if◌then◌else◌}
use Rattle.hq_gql_lexer.specs.declared.token.Punct.TheVariants.{Dollar, Colon, OpenBracket, CloseBracket, OpenBrace, CloseBrace}
use Rattle.hq_gql_lexer.specs.declared.token.Token.{Token}
use Rattle.hq_gql_lexer.specs.declared.token.TokenKind.{TokenKind}
use Rattle.hq_gql_lexer.specs.declared.token.TokenKind.TheVariants as kind
use Rattle.hq_gql_tree.specs.Values.{ValueTree, int, float, str, bool, null, enum, list, object, variable, ElementTrees, no_element, MemberTrees, no_member, PlacedTree, elements_of, elements_in, members_of, members_in}
use Rattle.hq_gql_parser.specs.declared.keyword.Keyword.TheVariants as keyword
use Rattle.hq_gql_parser.specs.declared.lookahead.Lookahead.TheVariants as ahead
use Rattle.hq_gql_parser.specs.Lookahead.{is_keyword, is_at, is_name}
use Rattle.hq_gql_parser.specs.Languages.{Language, IsToken, Each}
use Rattle.hq_gql_parser.specs.Values.{name_value, IsValue, IsPlaced, IsArgument}
use Rattle.hq_gql_parser.specs.Parsing.{Parse, until_punct}
use Rattle.hq_gql_parser.specs.ParsingValues.{literal_of, placed_at, literal_use, variable_at, is_bracket, is_brace, is_variable, value_with, list_with, argument_with, object_with, list_at, object_at, value_at, argument_at}
use Rattle.hq_gql_parser.proofs.Sets.{Set, anything}
use Rattle.hq_gql_parser.proofs.Exact.{Begins, Exact, Chain, exact_then}
use Rattle.hq_gql_parser.proofs.Choices.{OfUse, Mapped, exact_map, Either, exact_either, exact_as, exact_stopped}
use Rattle.hq_gql_parser.proofs.Items.{exact_all}
use Rattle.hq_gql_parser.proofs.TokenLaws.{token, PunctAt, exact_punct, punct_is, at_self, NameAt, exact_name, is_literal, exact_literal}
use Rattle.hq_gql_parser.proofs.ValueLists.{elements_back, members_back, elements_to, elements_from, members_to, members_from}

-- ---- variables and literals

abbrev pub VariableIs : PlacedTree → Language
VariableIs = Chain (PunctAt Dollar) (λ at. Mapped (λ n. record { at = at; value = variable n.1 }) NameAt)

pub exact_variable : (n : ℕ) → Exact n n variable_at VariableIs (is_at (ahead.Punct Dollar)) anything
unfolding variable_at is_at is_name
exact_variable n =
    exact_as VariableIs (is_at (ahead.Punct Dollar)) anything
    (exact_then (exact_punct Dollar n n refl) (λ at. exact_map (λ m. record { at = at; value = variable m.1 }) (exact_name n)) refl)
    (λ v ts r. r) (λ v ts r. r) refl refl

named_by : (c : Bool) (at : ℕ) (name : List ℕ) (ts : List Token) (t f n : Bool) → name_value name ≡ (if t then bool true else (if f then bool false else (if n then null else enum name)))
    → IsToken at (kind.Name name) ts → IsValue c at (if t then bool true else (if f then bool false else (if n then null else enum name))) ts
named_by c at name ts true f n e is = (name, sym e, is)
named_by c at name ts false true n e is = (name, sym e, is)
named_by c at name ts false false true e is = (name, sym e, is)
named_by c at name ts false false false e is = (name, sym e, is)

named_is : (c : Bool) (at : ℕ) (name : List ℕ) (ts : List Token) → IsToken at (kind.Name name) ts → IsValue c at (name_value name) ts
unfolding name_value
named_is c at name ts is = named_by c at name ts (is_keyword name keyword.True) (is_keyword name keyword.False) (is_keyword name keyword.Null) refl is

literal_is : (c : Bool) (k : TokenKind) (at : ℕ) (v : PlacedTree) (ts : List Token) → placed_at at (literal_of k) ≡ Some v → IsToken at k ts → IsPlaced c v ts
literal_is c (kind.Punct p) at v ts e is = absurd cc
literal_is c (kind.Name name) at v ts e is = let s : record { at = at; value = name_value name } ≡ v = cc in subst (λ w. IsPlaced c w ts) s (named_is c at name ts is)
literal_is c (kind.Int text) at v ts e is = let s : record { at = at; value = int text } ≡ v = cc in subst (λ w. IsPlaced c w ts) s is
literal_is c (kind.Float text) at v ts e is = let s : record { at = at; value = float text } ≡ v = cc in subst (λ w. IsPlaced c w ts) s is
literal_is c (kind.Str value) at v ts e is = let s : record { at = at; value = str value } ≡ v = cc in subst (λ w. IsPlaced c w ts) s is

literal_to : (c : Bool) (v : PlacedTree) (ts : List Token) → OfUse literal_use v ts → IsPlaced c v ts
literal_to c v ts (t, is, e) = literal_is c t.kind t.from v ts e (t.to, is)

literal_from : (at : ℕ) (v : ValueTree) (ts : List Token) (k : TokenKind) → literal_of k ≡ Some v → IsToken at k ts → OfUse literal_use (record { at = at; value = v }) ts
literal_from at v ts k e (to, is) = (record { from = at; to = to; kind = k }, is, ap (placed_at at) e)

variable_to : (v : PlacedTree) (ts : List Token) → VariableIs v ts → IsPlaced false v ts
variable_to v ts (at, (a, b, is, r, (n, same, m))) = subst (λ w. IsPlaced false w ts) (sym same) (refl, (a, b, is, r, (n.0, m)))

-- ---- lists and objects

abbrev pub ListIs : Bool → PlacedTree → Language
ListIs c = Chain (PunctAt OpenBracket) (λ o. Chain (Each (IsPlaced c)) (λ vs. Mapped (λ e. record { at = o; value = list (elements_of vs) }) (PunctAt CloseBracket)))

abbrev pub ObjectIs : Bool → PlacedTree → Language
ObjectIs c = Chain (PunctAt OpenBrace) (λ o. Chain (Each (IsArgument c)) (λ ms. Mapped (λ e. record { at = o; value = object (members_of ms) }) (PunctAt CloseBrace)))

list_to : (c : Bool) (v : PlacedTree) (ts : List Token) → ListIs c v ts → IsPlaced c v ts
list_to c v ts (o, (a, b, is, r, (vs, (a', b', is', each, (e, same, close))))) = subst (λ w. IsPlaced c w ts) (sym same) (a, b, is, r, (a', b', is', elements_to c vs a' each, (e, close)))

object_to : (c : Bool) (v : PlacedTree) (ts : List Token) → ObjectIs c v ts → IsPlaced c v ts
object_to c v ts (o, (a, b, is, r, (ms, (a', b', is', each, (e, same, close))))) = subst (λ w. IsPlaced c w ts) (sym same) (a, b, is, r, (a', b', is', members_to c ms a' each, (e, close)))

list_from : (c : Bool) (at : ℕ) (vs : ElementTrees) (ts : List Token) → IsValue c at (list vs) ts → ListIs c (record { at = at; value = list vs }) ts
list_from c at vs ts (a, b, is, r, (a', b', is', els, (e, close))) =
    (at, (a, b, is, r, (elements_in vs, (a', b', is', elements_from c vs a' els, (e, ap (λ ws. record { at = at; value = list ws }) (sym (elements_back vs)), close)))))

object_from : (c : Bool) (at : ℕ) (ms : MemberTrees) (ts : List Token) → IsValue c at (object ms) ts → ObjectIs c (record { at = at; value = object ms }) ts
object_from c at ms ts (a, b, is, r, (a', b', is', els, (e, close))) =
    (at, (a, b, is, r, (members_in ms, (a', b', is', members_from c ms a' els, (e, ap (λ ws. record { at = at; value = object ws }) (sym (members_back ms)), close)))))

-- ---- values

-- what a value begins with
abbrev pub is_value : Set
is_value a = is_literal a || (is_at (ahead.Punct Dollar) a || (is_at (ahead.Punct OpenBracket) a || is_at (ahead.Punct OpenBrace) a))

abbrev ConstantIs : PlacedTree → Language
ConstantIs = Either (ListIs true) (Either (ObjectIs true) (OfUse literal_use))

abbrev ValueIs : PlacedTree → Language
ValueIs = Either (ListIs false) (Either (ObjectIs false) (Either VariableIs (OfUse literal_use)))

constant_to : (v : PlacedTree) (ts : List Token) → ConstantIs v ts → IsPlaced true v ts
constant_to v ts (inl r) = list_to true v ts r
constant_to v ts (inr (inl r)) = object_to true v ts r
constant_to v ts (inr (inr r)) = literal_to true v ts r

constant_from : (at : ℕ) (v : ValueTree) (ts : List Token) → IsValue true at v ts → ConstantIs (record { at = at; value = v }) ts
constant_from at (int text) ts r = inr (inr (literal_from at (int text) ts (kind.Int text) refl r))
constant_from at (float text) ts r = inr (inr (literal_from at (float text) ts (kind.Float text) refl r))
constant_from at (str text) ts r = inr (inr (literal_from at (str text) ts (kind.Str text) refl r))
constant_from at (bool b) ts (name, e, r) = inr (inr (literal_from at (bool b) ts (kind.Name name) (ap (λ v. Some v) (sym e)) r))
constant_from at null ts (name, e, r) = inr (inr (literal_from at null ts (kind.Name name) (ap (λ v. Some v) (sym e)) r))
constant_from at (enum n) ts (name, e, r) = inr (inr (literal_from at (enum n) ts (kind.Name name) (ap (λ v. Some v) (sym e)) r))
constant_from at (list vs) ts r = inl (list_from true at vs ts r)
constant_from at (object ms) ts r = inr (inl (object_from true at ms ts r))
constant_from at (variable name) ts (e, r) = absurd cc

value_to : (v : PlacedTree) (ts : List Token) → ValueIs v ts → IsPlaced false v ts
value_to v ts (inl r) = list_to false v ts r
value_to v ts (inr (inl r)) = object_to false v ts r
value_to v ts (inr (inr (inl r))) = variable_to v ts r
value_to v ts (inr (inr (inr r))) = literal_to false v ts r

value_from : (at : ℕ) (v : ValueTree) (ts : List Token) → IsValue false at v ts → ValueIs (record { at = at; value = v }) ts
value_from at (int text) ts r = inr (inr (inr (literal_from at (int text) ts (kind.Int text) refl r)))
value_from at (float text) ts r = inr (inr (inr (literal_from at (float text) ts (kind.Float text) refl r)))
value_from at (str text) ts r = inr (inr (inr (literal_from at (str text) ts (kind.Str text) refl r)))
value_from at (bool b) ts (name, e, r) = inr (inr (inr (literal_from at (bool b) ts (kind.Name name) (ap (λ v. Some v) (sym e)) r)))
value_from at null ts (name, e, r) = inr (inr (inr (literal_from at null ts (kind.Name name) (ap (λ v. Some v) (sym e)) r)))
value_from at (enum n) ts (name, e, r) = inr (inr (inr (literal_from at (enum n) ts (kind.Name name) (ap (λ v. Some v) (sym e)) r)))
value_from at (list vs) ts r = inl (list_from false at vs ts r)
value_from at (object ms) ts r = inr (inl (object_from false at ms ts r))
value_from at (variable name) ts (e, (a, b, is, r, (place, m))) = inr (inr (inl (at, (a, b, is, r, ((place, name), refl, m)))))

module _ (n : ℕ) (list_of object_of : Parse PlacedTree) where
  pub exact_value : (c : Bool) → Exact n n list_of (ListIs c) is_bracket anything → Exact n n object_of (ObjectIs c) is_brace anything
      → Exact n n (value_with c list_of object_of) (IsPlaced c) is_value anything
  unfolding value_with is_at is_literal
  exact_value true law_list law_object =
      exact_as (IsPlaced true) is_value anything
      (exact_either is_bracket law_list (exact_either is_brace law_object (exact_literal n) refl refl) refl refl)
      constant_to (λ v ts r. constant_from v.at v.value ts r) refl refl
  exact_value false law_list law_object =
      exact_as (IsPlaced false) is_value anything
      (exact_either is_bracket law_list (exact_either is_brace law_object (exact_either (is_variable false) (exact_variable n) (exact_literal n) refl refl) refl refl) refl refl)
      value_to (λ v ts r. value_from v.at v.value ts r) refl refl

module _ (c : Bool) (n : ℕ) (value : Parse PlacedTree) (law : Exact n n value (IsPlaced c) is_value anything) where
  pub exact_argument : Exact n n (argument_with value) (IsArgument c) is_name anything
  unfolding argument_with is_name is_at is_literal
  exact_argument =
      exact_as (IsArgument c) is_name anything
      (exact_then (exact_name n) (λ m. exact_then (exact_punct Colon n n refl) (λ e. exact_map (λ v. record { at = m.0; name = m.1; value = v }) law) refl) refl)
      (λ x ts (m, (a, b, is, r, (e, (a', b', is', r', (v, same, r''))))). subst (λ w. IsArgument c w ts) (sym same) (a, b, is, r, (a', b', is', (e, r'), r'')))
      (λ x ts (a, b, is, r, (a', b', is', (e, r'), r'')). ((x.at, x.name), (a, b, is, r, (e, (a', b', is', r', (x.value, refl, r''))))))
      refl refl

  exact_list : Exact (suc n) (suc n) (list_with value) (ListIs c) is_bracket anything
  unfolding list_with is_at is_literal
  exact_list =
      exact_as (ListIs c) is_bracket anything
      (exact_then (exact_punct OpenBracket (suc n) n refl)
      (λ o. exact_then (exact_all law refl (until_punct CloseBracket) (is_at (ahead.Punct CloseBracket)) refl refl refl refl)
      (λ vs. exact_map (λ e. record { at = o; value = list (elements_of vs) }) (exact_punct CloseBracket n (suc n) refl)) refl) refl)
      (λ v ts r. r) (λ v ts r. r) refl refl

  exact_object : Exact (suc n) (suc n) (object_with value) (ObjectIs c) is_brace anything
  unfolding object_with is_at is_name is_literal
  exact_object =
      exact_as (ObjectIs c) is_brace anything
      (exact_then (exact_punct OpenBrace (suc n) n refl)
      (λ o. exact_then (exact_all exact_argument refl (until_punct CloseBrace) (is_at (ahead.Punct CloseBrace)) refl refl refl refl)
      (λ ms. exact_map (λ e. record { at = o; value = object (members_of ms) }) (exact_punct CloseBrace n (suc n) refl)) refl) refl)
      (λ v ts r. r) (λ v ts r. r) refl refl

-- ---- at each depth

list_begins : (c : Bool) (t : Token) → t.kind ≡ kind.Punct OpenBracket → Begins (ListIs c) (t ∷ [])
list_begins c t e = (
  token 0 (kind.Punct CloseBracket) ∷ [],
  record { at = t.from; value = list no_element },
  (
    t.from,
    (
      t ∷ [],
      token 0 (kind.Punct CloseBracket)
          ∷ [],
      refl,
      (t.to, ap (λ k. record { from = t.from; to = t.to; kind = k } ∷ []) e),
      ([], ([], token 0 (kind.Punct CloseBracket) ∷ [], refl, refl, (0, refl, (0, refl)))),
    ),
  ),
)

object_begins : (c : Bool) (t : Token) → t.kind ≡ kind.Punct OpenBrace → Begins (ObjectIs c) (t ∷ [])
object_begins c t e = (
  token 0 (kind.Punct CloseBrace) ∷ [],
  record { at = t.from; value = object no_member },
  (
    t.from,
    (
      t ∷ [],
      token 0 (kind.Punct CloseBrace)
          ∷ [],
      refl,
      (t.to, ap (λ k. record { from = t.from; to = t.to; kind = k } ∷ []) e),
      ([], ([], token 0 (kind.Punct CloseBrace) ∷ [], refl, refl, (0, refl, (0, refl)))),
    ),
  ),
)

no_list : (c : Bool) → Exact 0 0 (list_at c 0) (ListIs c) is_bracket anything
unfolding list_at
no_list c =
    let b = list_begins c (token 0 (kind.Punct OpenBracket)) refl in
    exact_stopped 0 OpenBracket (ListIs c) anything (b.1, (token 0 (kind.Punct OpenBracket) ∷ []) ++ b.0, b.2) (list_begins c)
    (λ v front (o, (a, more, is, (to, e), r)). (record { from = o; to = to; kind = kind.Punct OpenBracket }, more, is ∙ ap (λ us. us ++ more) e, refl))
    refl (at_self OpenBracket) (λ t h. punct_is OpenBracket t.kind h)

no_object : (c : Bool) → Exact 0 0 (object_at c 0) (ObjectIs c) is_brace anything
unfolding object_at
no_object c =
    let b = object_begins c (token 0 (kind.Punct OpenBrace)) refl in
    exact_stopped 0 OpenBrace (ObjectIs c) anything (b.1, (token 0 (kind.Punct OpenBrace) ∷ []) ++ b.0, b.2) (object_begins c)
    (λ v front (o, (a, more, is, (to, e), r)). (record { from = o; to = to; kind = kind.Punct OpenBrace }, more, is ∙ ap (λ us. us ++ more) e, refl))
    refl (at_self OpenBrace) (λ t h. punct_is OpenBrace t.kind h)

exact_both : (c : Bool) (n : ℕ) → Exact n n (list_at c n) (ListIs c) is_bracket anything × Exact n n (object_at c n) (ObjectIs c) is_brace anything
unfolding list_at object_at
exact_both c zero = (no_list c, no_object c)
exact_both c (suc n) =
    let both = exact_both c n in
    let law = exact_value n (list_at c n) (object_at c n) c both.0 both.1 in
    (exact_list c n (value_at c n) law, exact_object c n (value_at c n) law)

pub law_value : (c : Bool) (n : ℕ) → Exact n n (value_at c n) (IsPlaced c) is_value anything
law_value c n = let both = exact_both c n in exact_value n (list_at c n) (object_at c n) c both.0 both.1

pub law_argument : (c : Bool) (n : ℕ) → Exact n n (argument_at c n) (IsArgument c) is_name anything
law_argument c n = exact_argument c n (value_at c n) (law_value c n)

-- a value and a name take a token
pub value_takes : is_value ahead.End ≡ false
unfolding is_at is_literal
value_takes = refl

pub name_takes : is_name ahead.End ≡ false
unfolding is_name
name_takes = refl
