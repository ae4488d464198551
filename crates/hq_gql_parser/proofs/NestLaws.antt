-- The tokens of each part of a document open as many brackets at once as the part nests deep.
use Rattle.std.proofs.Common.{◌≡◌, ℕ, suc, inl, inr, Bool, true, false, List, [], ◌∷◌, Option, Some, None, refl, arith}
use Rattle.std.specs.Prelude.{max}
use Rattle.hq_gql_lexer.specs.declared.token.Punct.TheVariants as punct
use Rattle.hq_gql_lexer.specs.declared.token.Token.{Token}
use Rattle.hq_gql_lexer.specs.declared.token.TokenKind.TheVariants as kind
use Rattle.hq_gql_tree.specs.declared.selection.TypeCond.{TypeCond}
use Rattle.hq_gql_tree.specs.Values.{ValueTree, int, float, str, bool, null, enum, list, object, variable, ElementTrees, no_element, element, MemberTrees, no_member, member, PlacedTree, ArgumentTree, DirectiveTree}
use Rattle.hq_gql_tree.specs.Types.{TypeTree, named, non_null}
use Rattle.hq_gql_tree.specs.Types.{list as list_type}
use Rattle.hq_gql_tree.specs.Selections.{SelectionTree, field, spread, inline, SelectionTrees, no_selection, selection}
use Rattle.hq_gql_tree.specs.Documents.{VarDefTree, OperationTree, DefinitionTree, operation, fragment, DocumentTree}
use Rattle.hq_gql_tree.specs.Nesting.{value_nest, elements_nest, members_nest, arguments_nest, directives_nest, selection_nest, set_nest, selections_nest, type_nest, default_nest, vars_nest, definition_nest, document_nest}
use Rattle.hq_gql_parser.specs.Languages.{Language, IsPunct, IsName, Each, InParentheses}
use Rattle.hq_gql_parser.specs.Values.{IsValue, AreElements, AreMembers, IsArgument, AreArguments, IsDirective, AreDirectives}
use Rattle.hq_gql_parser.specs.Types.{IsNullable, IsType}
use Rattle.hq_gql_parser.specs.Selections.{IsHead, IsFragmentName, IsCondition, IsSomeCondition, IsSelection, IsSet, AreSelections, IsSelectionSet}
use Rattle.hq_gql_parser.specs.Operations.{IsDefault, IsVariable, AreVariables, IsSomeName, IsNamedOperation, IsShorthand, IsDefinition, IsDocument}
use Rattle.hq_gql_parser.proofs.NestLemmas.{Opens, opens_nothing, opens_token, opens_both, opens_as, opens_behind, opens_before, opens_in}

-- ---- names and keywords

opens_name : (name : List ℕ) (ts : List Token) → IsName name ts → Opens 0 ts
opens_name name ts (at, r) = opens_token (kind.Name name) at ts (λ d. refl) r

opens_colon : (ts : List Token) → IsPunct punct.Colon ts → Opens 0 ts
opens_colon ts (at, r) = opens_token (kind.Punct punct.Colon) at ts (λ d. refl) r

-- ---- values

mutual
  value_opens : (c : Bool) (at : ℕ) (v : ValueTree) (ts : List Token) → IsValue c at v ts → Opens (value_nest v) ts
  value_opens c at (int text) ts r = opens_token (kind.Int text) at ts (λ d. refl) r
  value_opens c at (float text) ts r = opens_token (kind.Float text) at ts (λ d. refl) r
  value_opens c at (str text) ts r = opens_token (kind.Str text) at ts (λ d. refl) r
  value_opens c at (bool b) ts (name, e, r) = opens_token (kind.Name name) at ts (λ d. refl) r
  value_opens c at null ts (name, e, r) = opens_token (kind.Name name) at ts (λ d. refl) r
  value_opens c at (enum n) ts (name, e, r) = opens_token (kind.Name name) at ts (λ d. refl) r
  value_opens c at (list vs) ts (a, b, is, r, (a', b', is', els, close)) =
      opens_in punct.OpenBracket punct.CloseBracket (elements_nest vs) at ts a b a' b' (λ d. refl) (λ d. refl) is r is'
      (elements_opens c vs a' els) close
  value_opens c at (object ms) ts (a, b, is, r, (a', b', is', els, close)) =
      opens_in punct.OpenBrace punct.CloseBrace (members_nest ms) at ts a b a' b' (λ d. refl) (λ d. refl) is r is'
      (members_opens c ms a' els) close
  value_opens c at (variable name) ts (e, (a, b, is, r, r')) = opens_behind 0 ts a b is (opens_token (kind.Punct punct.Dollar) at a (λ d. refl) r) (opens_name name b r')

  elements_opens : (c : Bool) (vs : ElementTrees) (ts : List Token) → AreElements c vs ts → Opens (elements_nest vs) ts
  elements_opens c no_element ts is = opens_nothing ts is
  elements_opens c (element at v vs) ts (a, b, is, r, more) = opens_both (value_nest v) (elements_nest vs) ts a b is (value_opens c at v a r) (elements_opens c vs b more)

  members_opens : (c : Bool) (ms : MemberTrees) (ts : List Token) → AreMembers c ms ts → Opens (members_nest ms) ts
  members_opens c no_member ts is = opens_nothing ts is
  members_opens c (member at name value_at v ms) ts (a, b, is, (a', b', is', r, (a'', b'', is'', r', r'')), more) =
      opens_both (value_nest v) (members_nest ms) ts a b is
      (opens_behind (value_nest v) a a' b' is' (opens_token (kind.Name name) at a' (λ d. refl) r) (opens_behind (value_nest v) b' a'' b'' is'' (opens_colon a'' r') (value_opens c value_at v b'' r'')))
      (members_opens c ms b more)

-- ---- arguments and directives

argument_opens : (c : Bool) (x : ArgumentTree) (ts : List Token) → IsArgument c x ts → Opens (value_nest x.value.value) ts
argument_opens c x ts (a, b, is, r, (a', b', is', r', r'')) =
    let n = value_nest x.value.value in
    opens_behind n ts a b is (opens_token (kind.Name x.name) x.at a (λ d. refl) r) (opens_behind n b a' b' is' (opens_colon a' r') (value_opens c x.value.at x.value.value b' r''))

-- lists of parts
module _ {A : Type 0} (P : A → Language) (nest : A → ℕ) (nests : List A → ℕ) (none : nests [] ≡ 0)
    (more : (x : A) (xs : List A) → nests (x ∷ xs) ≡ max (nest x) (nests xs)) (part : (x : A) (ts : List Token) → P x ts → Opens (nest x) ts)
  where
    each_opens : (xs : List A) (ts : List Token) → Each P xs ts → Opens (nests xs) ts
    each_opens [] ts is = rw none (opens_nothing ts is)
    each_opens (x ∷ xs) ts (a, b, is, r, each) = rw (more x xs) (opens_both (nest x) (nests xs) ts a b is (part x a r) (each_opens xs b each))

    parentheses_open : (xs : List A) (ts : List Token) → InParentheses P xs ts → Opens (nests xs) ts
    parentheses_open [] ts is = rw none (opens_nothing ts is)
    parentheses_open (x ∷ xs) ts (a, b, is, (at, r), (a', b', is', one, (at', r'))) =
        let n = nests (x ∷ xs) in
        opens_behind n ts a b is (opens_token (kind.Punct punct.OpenParenthesis) at a (λ d. refl) r)
        (opens_before n b a' b' is' (each_opens (x ∷ xs) a' one) (opens_token (kind.Punct punct.CloseParenthesis) at' b' (λ d. refl) r'))

arguments_open : (c : Bool) (xs : List ArgumentTree) (ts : List Token) → AreArguments c xs ts → Opens (arguments_nest xs) ts
arguments_open c = parentheses_open (IsArgument c) (λ x. value_nest x.value.value) arguments_nest refl (λ x xs. refl) (argument_opens c)

directive_opens : (c : Bool) (x : DirectiveTree) (ts : List Token) → IsDirective c x ts → Opens (arguments_nest x.args) ts
directive_opens c x ts (a, b, is, r, (a', b', is', r', r'')) =
    let n = arguments_nest x.args in
    opens_behind n ts a b is (opens_token (kind.Punct punct.At) x.at a (λ d. refl) r) (opens_behind n b a' b' is' (opens_name x.name a' r') (arguments_open c x.args b' r''))

directives_open : (c : Bool) (xs : List DirectiveTree) (ts : List Token) → AreDirectives c xs ts → Opens (directives_nest xs) ts
directives_open c = each_opens (IsDirective c) (λ x. arguments_nest x.args) directives_nest refl (λ x xs. refl) (directive_opens c)

-- ---- types

mutual
  nullable_opens : (at : ℕ) (t : TypeTree) (ts : List Token) → IsNullable at t ts → Opens (type_nest t) ts
  nullable_opens at (named place name) ts (e, r) = opens_token (kind.Name name) place ts (λ d. refl) r
  nullable_opens at (list_type place of) ts (e, (a, b, is, r, (a', b', is', r', close))) =
      opens_in punct.OpenBracket punct.CloseBracket (type_nest of) place ts a b a' b' (λ d. refl) (λ d. refl) is r is' (type_opens of a' r')
      close
  nullable_opens at (non_null place of) ts r = absurd r

  type_opens : (t : TypeTree) (ts : List Token) → IsType t ts → Opens (type_nest t) ts
  type_opens (named at name) ts r = opens_token (kind.Name name) at ts (λ d. refl) r
  type_opens (list_type at of) ts (a, b, is, r, (a', b', is', r', close)) =
      opens_in punct.OpenBracket punct.CloseBracket (type_nest of) at ts a b a' b' (λ d. refl) (λ d. refl) is r is' (type_opens of a' r')
      close
  type_opens (non_null at of) ts (a, b, is, r, (place, r')) = opens_before (type_nest of) ts a b is (nullable_opens at of a r) (opens_token (kind.Punct punct.Bang) place b (λ d. refl) r')

-- ---- selections

head_opens : (at : ℕ) (alias : Option (List ℕ)) (name : List ℕ) (ts : List Token) → IsHead at alias name ts → Opens 0 ts
head_opens at None name ts r = opens_token (kind.Name name) at ts (λ d. refl) r
head_opens at (Some alias) name ts (a, b, is, r, (a', b', is', r', r'')) =
    opens_behind 0 ts a b is (opens_token (kind.Name alias) at a (λ d. refl) r) (opens_behind 0 b a' b' is' (opens_colon a' r') (opens_name name b' r''))

condition_opens : (x : TypeCond) (ts : List Token) → IsCondition x ts → Opens 0 ts
condition_opens x ts (a, b, is, r, r') = opens_behind 0 ts a b is (opens_token _ x.at a (λ d. refl) r) (opens_name x.name b r')

some_condition_opens : (x : Option TypeCond) (ts : List Token) → IsSomeCondition x ts → Opens 0 ts
some_condition_opens None ts is = opens_nothing ts is
some_condition_opens (Some c) ts r = condition_opens c ts r

fragment_name_opens : (name : List ℕ) (ts : List Token) → IsFragmentName name ts → Opens 0 ts
fragment_name_opens name ts (e, r) = opens_name name ts r

mutual
  selection_opens : (x : SelectionTree) (ts : List Token) → IsSelection x ts → Opens (selection_nest x) ts
  selection_opens (field h set) ts (a, b, is, r, (a', b', is', r', (a'', b'', is'', r'', s))) =
      let m = arguments_nest h.args in
      let n = directives_nest h.directives in
      let k = set_nest set in
      let e : max m (max n k) ≡ max (max m n) k = omega arith in
      opens_as (max m (max n k)) (max (max m n) k) ts e
      (opens_behind (max m (max n k)) ts a b is (head_opens h.at h.alias h.name a r)
      (opens_both m (max n k) b a' b' is' (arguments_open false h.args a' r')
      (opens_both n k b' a'' b'' is'' (directives_open false h.directives a'' r'') (set_opens set b'' s))))
  selection_opens (spread s) ts (a, b, is, r, (a', b', is', r', r'')) =
      let n = directives_nest s.directives in
      opens_behind n ts a b is (opens_token (kind.Punct punct.Spread) s.at a (λ d. refl) r) (opens_behind n b a' b' is' (fragment_name_opens s.name a' r') (directives_open false s.directives b' r''))
  selection_opens (inline h no_selection) ts r = absurd r
  selection_opens (inline h (selection s more)) ts (a, b, is, r, (a', b', is', r', (a'', b'', is'', r'', (p, q, is3, (at, brace), (p', q', is4, (p'', q'', is5, first, rest), close))))) =
      let n = directives_nest h.directives in
      let k = suc (max (selection_nest s) (selections_nest more)) in
      opens_behind (max n k) ts a b is (opens_token (kind.Punct punct.Spread) h.at a (λ d. refl) r)
      (opens_behind (max n k) b a' b' is' (some_condition_opens h.cond a' r')
      (opens_both n k b' a'' b'' is'' (directives_open false h.directives a'' r'')
      (opens_in punct.OpenBrace punct.CloseBrace (max (selection_nest s) (selections_nest more)) at b'' p q p' q' (λ d. refl) (λ d. refl) is3 brace is4
      (opens_both (selection_nest s) (selections_nest more) p' p'' q'' is5 (selection_opens s p'' first) (selections_open more q'' rest)) close)))

  set_opens : (x : SelectionTrees) (ts : List Token) → IsSet x ts → Opens (set_nest x) ts
  set_opens no_selection ts is = opens_nothing ts is
  set_opens (selection s more) ts (p, q, is3, (at, brace), (p', q', is4, (p'', q'', is5, first, rest), close)) =
      opens_in punct.OpenBrace punct.CloseBrace (max (selection_nest s) (selections_nest more)) at ts p q p' q' (λ d. refl) (λ d. refl) is3 brace is4
      (opens_both (selection_nest s) (selections_nest more) p' p'' q'' is5 (selection_opens s p'' first) (selections_open more q'' rest)) close

  selections_open : (x : SelectionTrees) (ts : List Token) → AreSelections x ts → Opens (selections_nest x) ts
  selections_open no_selection ts is = opens_nothing ts is
  selections_open (selection s more) ts (a, b, is, r, rest) = opens_both (selection_nest s) (selections_nest more) ts a b is (selection_opens s a r) (selections_open more b rest)

selection_set_opens : (at : ℕ) (x : SelectionTrees) (ts : List Token) → IsSelectionSet at x ts → Opens (set_nest x) ts
selection_set_opens at no_selection ts r = absurd r
selection_set_opens at (selection s more) ts (a, b, is, brace, rest) = set_opens (selection s more) ts (a, b, is, (at, brace), rest)

-- ---- operations

default_opens : (x : Option PlacedTree) (ts : List Token) → IsDefault x ts → Opens (default_nest x) ts
default_opens None ts is = opens_nothing ts is
default_opens (Some v) ts (a, b, is, (at, r), r') = opens_behind (value_nest v.value) ts a b is (opens_token (kind.Punct punct.Equals) at a (λ d. refl) r) (value_opens true v.at v.value b r')

abbrev variable_nest : VarDefTree → ℕ
variable_nest v = max (type_nest v.ty) (max (default_nest v.default) (directives_nest v.directives))

variable_opens : (x : VarDefTree) (ts : List Token) → IsVariable x ts → Opens (variable_nest x) ts
variable_opens x ts (a, b, is, r, (a1, b1, is1, r1, (a2, b2, is2, r2, (a3, b3, is3, r3, (a4, b4, is4, r4, r5))))) =
    let n = variable_nest x in
    opens_behind n ts a b is (opens_token (kind.Punct punct.Dollar) x.at a (λ d. refl) r)
    (opens_behind n b a1 b1 is1 (opens_name x.name a1 r1) (opens_behind n b1 a2 b2 is2 (opens_colon a2 r2)
    (opens_both (type_nest x.ty) (max (default_nest x.default) (directives_nest x.directives)) b2 a3 b3 is3 (type_opens x.ty a3 r3)
    (opens_both (default_nest x.default) (directives_nest x.directives) b3 a4 b4 is4 (default_opens x.default a4 r4) (directives_open true x.directives b4 r5)))))

variables_open : (xs : List VarDefTree) (ts : List Token) → AreVariables xs ts → Opens (vars_nest xs) ts
variables_open = parentheses_open IsVariable variable_nest vars_nest refl (λ x xs. refl) variable_opens

some_name_opens : (x : Option (List ℕ)) (ts : List Token) → IsSomeName x ts → Opens 0 ts
some_name_opens None ts is = opens_nothing ts is
some_name_opens (Some name) ts r = opens_name name ts r

shorthand_opens : (o : OperationTree) (ts : List Token) → IsShorthand o ts → Opens (definition_nest (operation o)) ts
shorthand_opens o ts (e1, e2, e3, e4, r) =
    let k = set_nest o.selections in
    let e : k ≡ max 0 (max 0 k) = omega arith in
    rw (e3, e4) (opens_as k (max 0 (max 0 k)) ts e (selection_set_opens o.at o.selections ts r))

named_opens : (o : OperationTree) (ts : List Token) → IsNamedOperation o ts → Opens (definition_nest (operation o)) ts
named_opens o ts (a, b, is, r, (a1, b1, is1, r1, (a2, b2, is2, r2, (a3, b3, is3, r3, (at, r4))))) =
    let n = definition_nest (operation o) in
    opens_behind n ts a b is (opens_token _ o.at a (λ d. refl) r)
    (opens_behind n b a1 b1 is1 (some_name_opens o.name a1 r1)
    (opens_both (vars_nest o.vars) (max (directives_nest o.directives) (set_nest o.selections)) b1 a2 b2 is2 (variables_open o.vars a2 r2)
    (opens_both (directives_nest o.directives) (set_nest o.selections) b2 a3 b3 is3 (directives_open false o.directives a3 r3) (selection_set_opens at o.selections b3 r4))))

definition_opens : (x : DefinitionTree) (ts : List Token) → IsDefinition x ts → Opens (definition_nest x) ts
definition_opens (operation o) ts (inl r) = shorthand_opens o ts r
definition_opens (operation o) ts (inr r) = named_opens o ts r
definition_opens (fragment f) ts (a, b, is, r, (a1, b1, is1, r1, (a2, b2, is2, r2, (a3, b3, is3, r3, (at, r4))))) =
    let n = max (directives_nest f.directives) (set_nest f.selections) in
    opens_behind n ts a b is (opens_token _ f.at a (λ d. refl) r)
    (opens_behind n b a1 b1 is1 (fragment_name_opens f.name a1 r1)
    (opens_behind n b1 a2 b2 is2 (condition_opens f.cond a2 r2)
    (opens_both (directives_nest f.directives) (set_nest f.selections) b2 a3 b3 is3 (directives_open false f.directives a3 r3) (selection_set_opens at f.selections b3 r4))))

pub document_opens : (d : DocumentTree) (ts : List Token) → IsDocument d ts → Opens (document_nest d) ts
document_opens [] ts r = absurd r
document_opens (d ∷ ds) ts r = each_opens IsDefinition definition_nest document_nest refl (λ x xs. refl) definition_opens (d ∷ ds) ts r
