-- The laws of the parsers of operations, fragments and documents.
use Rattle.std.proofs.Common.{◌≡◌, ℕ, inl, inr, true, false, not, ◌&&◌, ◌||◌, List, [], ◌∷◌, Option, Some, None, refl, sym, ap, subst}
use Rattle.hq_gql_lexer.specs.declared.token.Punct.TheVariants.{Dollar, OpenParenthesis, CloseParenthesis, Colon, Equals, At}
use Rattle.hq_gql_lexer.specs.declared.token.Token.{Token}
use Rattle.hq_gql_tree.specs.declared.document.OpKind.{OpKind}
use Rattle.hq_gql_tree.specs.declared.document.OpKind.TheVariants.{Query, Mutation, Subscription}
use Rattle.hq_gql_tree.specs.Values.{PlacedTree, DirectiveTree}
use Rattle.hq_gql_tree.specs.Selections.{SelectionTrees, selections_of, selections_in}
use Rattle.hq_gql_tree.specs.Documents.{VarDefTree, DefinitionTree, operation, fragment}
use Rattle.hq_gql_parser.specs.declared.keyword.Keyword.TheVariants as keyword
use Rattle.hq_gql_parser.specs.declared.lookahead.Lookahead.TheVariants as ahead
use Rattle.hq_gql_parser.specs.Lookahead.{is_at, is_name, is_fragment_name}
use Rattle.hq_gql_parser.specs.Languages.{Language}
use Rattle.hq_gql_parser.specs.Values.{IsPlaced, AreDirectives}
use Rattle.hq_gql_parser.specs.Types.{IsType}
use Rattle.hq_gql_parser.specs.Selections.{IsFragmentName, IsCondition, IsSelectionSet}
use Rattle.hq_gql_parser.specs.Operations.{IsDefault, IsVariable, AreVariables, kind_keyword, IsSomeName, IsNamedOperation, IsDefinition, IsDocument}
use Rattle.hq_gql_parser.specs.Parsing.{until, until_punct}
use Rattle.hq_gql_parser.specs.ParsingOperations.{default_at, variable_definition_at, listed_variables_at, variables_at, some_name_at, operation_with, shorthand_at, fragment_at, definition_at, document_at}
use Rattle.hq_gql_parser.proofs.Sets.{Set, anything, is_end, union, joined, subset, subset_anything}
use Rattle.hq_gql_parser.proofs.Exact.{Exact, Chain, exact_then}
use Rattle.hq_gql_parser.proofs.Choices.{Only, exact_pure, Mapped, exact_map, Either, exact_either, exact_as}
use Rattle.hq_gql_parser.proofs.Items.{AtLeastOne, exact_some}
use Rattle.hq_gql_parser.proofs.TokenLaws.{PunctAt, exact_punct, NameAt, exact_name, WordAt, exact_keyword, exact_fragment_name}
use Rattle.hq_gql_parser.proofs.ValueLaws.{is_value, law_value}
use Rattle.hq_gql_parser.proofs.DirectiveLaws.{is_parenthesis, no_parenthesis, ListedIs, listed_to, listed_from, no_directive, law_directives}
use Rattle.hq_gql_parser.proofs.TypeLaws.{no_exclamation, law_type}
use Rattle.hq_gql_parser.proofs.SelectionLaws.{selections_back, law_condition, SetIs, is_set, law_set}

-- ---- default values

abbrev is_equals : Set
is_equals = is_at (ahead.Punct Equals)

abbrev no_equals : Set
no_equals = until_punct Equals

abbrev SomeDefaultIs : Option PlacedTree → Language
SomeDefaultIs = Chain (PunctAt Equals) (λ e. Mapped (λ v. Some v) (IsPlaced true))

default_to : (x : Option PlacedTree) (ts : List Token) → Either SomeDefaultIs (Only None) x ts → IsDefault x ts
default_to x ts (inl (e, (a, b, is, r, (v, same, r')))) = subst (λ w. IsDefault w ts) (sym same) (a, b, is, (e, r), r')
default_to x ts (inr (same, is)) = subst (λ w. IsDefault w ts) (sym same) is

default_from : (x : Option PlacedTree) (ts : List Token) → IsDefault x ts → Either SomeDefaultIs (Only None) x ts
default_from None ts is = inr (refl, is)
default_from (Some v) ts (a, b, is, (e, r), r') = inl (e, (a, b, is, r, (v, refl, r')))

law_default : (n : ℕ) → Exact n n (default_at n) IsDefault (union is_equals is_end) no_equals
unfolding default_at is_at
law_default n =
    exact_as IsDefault (union is_equals is_end) no_equals
    (exact_either is_equals
    (exact_as SomeDefaultIs is_equals no_equals
    (exact_then (exact_punct Equals n n refl)
    (λ e. exact_map (λ v. Some v)
    (exact_as (IsPlaced true) anything anything (law_value true n) (λ v ts r. r) (λ v ts r. r) (subset_anything is_value) refl))
    refl)
    (λ v ts r. r) (λ v ts r. r) refl refl)
    (exact_as (Only None) is_end no_equals (exact_pure n None) (λ v ts r. r) (λ v ts r. r) refl refl) refl refl)
    default_to default_from refl refl

-- ---- definitions of variables

-- what may follow the definition of a variable
abbrev after_variable : Set
after_variable a = (no_exclamation a && no_equals a) && no_directive a

abbrev VariableIs : VarDefTree → Language
VariableIs =
    Chain (PunctAt Dollar) (λ o. Chain NameAt (λ m. Chain (PunctAt Colon) (λ e. Chain IsType (λ t. Chain IsDefault
    (λ v. Mapped (λ ds. record { at = o; name = m.1; ty = t; default = v; directives = ds }) (AreDirectives true))))))

variable_to : (x : VarDefTree) (ts : List Token) → VariableIs x ts → IsVariable x ts
variable_to x ts (o, (a, b, is, r, (m, (a1, b1, is1, r1, (e, (a2, b2, is2, r2, (t, (a3, b3, is3, r3, (v, (a4, b4, is4, r4, (ds, same, r5))))))))))) =
    subst (λ w. IsVariable w ts) (sym same) (a, b, is, r, (a1, b1, is1, (m.0, r1), (a2, b2, is2, (e, r2), (a3, b3, is3, r3, (a4, b4, is4, r4, r5)))))

variable_from : (x : VarDefTree) (ts : List Token) → IsVariable x ts → VariableIs x ts
variable_from x ts (a, b, is, r, (a1, b1, is1, (place, r1), (a2, b2, is2, (e, r2), (a3, b3, is3, r3, (a4, b4, is4, r4, r5))))) =
    (x.at, (a, b, is, r, ((place, x.name), (a1, b1, is1, r1, (e, (a2, b2, is2, r2, (x.ty, (a3, b3, is3, r3, (x.default, (a4, b4, is4, r4, (x.directives, refl, r5)))))))))))

pub law_variable : (n : ℕ) → Exact n n (variable_definition_at n) IsVariable (is_at (ahead.Punct Dollar)) after_variable
unfolding variable_definition_at is_at is_name
law_variable n =
    exact_as IsVariable (is_at (ahead.Punct Dollar)) after_variable
    (exact_then (exact_punct Dollar n n refl) (λ o. exact_then (exact_name n) (λ m. exact_then (exact_punct Colon n n refl) (λ e. exact_then (law_type n) (λ t. exact_then (law_default n)
    (λ v. exact_map (λ ds. record { at = o; name = m.1; ty = t; default = v; directives = ds })
    (exact_as (AreDirectives true) (union (is_at (ahead.Punct At)) is_end) after_variable (law_directives true n) (λ v ts r. r) (λ v ts r. r) refl refl)) refl) refl) refl) refl) refl)
    variable_to variable_from refl refl

law_listed : (n : ℕ) → Exact n n (listed_variables_at n) (ListedIs IsVariable) is_parenthesis no_parenthesis
unfolding listed_variables_at is_at
law_listed n =
    exact_as (ListedIs IsVariable) is_parenthesis no_parenthesis
    (exact_then (exact_punct OpenParenthesis n n refl)
    (λ o. exact_then (exact_some (law_variable n) refl (until_punct CloseParenthesis) (is_at (ahead.Punct CloseParenthesis)) refl refl refl refl refl refl)
    (λ xs. exact_map (λ e. xs) (exact_punct CloseParenthesis n n refl)) refl) refl)
    (λ v ts r. r) (λ v ts r. r) refl refl

law_variables : (n : ℕ) → Exact n n (variables_at n) AreVariables (union is_parenthesis is_end) no_parenthesis
unfolding variables_at is_at
law_variables n =
    exact_as AreVariables (union is_parenthesis is_end) no_parenthesis
    (exact_either is_parenthesis (law_listed n) (exact_as (Only []) is_end no_parenthesis (exact_pure n []) (λ v ts r. r) (λ v ts r. r) refl refl) refl refl)
    (listed_to IsVariable) (listed_from IsVariable) refl refl

-- ---- the name of an operation

abbrev no_name : Set
no_name a = not (is_name a)

some_name_to : (x : Option (List ℕ)) (ts : List Token) → Either (Mapped (λ m. Some m.1) NameAt) (Only None) x ts → IsSomeName x ts
some_name_to x ts (inl (m, same, r)) = subst (λ w. IsSomeName w ts) (sym same) (m.0, r)
some_name_to x ts (inr (same, is)) = subst (λ w. IsSomeName w ts) (sym same) is

some_name_from : (x : Option (List ℕ)) (ts : List Token) → IsSomeName x ts → Either (Mapped (λ m. Some m.1) NameAt) (Only None) x ts
some_name_from None ts is = inr (refl, is)
some_name_from (Some name) ts (place, r) = inl ((place, name), refl, r)

law_some_name : (n : ℕ) → Exact n n some_name_at IsSomeName (union is_name is_end) no_name
unfolding some_name_at is_name
law_some_name n =
    exact_as IsSomeName (union is_name is_end) no_name
    (exact_either is_name
    (exact_as (Mapped (λ m. Some m.1) NameAt) is_name no_name (exact_map (λ m. Some m.1) (exact_name n)) (λ v ts r. r) (λ v ts r. r) refl refl)
    (exact_as (Only None) is_end no_name (exact_pure n None) (λ v ts r. r) (λ v ts r. r) refl refl) refl refl)
    some_name_to some_name_from refl refl

-- ---- operations

abbrev OperationIs : OpKind → DefinitionTree → Language
OperationIs k =
    Chain (WordAt (kind_keyword k)) (λ w. Chain IsSomeName (λ m. Chain AreVariables (λ vs. Chain (AreDirectives false)
    (λ ds. Mapped (λ s. operation (record { at = w; kind = k; name = m; vars = vs; directives = ds; selections = selections_of s.1 })) SetIs))))

abbrev is_kind : OpKind → Set
is_kind k = is_at (ahead.Keyword (kind_keyword k))

law_operation : (n : ℕ) (k : OpKind) → subset (joined (is_kind k) anything) (is_kind k) ≡ true → Exact n n (operation_with n k) (OperationIs k) (is_kind k) anything
unfolding operation_with is_at is_name
law_operation n k e =
    exact_as (OperationIs k) (is_kind k) anything
    (exact_then (exact_keyword (kind_keyword k) n)
    (λ w. exact_as
    (Chain IsSomeName
    (λ m. Chain AreVariables
    (λ vs. Chain (AreDirectives false)
    (λ ds. Mapped
    (λ s. operation (record { at = w; kind = k; name = m; vars = vs; directives = ds; selections = selections_of s.1 })) SetIs))))
    anything anything
    (exact_then (law_some_name n) (λ m. exact_then (law_variables n) (λ vs. exact_then (law_directives false n)
    (λ ds. exact_map (λ s. operation (record { at = w; kind = k; name = m; vars = vs; directives = ds; selections = selections_of s.1 })) (law_set n)) refl) refl) refl)
    (λ v ts r. r) (λ v ts r. r) refl refl) refl)
    (λ v ts r. r) (λ v ts r. r) e refl

abbrev ShorthandIs : DefinitionTree → Language
ShorthandIs = Mapped (λ s. operation (record { at = s.0; kind = Query; name = None; vars = []; directives = []; selections = selections_of s.1 })) SetIs

law_shorthand : (n : ℕ) → Exact n n (shorthand_at n) ShorthandIs is_set anything
unfolding shorthand_at
law_shorthand n = exact_map (λ s. operation (record { at = s.0; kind = Query; name = None; vars = []; directives = []; selections = selections_of s.1 })) (law_set n)

-- ---- fragments

abbrev is_fragment : Set
is_fragment = is_at (ahead.Keyword keyword.Fragment)

abbrev FragmentIs : DefinitionTree → Language
FragmentIs =
    Chain (WordAt keyword.Fragment) (λ w. Chain IsFragmentName (λ m. Chain IsCondition (λ c. Chain (AreDirectives false)
    (λ ds. Mapped (λ s. fragment (record { at = w; name = m; cond = c; directives = ds; selections = selections_of s.1 })) SetIs))))

law_fragment : (n : ℕ) → Exact n n (fragment_at n) FragmentIs is_fragment anything
unfolding fragment_at is_at is_name is_fragment_name
law_fragment n =
    exact_as FragmentIs is_fragment anything
    (exact_then (exact_keyword keyword.Fragment n) (λ w. exact_then (exact_fragment_name n) (λ m. exact_then (law_condition n) (λ c. exact_then (law_directives false n)
    (λ ds. exact_map (λ s. fragment (record { at = w; name = m; cond = c; directives = ds; selections = selections_of s.1 })) (law_set n)) refl) refl) refl) refl)
    (λ v ts r. r) (λ v ts r. r) refl refl

-- ---- definitions

abbrev DefinitionIs : DefinitionTree → Language
DefinitionIs = Either ShorthandIs (Either FragmentIs (Either (OperationIs Mutation) (Either (OperationIs Subscription) (OperationIs Query))))

operation_to : (k : OpKind) (x : DefinitionTree) (ts : List Token) → OperationIs k x ts → IsDefinition x ts
operation_to k x ts (w, (a, b, is, r, (m, (a1, b1, is1, r1, (vs, (a2, b2, is2, r2, (ds, (a3, b3, is3, r3, (s, same, r4))))))))) =
    subst (λ y. IsDefinition y ts) (sym same) (inr (a, b, is, r, (a1, b1, is1, r1, (a2, b2, is2, r2, (a3, b3, is3, r3, (s.0, r4))))))

definition_to : (x : DefinitionTree) (ts : List Token) → DefinitionIs x ts → IsDefinition x ts
definition_to x ts (inl (s, same, r)) = subst (λ y. IsDefinition y ts) (sym same) (inl (refl, refl, refl, refl, r))
definition_to x ts (inr (inl (w, (a, b, is, r, (m, (a1, b1, is1, r1, (c, (a2, b2, is2, r2, (ds, (a3, b3, is3, r3, (s, same, r4))))))))))) =
    subst (λ y. IsDefinition y ts) (sym same) (a, b, is, r, (a1, b1, is1, r1, (a2, b2, is2, r2, (a3, b3, is3, r3, (s.0, r4)))))
definition_to x ts (inr (inr (inl r))) = operation_to Mutation x ts r
definition_to x ts (inr (inr (inr (inl r)))) = operation_to Subscription x ts r
definition_to x ts (inr (inr (inr (inr r)))) = operation_to Query x ts r

-- the selections of a set, as a list
set_back : (at : ℕ) (ss : SelectionTrees) (ts : List Token) → IsSelectionSet at ss ts → SetIs (at, selections_in ss) ts
set_back at ss ts r = subst (λ w. IsSelectionSet at w ts) (sym (selections_back ss)) r

operation_from : (k : OpKind) (at : ℕ) (m : Option (List ℕ)) (vs : List VarDefTree) (ds : List DirectiveTree) (ss : SelectionTrees) (ts : List Token)
    → IsNamedOperation (record { at = at; kind = k; name = m; vars = vs; directives = ds; selections = ss }) ts
    → OperationIs k (operation (record { at = at; kind = k; name = m; vars = vs; directives = ds; selections = ss })) ts
operation_from k at m vs ds ss ts (a, b, is, r, (a1, b1, is1, r1, (a2, b2, is2, r2, (a3, b3, is3, r3, (place, r4))))) = (
  at,
  (
    a,
    b,
    is,
    r,
    (
      m,
      (
        a1,
        b1,
        is1,
        r1,
        (
          vs,
          (
            a2,
            b2,
            is2,
            r2,
            (
              ds,
              (
                a3,
                b3,
                is3,
                r3,
                (
                  (place, selections_in ss),
                  ap (λ ws. operation (record { at = at; kind = k; name = m; vars = vs; directives = ds; selections = ws }))
                      (sym (selections_back ss)),
                  set_back place ss b3 r4,
                ),
              ),
            ),
          ),
        ),
      ),
    ),
  ),
)

named_from : (k : OpKind) (at : ℕ) (m : Option (List ℕ)) (vs : List VarDefTree) (ds : List DirectiveTree) (ss : SelectionTrees) (ts : List Token)
    → IsNamedOperation (record { at = at; kind = k; name = m; vars = vs; directives = ds; selections = ss }) ts
    → DefinitionIs (operation (record { at = at; kind = k; name = m; vars = vs; directives = ds; selections = ss })) ts
named_from Query at m vs ds ss ts r = inr (inr (inr (inr (operation_from Query at m vs ds ss ts r))))
named_from Mutation at m vs ds ss ts r = inr (inr (inl (operation_from Mutation at m vs ds ss ts r)))
named_from Subscription at m vs ds ss ts r = inr (inr (inr (inl (operation_from Subscription at m vs ds ss ts r))))

shorthand_from : (at : ℕ) (k : OpKind) (m : Option (List ℕ)) (vs : List VarDefTree) (ds : List DirectiveTree) (ss : SelectionTrees) (ts : List Token)
    → k ≡ Query → m ≡ None → vs ≡ [] → ds ≡ [] → IsSelectionSet at ss ts → ShorthandIs (operation (record { at = at; kind = k; name = m; vars = vs; directives = ds; selections = ss })) ts
shorthand_from at k m vs ds ss ts e1 e2 e3 e4 r =
    let same : ◌≡◌ {A = DefinitionTree} (operation (record { at = at; kind = k; name = m; vars = vs; directives = ds; selections = ss }))
    (operation (record { at = at; kind = Query; name = None; vars = []; directives = []; selections = selections_of (selections_in ss) }))
    =
    rw (e1, e2, e3, e4, selections_back ss) refl in
    ((at, selections_in ss), same, set_back at ss ts r)

definition_from : (x : DefinitionTree) (ts : List Token) → IsDefinition x ts → DefinitionIs x ts
definition_from (operation o) ts (inl (e1, e2, e3, e4, r)) = inl (shorthand_from o.at o.kind o.name o.vars o.directives o.selections ts e1 e2 e3 e4 r)
definition_from (operation o) ts (inr r) = named_from o.kind o.at o.name o.vars o.directives o.selections ts r
definition_from (fragment f) ts (a, b, is, r, (a1, b1, is1, r1, (a2, b2, is2, r2, (a3, b3, is3, r3, (place, r4))))) =
    inr
    (inl (
      f.at,
      (
        a,
        b,
        is,
        r,
        (
          f.name,
          (
            a1,
            b1,
            is1,
            r1,
            (
              f.cond,
              (
                a2,
                b2,
                is2,
                r2,
                (
                  f.directives,
                  (
                    a3,
                    b3,
                    is3,
                    r3,
                    (
                      (place, selections_in f.selections),
                      ap
                          (λ ws. fragment
                          (record { at = f.at; name = f.name; cond = f.cond; directives = f.directives; selections = ws }))
                          (sym (selections_back f.selections)),
                      set_back place f.selections b3 r4,
                    ),
                  ),
                ),
              ),
            ),
          ),
        ),
      ),
    ))

-- what a definition begins with
abbrev pub is_definition : Set
is_definition a = is_set a || (is_fragment a || (is_kind Mutation a || (is_kind Subscription a || is_kind Query a)))

pub law_definition : (n : ℕ) → Exact n n (definition_at n) IsDefinition is_definition anything
unfolding definition_at is_at
law_definition n =
    exact_as IsDefinition is_definition anything
    (exact_either is_set (law_shorthand n) (exact_either is_fragment (law_fragment n) (exact_either (is_kind Mutation) (law_operation n Mutation refl)
    (exact_either (is_kind Subscription) (law_operation n Subscription refl) (law_operation n Query refl) refl refl) refl refl) refl refl) refl refl)
    definition_to definition_from refl refl

-- ---- documents

document_to : (x : List DefinitionTree) (ts : List Token) → AtLeastOne IsDefinition x ts → IsDocument x ts
document_to [] ts r = absurd r
document_to (d ∷ ds) ts r = r

document_from : (x : List DefinitionTree) (ts : List Token) → IsDocument x ts → AtLeastOne IsDefinition x ts
document_from [] ts r = absurd r
document_from (d ∷ ds) ts r = r

pub law_document : (n : ℕ) → Exact n n (document_at n) IsDocument is_definition is_end
unfolding is_at
law_document n =
    exact_as IsDocument is_definition is_end (exact_some (law_definition n) refl (until ahead.End) is_end refl refl refl refl refl refl) document_to document_from refl refl

pub variable_takes : is_at (ahead.Punct Dollar) ahead.End ≡ false
unfolding is_at
variable_takes = refl

pub definition_takes : is_definition ahead.End ≡ false
unfolding is_at
definition_takes = refl
