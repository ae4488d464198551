-- The defaults of a parsed document are constants.
use Rattle.std.proofs.Common.{◌≡◌, refl, sym, subst, ℕ, zero, suc, List, [], ◌∷◌, true, false, Option, Some, None, inl, inr}
use Rattle.std.specs.Option.{option_map_or}
use Rattle.hq_base.specs.Lists.{Each}
use Rattle.hq_request_coerce.specs.Choice.{operation_in, operation_at}
use Rattle.hq_request_coerce.specs.Due.{variables_of}
use Rattle.hq_gql_lexer.specs.declared.token.Token.{Token}
use Rattle.hq_gql_parser.specs.Languages.{Each as Spells}
use Rattle.hq_gql_parser.specs.Operations.{IsDefault, IsVariable, AreVariables, IsDefinition, IsDocument}
use Rattle.hq_gql_parser.specs.Values.{IsValue}
use Rattle.hq_gql_tree.specs.Documents.{VarDefTree, DefinitionTree, operation, fragment, DocumentTree}
use Rattle.hq_gql_tree.specs.Values.{ValueTree, variable, PlacedTree}
use Rattle.hq_laws_request.specs.Built.Builds.{is_constant, has_constant}

value_constant : (v : ValueTree) (at : ℕ) (ts : List Token) → IsValue true at v ts → is_constant v ≡ true
value_constant (variable name) at ts h = let no : true ≡ false = h.0 in absurd cc
value_constant v at ts h = refl

default_constant : (o : Option PlacedTree) (ts : List Token) → IsDefault o ts → option_map_or (λ (p : PlacedTree). is_constant p.value) o true ≡ true
default_constant None ts h = refl
default_constant (Some p) ts h = value_constant p.value p.at h.1 h.4

one_constant : (v : VarDefTree) (ts : List Token) → IsVariable v ts → has_constant v ≡ true
one_constant v ts h = default_constant v.default h.4.4.4.4.0 h.4.4.4.4.3

each_constant : (vs : List VarDefTree) (ts : List Token) → Spells IsVariable vs ts → Each (λ v. has_constant v ≡ true) vs
each_constant [] ts h = tt
each_constant (v ∷ vs) ts h = (one_constant v h.0 h.3, each_constant vs h.1 h.4)

all_constant : (vs : List VarDefTree) (ts : List Token) → AreVariables vs ts → Each (λ v. has_constant v ≡ true) vs
all_constant [] ts h = tt
all_constant (v ∷ vs) ts h = let inside = h.4.3 in (one_constant v inside.0 inside.3, each_constant vs inside.1 inside.4)

definition_constant : (x : DefinitionTree) (ts : List Token) → IsDefinition x ts → Each (λ v. has_constant v ≡ true) (variables_of (operation_in x))
definition_constant (operation o) ts (inl h) = subst (λ (vs : List VarDefTree). Each (λ v. has_constant v ≡ true) vs) (sym h.2) tt
definition_constant (operation o) ts (inr h) = all_constant o.vars h.4.4.0 h.4.4.3
definition_constant (fragment f) ts h = tt

definitions_constant : (d : DocumentTree) (ts : List Token) → Spells IsDefinition d ts → (i : ℕ) → Each (λ v. has_constant v ≡ true) (variables_of (operation_at d i))
definitions_constant [] ts h i = tt
definitions_constant (x ∷ d) ts h zero = definition_constant x h.0 h.3
definitions_constant (x ∷ d) ts h (suc i) = definitions_constant d h.1 h.4 i

-- the variables of each operation
pub document_constant : (d : DocumentTree) (ts : List Token) → IsDocument d ts → (i : ℕ) → Each (λ v. has_constant v ≡ true) (variables_of (operation_at d i))
document_constant [] ts h i = absurd h
document_constant (x ∷ d) ts h zero = definition_constant x h.0 h.3
document_constant (x ∷ d) ts h (suc i) = definitions_constant d h.1 h.4 i
