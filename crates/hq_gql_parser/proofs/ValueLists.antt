-- The elements of a list, the members of an object, and lists of these.
use Rattle.std.proofs.Common.{◌≡◌, Bool, List, [], ◌∷◌, refl, ap}
use Rattle.hq_gql_lexer.specs.declared.token.Token.{Token}
use Rattle.hq_gql_tree.specs.Values.{ElementTrees, no_element, element, MemberTrees, no_member, member, PlacedTree, ArgumentTree, elements_of, elements_in, members_of, members_in}
use Rattle.hq_gql_parser.specs.Languages.{Each}
use Rattle.hq_gql_parser.specs.Values.{IsPlaced, AreElements, IsArgument, AreMembers}

pub elements_back : (vs : ElementTrees) → elements_of (elements_in vs) ≡ vs
elements_back no_element = refl
elements_back (element at v vs) = ap (element at v) (elements_back vs)

pub members_back : (ms : MemberTrees) → members_of (members_in ms) ≡ ms
members_back no_member = refl
members_back (member at name value_at v ms) = ap (member at name value_at v) (members_back ms)

pub elements_to : (c : Bool) (vs : List PlacedTree) (ts : List Token) → Each (IsPlaced c) vs ts → AreElements c (elements_of vs) ts
elements_to c [] ts is = is
elements_to c (v ∷ vs) ts (a, b, is, r, each) = (a, b, is, r, elements_to c vs b each)

pub elements_from : (c : Bool) (vs : ElementTrees) (ts : List Token) → AreElements c vs ts → Each (IsPlaced c) (elements_in vs) ts
elements_from c no_element ts is = is
elements_from c (element at v vs) ts (a, b, is, r, more) = (a, b, is, r, elements_from c vs b more)

pub members_to : (c : Bool) (ms : List ArgumentTree) (ts : List Token) → Each (IsArgument c) ms ts → AreMembers c (members_of ms) ts
members_to c [] ts is = is
members_to c (m ∷ ms) ts (a, b, is, r, each) = (a, b, is, r, members_to c ms b each)

pub members_from : (c : Bool) (ms : MemberTrees) (ts : List Token) → AreMembers c ms ts → Each (IsArgument c) (members_in ms) ts
members_from c no_member ts is = is
members_from c (member at name value_at v ms) ts (a, b, is, r, more) = (a, b, is, r, members_from c ms b more)
