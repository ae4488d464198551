-- The members of an object are those that it was made of.
use Rattle.std.proofs.Common.{◌≡◌, ◌∙◌, ap, sym, refl, List, [], ◌∷◌, Option, Some}
use Rattle.hq_gql_tree.specs.Values.{ArgumentTree, MemberTrees, members_of, members_in}

members_back : (ms : List ArgumentTree) → members_in (members_of ms) ≡ ms
members_back [] = refl
members_back (m ∷ ms) = ap (λ more. m ∷ more) (members_back ms)

-- what a function of a list of members gives of an object that is made of them
pub of_members : {X : Type 0} (f : List ArgumentTree → X) (g : Option MemberTrees → X) (ms : List ArgumentTree) (o : Option MemberTrees)
    → ((m : MemberTrees) → g (Some m) ≡ f (members_in m)) → Some (members_of ms) ≡ o → f ms ≡ g o
of_members f g ms o same e = ap f (sym (members_back ms)) ∙ sym (same (members_of ms)) ∙ ap g e
