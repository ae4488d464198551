-- The members of a WHERE, one after the other.
use Rattle.std.proofs.Common.{◌≡◌, ◌∙◌, List, [], ◌++◌, refl, ap}
use Rattle.hq_sql_tree.specs.Tree.{PredTree, always, never, test, negation, all_of, any_of, exists}
use Rattle.hq_translation.specs.Conditions.{with_member}

-- what stands behind a member stands behind those that follow it
pub member_behind : (p : PredTree) (ps qs : List PredTree) → with_member p ps ++ qs ≡ with_member p (ps ++ qs)
member_behind always ps qs = refl
member_behind never ps qs = refl
member_behind (test e t es) ps qs = refl
member_behind (negation p) ps qs = refl
member_behind (all_of ps) qs rs = refl
member_behind (any_of ps) qs rs = refl
member_behind (exists select) ps qs = refl

-- a second member, by the name that it has in the code
pub two_members : (all ps : List PredTree) (p q f : PredTree) → all ≡ ps ++ with_member f [] → ps ≡ with_member p [] → f ≡ q → all ≡ with_member p (with_member q [])
two_members all ps p q f is e g =
    is ∙ ap (λ (x : List PredTree). x ++ with_member f []) e ∙ member_behind p [] (with_member f []) ∙ ap (λ (x : PredTree). with_member p (with_member x [])) g

-- a third one
pub three_members : (all ps : List PredTree) (p q r f : PredTree) → all ≡ ps ++ with_member f [] → ps ≡ with_member p (with_member q []) → f ≡ r
    → all ≡ with_member p (with_member q (with_member r []))
three_members all ps p q r f is e g =
    is ∙ ap (λ (x : List PredTree). x ++ with_member f []) e ∙ member_behind p (with_member q []) (with_member f [])
    ∙ ap (with_member p) (member_behind q [] (with_member f [])) ∙ ap (λ (x : PredTree). with_member p (with_member q (with_member x []))) g
