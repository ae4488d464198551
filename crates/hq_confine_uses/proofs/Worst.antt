-- The worst fault of lists that stand one behind the other, and of a list that is gone over.
use Rattle.std.proofs.Common.{◌≡◌, ◌∙◌, ℕ, ◌≤◌, List, [], ◌∷◌, ◌++◌, Bool, true, false, cond, Option, Some, None, refl, sym, ap, drop, length, arith}
use Rattle.std.specs.Prelude.{nat_lt}
use Rattle.std.proofs.lemmas.Bool.Decides.{nat_tests}
use Rattle.std.proofs.lemmas.List.{at_drop_all}
use Rattle.hq_confine_rules.specs.Faults.{worse, worst}
use Rattle.hq_confine_rules.specs.Uses.{Fault}

-- nothing is no worse
pub worse_none : (a : Option Fault) → worse a None ≡ a
worse_none None = refl
worse_none (Some a) = refl

by_tests : (a b c : Fault) (p q : Bool) → nat_lt b.rule a.rule ≡ p → nat_lt c.rule b.rule ≡ q → worse (cond p (Some b) (Some a)) (Some c) ≡ worse (Some a) (cond q (Some c) (Some b))
by_tests a b c true true h k = let r : nat_lt c.rule a.rule ≡ true = grind (arith, nat_tests) in rw (k, r) refl
by_tests a b c true false h k = rw (k, h) refl
by_tests a b c false true h k = refl
by_tests a b c false false h k = let r : nat_lt c.rule a.rule ≡ false = grind (arith, nat_tests) in rw (r, h) refl

-- of three faults the worst one is the same, whichever two are compared first
pub worse_assoc : (a b c : Option Fault) → worse (worse a b) c ≡ worse a (worse b c)
worse_assoc None b c = refl
worse_assoc (Some a) None c = refl
worse_assoc (Some a) (Some b) None = worse_none (worse (Some a) (Some b))
worse_assoc (Some a) (Some b) (Some c) = by_tests a b c (nat_lt b.rule a.rule) (nat_lt c.rule b.rule) refl refl

-- the worst of two lists
pub worst_append : (xs ys : List Fault) → worst (xs ++ ys) ≡ worse (worst xs) (worst ys)
worst_append [] ys = refl
worst_append (x ∷ xs) ys = ap (worse (Some x)) (worst_append xs ys) ∙ sym (worse_assoc (Some x) (worst xs) (worst ys))

-- what is found of a list that is gone over, and then what is left: one piece more
pub worse_more : (before after : Option Fault) (piece rest left : List Fault) (whole : Option Fault)
    → left ≡ piece ++ rest → after ≡ worse before (worst piece) → worse before (worst left) ≡ whole → worse after (worst rest) ≡ whole
worse_more before after piece rest left whole split grows so_far =
    ap (λ a. worse a (worst rest)) grows ∙ worse_assoc before (worst piece) (worst rest) ∙ ap (worse before) (sym (worst_append piece rest) ∙ ap worst (sym split)) ∙ so_far

-- and at its end
pub worse_end : {A : Type 0} (F : List A → List Fault) (xs : List A) (i : ℕ) (found whole : Option Fault) → F [] ≡ [] → length xs ≤ i → worse found (worst (F (drop i xs))) ≡ whole → found ≡ whole
worse_end F xs i found whole none over so_far = sym (worse_none found) ∙ ap (λ l. worse found (worst l)) (sym (at_drop_all F xs i over ∙ none)) ∙ so_far

-- the faults of two parts
pub worst_of_two : (a b : Option Fault) (xs ys : List Fault) → a ≡ worst xs → b ≡ worst ys → worse a b ≡ worst (xs ++ ys)
worst_of_two a b xs ys h k = ap (λ v. worse v b) h ∙ ap (worse (worst xs)) k ∙ sym (worst_append xs ys)
