-- A worked request is well-formed for the role that asks it; and what is not.
use Rattle.std.specs.Prelude.{◌≡◌, [], ◌∷◌, true, false, length, nat_eq, codes, refl}
use Rattle.std.proofs.Common.{arith, ap, sym}
use Rattle.std.proofs.lemmas.Bool.{false≢true}
use Rattle.hq_base.specs.declared.value.Val.TheVariants as val
use Rattle.hq_model.specs.Bexp.{BexpTree, always, or_of, test, no_bexp, bexp}
use Rattle.hq_model.specs.declared.bexp.Operand.TheVariants.{Const}
use Rattle.hq_model.specs.declared.bexp.Operands.TheVariants as operands
use Rattle.hq_model.specs.declared.op.Op.TheVariants.{Eq}
use Rattle.hq_model.specs.declared.test.Test.TheVariants.{Compare}
use Rattle.hq_model.specs.declared.role.Role.TheVariants.{Named}
use Rattle.hq_request_tree.specs.Conditions.{fits_distinct}
use Rattle.hq_request_tree.specs.Fields.{from_table, column, list}
use Rattle.hq_request_tree.specs.Request.{AskTree}
use Rattle.hq_request_tree.specs.WellFormed.{IsRequest}
use Rattle.hq_request_tree.proofs.Blog.{tables, meta, number, only, plain, ids}
use Rattle.hq_request_tree.proofs.Worked.{by, home}

-- the articles that are published or of user 1
abbrev for_1 : BexpTree
for_1 = or_of (bexp (test 3 (Compare Eq) (operands.List (Const (val.Bool true) ∷ [])) false) (bexp (test 1 (Compare Eq) (operands.List (Const (number 1) ∷ [])) false) no_bexp))

-- a request of the role user for user 1, which touches authors first and then articles
abbrev asked_home : AskTree
asked_home = record {
  role = Named (codes "user");
  fields = home;
  bound = record { table = 0; filter = always; masks = [] } ∷ record { table = 1; filter = for_1; masks = [] } ∷ [];
}

home_is_request : IsRequest tables meta asked_home
home_is_request = record {
  uses = ((refl, (tt, (refl, tt), tt)), (refl, tt, (refl, tt, ((refl, refl, (tt, tt, tt)), ((tt, tt), tt, tt), (tt, tt, tt)))), tt);
  stand = ((tt, tt), (tt, tt, (tt, tt, ((refl, tt), (tt, tt, tt), (tt, tt, tt)))), tt);
  fit = (refl, (tt, tt, (tt, tt, (refl, (refl, tt, tt), (tt, tt, tt)))), tt);
  keys = (refl, (refl, (tt, tt, (tt, tt, (refl, ((refl, (tt, tt)), tt, tt), (tt, tt, tt)))), tt));
  named = (tt, (tt, tt, (tt, tt, (tt, ((tt, tt), tt, tt), (refl, tt, tt)))), tt);
  looks = (tt, (tt, tt, (tt, tt, (tt, (tt, tt, tt), (tt, tt, tt)))), tt);
  shallow = omega arith;
  touched = refl;
  bound = refl;
}

-- a role that may not see a column cannot ask for it
abbrev asked_email : AskTree
asked_email = record {
  role = Named (codes "user");
  fields = only (codes "author") (list (from_table 0) plain (only (codes "email") (column 2)));
  bound = record { table = 0; filter = always; masks = [] } ∷ [];
}

email_is_refused : IsRequest tables meta asked_email → ⊥
email_is_refused h = false≢true h.uses.1.0

-- without its touched table a request is none
abbrev unbound : AskTree
unbound = record { role = Named (codes "user"); fields = only (codes "author") (list (from_table 0) plain ids); bound = [] }

unbound_is_refused : IsRequest tables meta unbound → ⊥
unbound_is_refused h = false≢true (ap (λ ts. nat_eq (length ts) 0) (sym h.touched))

-- the first entries of order_by are to be the distinct columns, in any order and perhaps more than once
two_of_two : fits_distinct (4 ∷ 1 ∷ 4 ∷ []) (by 1 false false ∷ by 4 true true ∷ by 0 false false ∷ []) ≡ true
two_of_two = refl

one_of_two : fits_distinct (4 ∷ 1 ∷ []) (by 1 false false ∷ by 0 false false ∷ []) ≡ false
one_of_two = refl

too_few : fits_distinct (4 ∷ 1 ∷ []) (by 4 false false ∷ []) ≡ false
too_few = refl

no_entry : fits_distinct (4 ∷ 1 ∷ []) [] ≡ true
no_entry = refl
