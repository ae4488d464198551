-- What several permissions permit together has the larger limit of them; a permission has a column.
use Rattle.std.proofs.Common.{◌≡◌, ◌∙◌, refl, sym, ap, ℕ, suc, ◌+◌, arith, ◌&&◌, List, [], ◌∷◌, ◌++◌, filter, find, Bool, true, false, cond, ◌||◌, Option, Some, None, bytes_eq}
use Rattle.std.specs.Prelude.{◌==◌, option_and_then}
use Rattle.std.specs.List.{list_any}
use Rattle.std.proofs.lemmas.Bool.{eq-eqb}
use Rattle.hq_base.specs.Lists.{firsts}
use Rattle.hq_model.specs.Bexp.{always}
use Rattle.hq_model.specs.Meta.{PermTree, TrackedTree}
use Rattle.hq_model.specs.Names.{is_free_name}
use Rattle.hq_model.specs.Permission.{Permission, named_from, named_columns, with_columns, admin_permission, told_permission, own_permission, option_list, permissions_of, either, permits, filters_of, larger, largest, limit_of, some_aggregate, masks_for, columns_of_any, combined}
use Rattle.hq_model_limits.specs.Limits.{limit_under, limits_of, together}
use Rattle.hq_model_limits.proofs.Joined.{together_assoc, once}

-- ---- columns

or_true : (b : Bool) → (b || true) ≡ true
or_true true = refl
or_true false = refl

-- the first of the columns with a name that are among some
pub one_name : (f : ℕ → Bool) (n : List ℕ) (k : ℕ) (ns : List (List ℕ)) → list_any f (named_from k (n ∷ ns)) ≡ ((is_free_name n && f k) || list_any f (named_from (k + 1) ns))
one_name f n k ns =
    let by : (b : Bool) → list_any f (cond b (k ∷ named_from (suc k) ns) (named_from (suc k) ns)) ≡ ((b && f k) || list_any f (named_from (suc k) ns)) = elim [ true ↦ refl | false ↦ refl ] in
    let more : suc k ≡ k + 1 = omega arith in
    by (is_free_name n) ∙ ap (λ m. (is_free_name n && f k) || list_any f (named_from m ns)) more

-- a permission with some columns has its limit where a column passes a test
limit_where : (p : Permission) (test : ℕ → Bool) (cs : List ℕ) → limit_under (with_columns p (filter test cs)) ≡ cond (list_any test cs) (Some p.limit) None
limit_where p test [] = refl
limit_where p test (c ∷ cs) =
    let by : (b : Bool)
    → limit_under (with_columns p (cond b (c ∷ filter test cs) (filter test cs))) ≡ cond (b || list_any test cs) (Some p.limit) None =
    elim [ true ↦ refl | false ↦ limit_where p test cs ] in
    by (test c)

limit_with : (p : Permission) (cs : List ℕ) → limit_under (with_columns p cs) ≡ cond (list_any (λ c. true) cs) (Some p.limit) None
limit_with p [] = refl
limit_with p (c ∷ cs) = refl

-- the limit of admin
pub admin_limit : (k : TrackedTree) → limit_under (admin_permission k) ≡ cond (list_any (λ c. true) (named_columns k)) (Some None) None
admin_limit k = limit_with (record { columns = []; filter = always; limit = None; aggregations = true; masks = [] }) (named_columns k)

-- that of a role's entry
pub told_limit : (k : TrackedTree) (p : PermTree) → limit_under (told_permission k p) ≡ cond (list_any (λ c. list_any (λ d. d == c) p.cols) (named_columns k)) (Some p.limit) None
told_limit k p = limit_where (record { columns = []; filter = p.filter; limit = p.limit; aggregations = p.aggregations; masks = [] }) (λ c. list_any (λ d. d == c) p.cols) (named_columns k)

-- a column that passes one test passes another
some_other : (f g : ℕ → Bool) → ((c : ℕ) → g c ≡ true → f c ≡ true) → (cs : List ℕ) → list_any g cs ≡ true → list_any f cs ≡ true
some_other f g all [] h = h
some_other f g all (c ∷ cs) h =
    let by : (b : Bool) → g c ≡ b → (b || list_any g cs) ≡ true → (f c || list_any f cs) ≡ true = elim [
      | true ↦ λ is e. ap (λ a. a || list_any f cs) (all c is)
      | false ↦ λ is e. ap (λ a. f c || a) (some_other f g all cs e) ∙ or_true (f c)
    ] in
    by (g c) refl h

no_column : (cs : List ℕ) → list_any (λ c. false) cs ≡ false
no_column [] = refl
no_column (c ∷ cs) = no_column cs

-- what passes a test and is first of those that do
first_of : (f test : ℕ → Bool) (c : ℕ) (rest cs : List ℕ) → filter test cs ≡ c ∷ rest → f c ≡ true → list_any f cs ≡ true
first_of f test c rest [] e h = cc
first_of f test c rest (d ∷ cs) e h =
    let by : (b : Bool) → cond b (d ∷ filter test cs) (filter test cs) ≡ c ∷ rest → (f d || list_any f cs) ≡ true = elim [
      | true ↦ λ is. let same : d ≡ c = cc in ap (λ x. f x || list_any f cs) same ∙ ap (λ a. a || list_any f cs) h
      | false ↦ λ is. ap (λ a. f d || a) (first_of f test c rest cs is h) ∙ or_true (f d)
    ] in
    by (test d) e

module _ (k : TrackedTree) where
  -- a named column of the table is one of the permission
  abbrev IsSeen : Permission → Type 0
  IsSeen p = list_any (λ c. permits c p) (named_columns k) ≡ true

  seen_with : (p q : Permission) (test : ℕ → Bool) → with_columns p (filter test (named_columns k)) ≡ Some q → IsSeen q
  seen_with p q test e = by (filter test (named_columns k)) refl e
    where
      by : (cs : List ℕ) → filter test (named_columns k) ≡ cs → with_columns p cs ≡ Some q → IsSeen q
      by [] is f = cc
      by (c ∷ cs) is f =
          let same : record p { columns = c ∷ cs } ≡ q = cc in
          let has : permits c q ≡ true = ap (permits c) (sym same) ∙ ap (λ b. b || list_any (λ d. d == c) cs) (eq-eqb c c refl) in
          first_of (λ d. permits d q) test c cs (named_columns k) is has

  own_seen : (name : List ℕ) (q : Permission) → own_permission k name ≡ Some q → IsSeen q
  own_seen name q e = by (find (λ p. bytes_eq p.role name) k.perms) e
    where
      by : (o : Option PermTree) → option_and_then (told_permission k) o ≡ Some q → IsSeen q
      by None f = cc
      by (Some p) f = seen_with (record { columns = []; filter = p.filter; limit = p.limit; aggregations = p.aggregations; masks = [] }) q (λ c. list_any (λ d. d == c) p.cols) f

  -- ---- several permissions

  -- the limits of permissions one after the other
  abbrev limits_in : List Permission → Option (Option ℕ)
  limits_in [] = None
  limits_in (p ∷ ps) = together (Some p.limit) (limits_in ps)

  limits_largest : (a : Option ℕ) (ps : List Permission) → together (Some a) (limits_in ps) ≡ Some (largest a ps)
  limits_largest a [] = refl
  limits_largest a (p ∷ ps) = sym (together_assoc (Some a) (Some p.limit) (limits_in ps)) ∙ limits_largest (larger a p.limit) ps

  limits_permitted : (rs : List (List ℕ)) → limits_in (permissions_of k rs) ≡ limits_of k rs
  limits_permitted [] = refl
  limits_permitted (r ∷ rs) =
      let by : (o : Option Permission) → limits_in (option_list o ++ permissions_of k rs) ≡ together (limit_under o) (limits_of k rs) =
      elim [ None ↦ limits_permitted rs | Some p ↦ ap (together (Some p.limit)) (limits_permitted rs) ] in
      by (own_permission k r)

  -- the limit of what permissions permit together
  limit_combined : (ps : List Permission) → limit_under (combined k ps) ≡ cond (list_any (λ c. list_any (permits c) ps) (named_columns k)) (Some (limit_of ps)) None
  limit_combined ps =
      limit_where (record { columns = []; filter = either (filters_of ps); limit = limit_of ps; aggregations = some_aggregate ps; masks = masks_for ps (columns_of_any k ps) })
      (λ c. list_any (permits c) ps) (named_columns k)

  -- of permissions of which the first has a column
  limit_seen : (p : Permission) (ps : List Permission) → IsSeen p → limit_under (combined k (p ∷ ps)) ≡ limits_in (p ∷ ps)
  limit_seen p ps h =
      let some : list_any (λ c. list_any (permits c) (p ∷ ps)) (named_columns k) ≡ true =
      some_other (λ c. list_any (permits c) (p ∷ ps)) (λ c. permits c p) (λ c e. ap (λ b. b || list_any (permits c) ps) e) (named_columns k) h in
      limit_combined (p ∷ ps) ∙ ap (λ b. cond b (Some (limit_of (p ∷ ps))) None) some ∙ sym (limits_largest p.limit ps)

  limit_permitted : (rs : List (List ℕ)) → limit_under (combined k (permissions_of k rs)) ≡ limits_in (permissions_of k rs)
  limit_permitted [] = limit_combined [] ∙ ap (λ b. cond b (Some (limit_of [])) None) (no_column (named_columns k))
  limit_permitted (r ∷ rs) =
      let by : (o : Option Permission) → own_permission k r ≡ o → limit_under (combined k (option_list o ++ permissions_of k rs)) ≡ limits_in (option_list o ++ permissions_of k rs) =
      elim [ None ↦ λ is. limit_permitted rs | Some p ↦ λ is. limit_seen p (permissions_of k rs) (own_seen r p is) ] in
      by (own_permission k r) refl

  -- the limit of the roles of a set, each as often as it is named
  pub limit_together : (set : List (List ℕ)) → limits_of k set ≡ limit_under (combined k (permissions_of k (firsts bytes_eq set)))
  limit_together set = sym (limit_permitted (firsts bytes_eq set) ∙ limits_permitted (firsts bytes_eq set) ∙ once k set)
