-- The conjuncts of a scan's filter and of a link are exempt, and those of a mask make its join.
use Rattle.std.proofs.Common.{◌≡◌, ℕ, zero, suc, ◌+◌, ◌<◌, List, [], ◌∷◌, ◌++◌, length, Bool, true, false, ◌||◌, refl, ap, subst, arith}
use Rattle.std.specs.Prelude.{slice_index_or}
use Rattle.std.specs.List.{list_all, list_any}
use Rattle.hq_base.specs.Lists.{Each, Zip}
use Rattle.hq_model.specs.Schema.{no_rel}
use Rattle.hq_model.specs.declared.meta.Pair.{Pair}
use Rattle.hq_model.specs.declared.meta.Rel.{Rel}
use Rattle.hq_model.specs.declared.table.Column.{Column}
use Rattle.hq_model.specs.declared.op.Op.TheVariants.{Eq}
use Rattle.hq_model.specs.declared.test.Test.TheVariants.{Compare}
use Rattle.hq_sql_tree.specs.Tree as tree
use Rattle.hq_sql_tree.specs.Tree.{PredTree, preds_of}
use Rattle.hq_translation.specs.Conditions.{joined_by_and}
use Rattle.hq_translation.specs.Looks.{own_look, compared_at}
use Rattle.hq_translation.specs.Names.{table_alias}
use Rattle.hq_translation.specs.Predicates.{link_members}
use Rattle.hq_confine_rules.specs.Conjuncts.{opened, all_opened}
use Rattle.hq_confine_rules.specs.Members.{is_written, is_one_of, stand_among}
use Rattle.hq_confine_rules.proofs.Renaming.{Alike}

pub or_right : (a b : Bool) → b ≡ true → (a || b) ≡ true
or_right true b h = refl
or_right false b h = h

pub or_left : (a b : Bool) → a ≡ true → (a || b) ≡ true
or_left true b h = refl
or_left false b h = absurd cc

pub any_right : (p : PredTree → Bool) (xs ys : List PredTree) → list_any p ys ≡ true → list_any p (xs ++ ys) ≡ true
any_right p [] ys h = h
any_right p (x ∷ xs) ys h = or_right (p x) (list_any p (xs ++ ys)) (any_right p xs ys h)

any_left : (p : PredTree → Bool) (xs ys : List PredTree) → list_any p xs ≡ true → list_any p (xs ++ ys) ≡ true
any_left p [] ys h = absurd cc
any_left p (x ∷ xs) ys h =
    let go : (b : Bool) → (b || list_any p xs) ≡ true → (b || list_any p (xs ++ ys)) ≡ true = elim [ true ↦ λ k. refl | false ↦ λ k. any_left p xs ys k ] in
    go (p x) h

shift : (xs : List PredTree) (q : PredTree) (ys : List PredTree) → (xs ++ (q ∷ [])) ++ ys ≡ xs ++ (q ∷ ys)
shift [] q ys = refl
shift (x ∷ xs) q ys = ap (λ l. x ∷ l) (shift xs q ys)

-- ---- members of filters and masks, at an alias

module _ (alias : List ℕ) where
  abbrev At : PredTree → PredTree → Type 0
  At = Alike ((table_alias 0, alias) ∷ [])

  among_one : (o : PredTree) (xs qs ys : List PredTree) (q : PredTree) → is_written alias o q ≡ true → list_any (is_written alias o) (xs ++ ((q ∷ qs) ++ ys)) ≡ true
  among_one o xs qs ys q h = any_right (is_written alias o) xs ((q ∷ qs) ++ ys) (or_left (is_written alias o q) (list_any (is_written alias o) (qs ++ ys)) h)

  -- all of them stand among the conjuncts
  pub all_among : (os qs xs ys : List PredTree) → Zip At os qs → stand_among (xs ++ (qs ++ ys)) os alias ≡ true
  all_among [] qs xs ys z = refl
  all_among (o ∷ os) [] xs ys z = absurd z
  all_among (o ∷ os) (q ∷ qs) xs ys z =
      let later : stand_among (xs ++ ((q ∷ qs) ++ ys)) os alias ≡ true = subst (λ l. stand_among l os alias ≡ true) (shift xs q (qs ++ ys)) (all_among os qs (xs ++ (q ∷ [])) ys z.1) in
      rw (among_one o xs qs ys q z.0) later

  one_of_more : (o : PredTree) (os : List PredTree) (q : PredTree) → is_one_of os alias q ≡ true → is_one_of (o ∷ os) alias q ≡ true
  one_of_more o os q h = or_right (is_written alias o q) (is_one_of os alias q) h

  more_each : (o : PredTree) (os : List PredTree) (qs : List PredTree) → Each (λ q. is_one_of os alias q ≡ true) qs → Each (λ q. is_one_of (o ∷ os) alias q ≡ true) qs
  more_each o os [] h = tt
  more_each o os (q ∷ qs) h = (one_of_more o os q h.0, more_each o os qs h.1)

  -- and each of those is one of them
  pub each_one_of : (os qs : List PredTree) → Zip At os qs → Each (λ q. is_one_of os alias q ≡ true) qs
  each_one_of [] [] z = tt
  each_one_of [] (q ∷ qs) z = absurd z
  each_one_of (o ∷ os) [] z = absurd z
  each_one_of (o ∷ os) (q ∷ qs) z = (or_left (is_written alias o q) (is_one_of os alias q) z.0, more_each o os qs (each_one_of os qs z.1))

  pub all_one_of : (os qs : List PredTree) → Each (λ q. is_one_of os alias q ≡ true) qs → list_all (is_one_of os alias) (qs ++ []) ≡ true
  all_one_of os [] h = refl
  all_one_of os (q ∷ qs) h = rw h.0 (all_one_of os qs h.1)

-- ---- links

pub any_pair : (p : Pair → Bool) (xs ys : List Pair) (x : Pair) → p x ≡ true → list_any p (xs ++ (x ∷ ys)) ≡ true
any_pair p [] ys x h = or_left (p x) (list_any p ys) h
any_pair p (z ∷ xs) ys x h = or_right (p z) (list_any p (xs ++ (x ∷ ys))) (any_pair p xs ys x h)

pub any_rel : (p : Rel → Bool) (rs : List Rel) (r : ℕ) → r < length rs → p (slice_index_or rs r no_rel) ≡ true → list_any p rs ≡ true
any_rel p [] r lt h = absurd (omega arith)
any_rel p (x ∷ rs) zero lt h = or_left (p x) (list_any p rs) h
any_rel p (x ∷ rs) (suc r) lt h = or_right (p x) (list_any p rs) (any_rel p rs r (omega arith) h)

opened_link : (columns remote : List Column) (p q : ℕ) (xs : List Pair) → all_opened (preds_of (link_members columns remote p q xs)) ≡ link_members columns remote p q xs
opened_link columns remote p q [] = refl
opened_link columns remote p q (x ∷ xs) =
    ap
    (λ l. tree.test (compared_at remote (own_look remote q x.remote) x.remote) (Compare Eq)
    (compared_at columns (own_look columns p x.own) x.own ∷ [])
    ∷ l)
    (opened_link columns remote p q xs)

-- the conjuncts of a link are its equations
pub link_opened : (columns remote : List Column) (p q : ℕ) (xs : List Pair) → opened (joined_by_and (link_members columns remote p q xs)) ≡ link_members columns remote p q xs
link_opened columns remote p q [] = refl
link_opened columns remote p q (x ∷ []) = refl
link_opened columns remote p q (x ∷ (y ∷ xs)) = opened_link columns remote p q (x ∷ (y ∷ xs))
