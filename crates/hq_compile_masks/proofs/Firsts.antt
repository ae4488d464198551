-- The parts of a first row behind a relationship, by the names that they have in the code.
use Rattle.std.proofs.Common.{◌≡◌, ℕ, ◌+◌, List, [], refl, subst}
use Rattle.hq_model.specs.Schema.{Schema, table, rel}
use Rattle.hq_sql_tree.specs.Tree.{JoinTree, PredTree}
use Rattle.hq_translation.specs.Conditions.{with_member}
use Rattle.hq_translation.specs.Masks.{extra, masks, shown_look, filter_predicate}
use Rattle.hq_translation.specs.Predicates.{link}
use Rattle.hq_translation.specs.GrantedTables.{GrantedTables}
use Rattle.hq_translation.specs.Selects.{filter_from}
use Rattle.hq_compile_tables.specs.Shown.{look_in}
use Rattle.hq_compile_tables.specs.declared.shown.MaskPlace.{MaskPlace}

module _ (s : Schema) (g : GrantedTables) (cs : List ℕ) (v u n next : ℕ) (v-is : v ≡ u) (n-is : n ≡ next) where
  -- the joins of masks, at the table and the number that the row has
  pub joins_at : (js : List JoinTree) → js ≡ masks s g v cs n → js ≡ masks s g u cs next
  joins_at js is = subst (λ (k : ℕ). js ≡ masks s g u cs k) n-is (subst (λ (w : ℕ). js ≡ masks s g w cs n) v-is is)

  -- where they show its columns
  pub looks_at : (places : List MaskPlace) → look_in places (table s v).columns n ≡ shown_look s g v cs n → look_in places (table s u).columns next ≡ shown_look s g u cs next
  looks_at places is =
      subst (λ (k : ℕ). look_in places (table s u).columns k ≡ shown_look s g u cs k) n-is (subst (λ (w : ℕ). look_in places (table s w).columns n ≡ shown_look s g w cs n) v-is is)

  -- the first number behind those joins
  pub filter_at : (j m : ℕ) → m ≡ j + extra s g v cs → j ≡ n + 1 → m ≡ filter_from s g u cs next
  filter_at j m m-is j-is = subst (λ (k : ℕ). m ≡ k + 1 + extra s g u cs) n-is (subst (λ (w : ℕ). m ≡ n + 1 + extra s g w cs) v-is (subst (λ (i : ℕ). m ≡ i + extra s g v cs) j-is m-is))

-- what the row meets, at its number
pub linked_at : (s : Schema) (g : GrantedTables) (t p r n m next : ℕ) (from : ℕ) (ps : List PredTree)
    → ps ≡ with_member (link s t (rel s t r) p n) (with_member (filter_predicate s g (rel s t r).remote n m) []) → n ≡ next → m ≡ from
    → ps ≡ with_member (link s t (rel s t r) p next) (with_member (filter_predicate s g (rel s t r).remote next from) [])
linked_at s g t p r n m next from ps is n-is m-is = rw (is, n-is, m-is) refl
