-- The join of the first relationship of a sort key, put together from its parts.
use Rattle.std.proofs.Common.{◌≡◌, ◌∙◌, ℕ, ◌-◌, ◌≤◌, List, [], ◌∷◌, ◌++◌, length, get_or, take, drop, false, refl, ap, arith}
use Rattle.std.proofs.lemmas.List.{take_all}
use Rattle.hq_model.specs.Schema.{Schema, table, rel}
use Rattle.hq_sql_tree.specs.Tree.{JoinTree, OutTree, PredTree}
use Rattle.hq_translation.specs.Conditions.{with_member, where_of}
use Rattle.hq_translation.specs.Looks.{cell_at}
use Rattle.hq_translation.specs.Masks.{value_output, masks, shown_look, filter_predicate}
use Rattle.hq_translation.specs.Names.{join_alias}
use Rattle.hq_translation.specs.Predicates.{link}
use Rattle.hq_translation.specs.GrantedTables.{GrantedTables}
use Rattle.hq_translation.specs.Selects.{filter_from, behind_filter}
use Rattle.hq_translation.specs.Sorts.{last_used, sort_place, sort_joins}
use Rattle.hq_compile_tables.specs.Selects.{first_row}
use Rattle.hq_compile_tables.specs.Shown.{look_in}
use Rattle.hq_compile_tables.specs.declared.shown.MaskPlace.{MaskPlace}

-- the first relationship and the others are all
pub first_and_rest : (rs : List ℕ) (r : ℕ) → 1 ≤ length rs → r ≡ get_or rs 0 r → r ∷ take (length rs - 1) (drop 1 rs) ≡ rs
first_and_rest [] r h e = absurd (omega (arith, h))
first_and_rest (q ∷ rs) r h e = ap (λ (qs : List ℕ). r ∷ qs) (take_all (length (q ∷ rs) - 1) rs (omega arith)) ∙ ap (λ (k : ℕ). k ∷ rs) e

module _ (s : Schema) (g : GrantedTables) (t p r c next : ℕ) (rest : List ℕ) where
  -- the parts by the names that they have in the code
  pub step_of : (v n m : ℕ) (cs : List ℕ) (places : List MaskPlace) (all joins inner : List JoinTree) (members : List PredTree) (outs : List OutTree)
      → all ≡ record { select = first_row s v n outs (joins ++ inner) (where_of members); alias = join_alias n } ∷ []
      → inner ≡ sort_joins rest s g v n m c
      → outs ≡ value_output (cell_at (sort_place false rest s (look_in places (table s v).columns n) v n m c))
      → v ≡ (rel s t r).remote → n ≡ next → m ≡ behind_filter s g (rel s t r).remote cs next
      → look_in places (table s (rel s t r).remote).columns next ≡ shown_look s g (rel s t r).remote cs next → joins ≡ masks s g (rel s t r).remote cs next
      → members ≡ with_member (link s t (rel s t r) p next) (with_member (filter_predicate s g (rel s t r).remote next (filter_from s g (rel s t r).remote cs next)) [])
      → cs ≡ last_used rest c
      → all ≡ sort_joins (r ∷ rest) s g t p next c
  step_of v n m cs places all joins inner members outs is inner-is outs-is v-is n-is m-is look-is joins-is members-is cs-is =
      rw (is, inner-is, outs-is, v-is, n-is, m-is, look-is, joins-is, members-is, cs-is) refl
