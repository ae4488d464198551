-- A scan that meets rule 2 keeps permitted rows alone.
use Rattle.std.proofs.Common.{◌≡◌, ℕ, ◌+◌, ◌≤◌, ◌^◌, List, [], ◌∷◌, Bool, true, false, cond, not, ◌&&◌, ◌||◌, bytes_eq, refl, sym, ap, ◌∙◌, arith}
use Rattle.std.specs.List.{list_all, list_any}
use Rattle.std.proofs.lemmas.Bool.{and_parts}
use Rattle.hq_model.specs.Database.{Row}
use Rattle.hq_model.specs.Grants.{Grants, grant}
use Rattle.hq_model.specs.Logic.{is_true}
use Rattle.hq_model.specs.Schema.{Schema, table}
use Rattle.hq_model.specs.Seen.{all_of}
use Rattle.hq_model.specs.Truth.{keeps}
use Rattle.hq_model.specs.declared.table.Table.{Table}
use Rattle.hq_sql_tree.specs.Tree.{FilterTree, PredTree}
use Rattle.hq_sql_tree.specs.Meaning.{Scope, World, named_row, kept, truth_at, with_alias, nothing}
use Rattle.hq_translation.specs.Masks.{filter_numbers, filter_predicate}
use Rattle.hq_translation.specs.Names.{table_alias}
use Rattle.hq_translation.specs.GrantedTables.{granted_of}
use Rattle.hq_translation.proofs.Names.{same_text, equal_text, Narrow, shows_row}
use Rattle.hq_translation.proofs.Predicates.{own_means}
use Rattle.hq_translation.proofs.Sound.{Sound}
use Rattle.hq_confine_rules.specs.Conjuncts.{conjuncts}
use Rattle.hq_confine_rules.specs.Members.{filter_conjuncts, is_written, stand_among}
use Rattle.hq_confine_rules.proofs.Alike.{Related, truth_alike, is_so, true_opened, kept_conjuncts}

-- what holds of all conjuncts holds of one that is found among them
found_holds : (p q : PredTree → Bool) (b : Bool) → ((x : PredTree) → p x ≡ true → q x ≡ true → b ≡ true) → (xs : List PredTree) → list_any p xs ≡ true → list_all q xs ≡ true → b ≡ true
found_holds p q b h [] a c = cc
found_holds p q b h (x ∷ xs) a c =
    let parts = and_parts (q x) (list_all q xs) c in
    let go : (d : Bool) → p x ≡ d → (d || list_any p xs) ≡ true → b ≡ true = elim [ true ↦ λ e k. h x e parts.0 | false ↦ λ e k. found_holds p q b h xs k parts.1 ] in
    go (p x) refl a

module _ (w : World) (e f : Scope) (alias : List ℕ) (same : f (table_alias 0) ≡ e alias) where
  pub related : Related ((table_alias 0, alias) ∷ []) f e
  related a b k =
      let go : (c d : Bool) → bytes_eq (table_alias 0) a ≡ c → bytes_eq alias b ≡ d → cond c d (not d && false) ≡ true → f a ≡ e b =
      elim [
        | true ↦ elim [ true ↦ λ p q z. (let x = equal_text (table_alias 0) a p in let y = equal_text alias b q in ap f (sym x) ∙ same ∙ ap e y) | false ↦ λ p q z. cc ]
        | false ↦ elim [ true ↦ λ p q z. cc | false ↦ λ p q z. cc ]
      ] in
      go (bytes_eq (table_alias 0) a) (bytes_eq alias b) refl refl k

  all_hold : (all owns : List PredTree) → stand_among all owns alias ≡ true → list_all (is_so w e) all ≡ true → list_all (is_so w f) owns ≡ true
  all_hold all [] h k = refl
  all_hold all (o ∷ owns) h k =
      let parts = and_parts (list_any (is_written alias o) all) (stand_among all owns alias) h in
      let here : is_so w f o ≡ true =
      found_holds (is_written alias o) (is_so w e) (is_so w f o)
      (λ x a b. ap is_true (truth_alike o x ((table_alias 0, alias) ∷ []) a w f e related) ∙ b) all parts.0 k in
      rw here (all_hold all owns parts.1 k)

-- where the WHERE of a scan of t is true and its conjuncts contain those of the filter, the filter is true of the scan's row
pub only_permitted : (s : Schema) (g : Grants) (tables : List Table) (d : List (List Row)) → Sound s tables d
    → (t : ℕ) (alias : List ℕ) (c : FilterTree) → 1 + filter_numbers s (granted_of g) t ≤ 2 ^ 64
    → stand_among (conjuncts c) (filter_conjuncts s g t) alias ≡ true
    → (e : Scope) (row : Row) → Narrow s t row → e alias ≡ named_row (table s t).columns row
    → kept c (record { tables = tables; database = d }) e ≡ true → keeps (grant g t).filter s (all_of s d) t row ≡ true
only_permitted s g tables d sound t alias c bound stand e row narrow shows k =
    let w : World = record { tables = tables; database = d } in
    let f : Scope = with_alias nothing (table_alias 0) (named_row (table s t).columns row) in
    let own : f (table_alias 0) ≡ e alias = rw (same_text (table_alias 0)) (sym shows) in
    let all : list_all (is_so w e) (conjuncts c) ≡ true = sym (kept_conjuncts c w e) ∙ k in
    let P : PredTree = filter_predicate s (granted_of g) t 0 1 in
    let is : is_true (truth_at P w f) ≡ true = true_opened P w f ∙ all_hold w e f alias own (conjuncts c) (filter_conjuncts s g t) stand all in
    sym (own_means s tables d sound (grant g t).filter t 0 1 f row (omega arith) bound (shows_row s nothing t 0 row (sound.differ t) narrow)) ∙ is
