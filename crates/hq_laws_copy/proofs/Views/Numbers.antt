-- The numbers of a copy are different ones.
use Rattle.std.proofs.Common.{◌≡◌, ℕ, ◌+◌, List, true, ◌==◌, Option, Some, sym, ap, ◌∙◌, subst, arith, is_some, slice_get}
use Rattle.std.proofs.lemmas.Bool.{and_parts}
use Rattle.std.specs.List.{list_any}
use Rattle.hq_model.specs.Meta.{MetaTree, TrackedTree}
use Rattle.hq_model.specs.Permission.{permission}
use Rattle.hq_model.specs.Schema.{Schema, table, rel, no_rel}
use Rattle.hq_model.specs.declared.role.Role.{Role}
use Rattle.hq_model.proofs.Places.{present}
use Rattle.hq_request_tree.specs.Allowed.{allowed_to}
use Rattle.hq_copy_definition.specs.Sources.{Source, sources, table_place, place_in, kept_relationships}
use Rattle.hq_copy_definition.proofs.BySource.{something}
use Rattle.hq_copy_definition.proofs.Found.{StandsFor, stands_for}
use Rattle.hq_copy_definition.proofs.Places.{place_holds, kept_there}
use Rattle.hq_laws_renumbered.specs.Resolving.Renumbering.{IsOneToOne}
use Rattle.hq_laws_copy.specs.Views.Laws.{numbers}

-- numbers of a list have different places
places_tell : (ns : List ℕ) (c d : ℕ) → list_any (λ m. m == c) ns ≡ true → list_any (λ m. m == d) ns ≡ true → place_in ns c ≡ place_in ns d → c ≡ d
places_tell ns c d a b same =
    let both : ◌≡◌ {A = Option ℕ} (Some c) (Some d) = sym (place_holds ns c a) ∙ ap (slice_get ns) same ∙ place_holds ns d b in cc

module _ (role : Role) (m : MetaTree) (s : Schema) where
  -- a relationship that may be used is kept
  pub kept_relationship : (t r : ℕ) → (allowed_to role m s).relationship t r ≡ true → list_any (λ q. q == r) (kept_relationships role m s t) ≡ true
  kept_relationship t r a =
      let both = and_parts _ _ a in
      let found = something (slice_get (table s t).rels r) both.0 in
      let same : rel s t r ≡ found.0 = present (table s t).rels r no_rel found.0 found.1 in
      let zeroth : 0 + r ≡ r = omega arith in
      subst (λ q. list_any (λ k. k == q) (kept_relationships role m s t) ≡ true) zeroth
      (kept_there (λ w. is_some (permission role m w.remote)) 0 (table s t).rels r found.0 found.1 (ap (λ w. is_some (permission role m w.remote)) (sym same) ∙ both.1))

  tables_tell : (t u : ℕ) → is_some (permission role m t) ≡ true → is_some (permission role m u) ≡ true → table_place (sources role m) t ≡ table_place (sources role m) u → t ≡ u
  tables_tell t u a b same =
      let p = something (permission role m t) a in
      let q = something (permission role m u) b in
      let x : StandsFor role m t p.0 = stands_for role m t p.0 p.1 in
      let y : StandsFor role m u q.0 = stands_for role m u q.0 q.1 in
      let entries : x.entry ≡ y.entry =
      let both : ◌≡◌ {A = Option Source} (Some (record { entry = x.entry; permission = p.0 })) (Some (record { entry = y.entry; permission = q.0 })) =
      sym x.place ∙ ap (slice_get (sources role m)) same ∙ y.place in
      let one : ◌≡◌ {A = Source} (record { entry = x.entry; permission = p.0 }) (record { entry = y.entry; permission = q.0 }) = cc in
      ap (λ (o : Source). o.entry) one in
      sym x.is_table ∙ ap (λ (k : TrackedTree). k.table) entries ∙ y.is_table

  pub one_to_one : IsOneToOne (numbers role m s) (allowed_to role m s)
  one_to_one = record {
    tables = tables_tell;
    columns = λ t c d a b same. places_tell _ c d a b same;
    relationships = λ t r q a b same. places_tell (kept_relationships role m s t) r q (kept_relationship t r a) (kept_relationship t q b) same;
  }
