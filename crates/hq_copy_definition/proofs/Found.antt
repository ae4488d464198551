-- Where a table of the original stands in a copy.
use Rattle.std.proofs.Common.{◌≡◌, ℕ, zero, suc, ◌+◌, List, [], ◌∷◌, length, Bool, true, false, cond, ◌==◌, Option, Some, None, refl, sym, ap, ◌∙◌, subst, arith}
use Rattle.std.proofs.lemmas.Bool.{eq-eqb, eqb-true, ne_eqb}
use Rattle.std.proofs.lemmas.List.Folds.{find_at}
use Rattle.std.specs.List.{find}
use Rattle.std.specs.Prelude.{option_and_then, option_map, slice_get, unwrap_or}
use Rattle.hq_model.specs.Meta.{TrackedTree, MetaTree, tracked_table}
use Rattle.hq_model.specs.Permission.{Permission, permission, permission_in}
use Rattle.hq_model.specs.Schema.{Schema, schema_of, schema_table, table, numbered}
use Rattle.hq_model.specs.declared.role.Role.{Role}
use Rattle.hq_model.specs.declared.table.Table.{Table}
use Rattle.hq_model.proofs.Places.{table_present}
use Rattle.hq_copy_definition.specs.Metadata.{copied_entry, copied_meta}
use Rattle.hq_copy_definition.specs.Sources.{Source, with_source, sources_in, sources, table_place}
use Rattle.hq_copy_definition.specs.Tables.{copied_table, copied_tables}
use Rattle.hq_copy_definition.proofs.Lists.{got_map, found_passes}

-- a schema has the tables of its catalog
pub schema_long : (m : MetaTree) (k : ℕ) (tables : List Table) → length (numbered (schema_table m) k tables) ≡ length tables
schema_long m k [] = refl
schema_long m k (t ∷ ts) = ap suc (schema_long m (suc k) ts)

module _ (role : Role) (m : MetaTree) where
  abbrev source_of : Permission → TrackedTree → Source
  source_of p k = record { entry = k; permission = p }

  -- the source of a table of which something is permitted is found by the table
  find_source : (t : ℕ) (p : Permission) → permission role m t ≡ Some p → (ks : List TrackedTree)
      → find (λ o. o.entry.table == t) (sources_in role m ks) ≡ option_map (source_of p) (find (λ k. k.table == t) ks)
  find_source t p h [] = refl
  find_source t p h (k ∷ ks) =
      let later = find_source t p h ks in
      let rest : List Source = sources_in role m ks in
      let at : List Source → Option Source = find (λ o. o.entry.table == t) in
      let go : (b : Bool) → (k.table == t) ≡ b → (o : Option Permission) → permission role m k.table ≡ o
      → at (with_source k o rest) ≡ option_map (source_of p) (cond b (Some k) (find (λ j. j.table == t) ks)) =
      elim [
        | true ↦ λ e. elim [
          | None ↦ λ f. let none : permission role m t ≡ None = ap (permission role m) (sym (eqb-true k.table t e)) ∙ f in cc
          | Some q ↦ λ f.
              let same : ◌≡◌ {A = Option Permission} (Some q) (Some p) = sym f ∙ ap (permission role m) (eqb-true k.table t e) ∙ h in
              ap (λ b. cond b (Some (source_of q k)) (at rest)) e ∙ ap (option_map (λ r. source_of r k)) same
        ]
        | false ↦ λ e. elim [
          | None ↦ λ f. later
          | Some q ↦ λ f. ap (λ b. cond b (Some (source_of q k)) (at rest)) e ∙ later
        ]
      ] in
      go (k.table == t) refl (permission role m k.table) refl

  -- a table of which something is permitted is tracked
  tracked_there : (t : ℕ) (p : Permission) → permission role m t ≡ Some p → (k : TrackedTree) × (tracked_table m t ≡ Some k) × (permission_in role m.inherited k ≡ Some p)
  tracked_there t p h =
      let go : (o : Option TrackedTree) → tracked_table m t ≡ o → option_and_then (permission_in role m.inherited) o ≡ Some p → (k : TrackedTree) × (tracked_table m t ≡ Some k) ×
      (permission_in role m.inherited k ≡ Some p) =
      elim [ None ↦ λ e g. cc | Some k ↦ λ e g. (k, e, g) ] in
      go (tracked_table m t) refl h

  -- a table of which something is permitted: its entry, its permission and its source, which stands at its place
  pub record StandsFor (t : ℕ) (p : Permission) : Type 0 where
    pub entry : TrackedTree
    pub tracked : tracked_table m t ≡ Some entry
    pub permitted : permission_in role m.inherited entry ≡ Some p
    pub is_table : entry.table ≡ t
    pub place : slice_get (sources role m) (table_place (sources role m) t) ≡ Some (source_of p entry)

  pub stands_for : (t : ℕ) (p : Permission) → permission role m t ≡ Some p → StandsFor t p
  stands_for t p h =
      let there = tracked_there t p h in record {
        entry = there.0;
        tracked = there.1;
        permitted = there.2;
        is_table = eqb-true there.0.table t (found_passes (λ k. k.table == t) m.tracked there.0 there.1);
        place = sym (find_at (λ o. o.entry.table == t) (sources role m)) ∙ find_source t p h m.tracked ∙ ap (option_map (source_of p)) there.1;
      }

-- entries that are numbered from k on are found by their numbers
find_numbered : (f : ℕ → Source → TrackedTree) → ((j : ℕ) (o : Source) → (f j o).table ≡ j) → (k : ℕ) (os : List Source) (u : ℕ)
    → find (λ x. x.table == (k + u)) (numbered f k os) ≡ option_map (f (k + u)) (slice_get os u)
find_numbered f is k [] u = refl
find_numbered f is k (o ∷ os) zero =
    let same : k ≡ k + 0 = omega arith in
    ap (λ b. cond b (Some (f k o)) (find (λ x. x.table == (k + 0)) (numbered f (suc k) os))) (eq-eqb (f k o).table (k + 0) (is k o ∙ same)) ∙ ap (λ j. Some (f j o)) same
find_numbered f is k (o ∷ os) (suc u) =
    let next : suc k + u ≡ k + suc u = omega arith in
    let here = is k o in
    ap (λ b. cond b (Some (f k o)) (find (λ x. x.table == (k + suc u)) (numbered f (suc k) os))) (ne_eqb (f k o).table (k + suc u) (omega (arith, here)))
    ∙ subst (λ i. find (λ x. x.table == i) (numbered f (suc k) os) ≡ option_map (f i) (slice_get os u)) next (find_numbered f is (suc k) os u)

module _ (role : Role) (m : MetaTree) (s : Schema) where
  -- the copy's schema
  abbrev pub copied_schema : Schema
  copied_schema = schema_of (copied_tables role m s) (copied_meta role m s)

  -- the entry of the table at a place of the copy
  pub entry_at : (u : ℕ) (o : Source) → slice_get (sources role m) u ≡ Some o → tracked_table (copied_meta role m s) u ≡ Some (copied_entry role m s u o)
  entry_at u o h =
      let zeroth : 0 + u ≡ u = omega arith in
      subst (λ i. find (λ x. x.table == i) (numbered (copied_entry role m s) 0 (sources role m)) ≡ option_map (copied_entry role m s i) (slice_get (sources role m) u)) zeroth
      (find_numbered (copied_entry role m s) (λ j o. refl) 0 (sources role m) u)
      ∙ ap (option_map (copied_entry role m s u)) h

  -- the table there
  pub table_at : (u : ℕ) (o : Source) → slice_get (sources role m) u ≡ Some o → table copied_schema u ≡ schema_table (copied_meta role m s) u (copied_table role m s o)
  table_at u o h =
      table_present (copied_tables role m s) (copied_meta role m s) u (copied_table role m s o) (got_map (copied_table role m s) (sources role m) u ∙ ap (option_map (copied_table role m s)) h)

  -- its relationships
  pub rels_at : (u : ℕ) (o : Source) → slice_get (sources role m) u ≡ Some o → (table copied_schema u).rels ≡ (copied_entry role m s u o).rels
  rels_at u o h = ap (λ x. x.rels) (table_at u o h) ∙ ap (λ e. unwrap_or (option_map (λ k. k.rels) e) []) (entry_at u o h)
