-- Where a copy is made, each permission binds: the session's on the tables of the database, and the reader's on those of the copy.
use Rattle.std.proofs.Common.{◌≡◌, ◌∙◌, refl, ap, ap₂, subst, ℕ, suc, ◌+◌, arith, List, [], ◌∷◌, Bool, true, false, cond, ◌==◌, Option, Some, None, is_some, Ok, find, option_and_then, slice_get}
use Rattle.std.proofs.lemmas.Bool.{eqb-true}
use Rattle.hq_base.specs.Due.{mapped, and_then}
use Rattle.hq_base.specs.Lists.{Each}
use Rattle.hq_request_tree.specs.Request.{BoundTree}
use Rattle.hq_request_build.specs.Bound.{of_table, bound_of, bound_due, bounds_due}
use Rattle.hq_model.specs.Bexp.{always, never}
use Rattle.hq_model.specs.Binding.{bound_permission}
use Rattle.hq_model.specs.Fits.{fits}
use Rattle.hq_model.specs.Meta.{MetaTree, TrackedTree, tracked_table}
use Rattle.hq_model.specs.Permission.{Permission, permission, permission_in}
use Rattle.hq_model.specs.Schema.{Schema, schema_of, numbered}
use Rattle.hq_model.specs.declared.role.Role.{Role}
use Rattle.hq_model.specs.declared.role.Role.TheVariants.{Named}
use Rattle.hq_model.specs.declared.session.Var.{Var}
use Rattle.hq_model.specs.declared.table.Table.{Table}
use Rattle.hq_copy_definition.specs.Metadata.{reader, places, copied_entry, copied_meta}
use Rattle.hq_copy_definition.specs.Refusals.{filter_refusal}
use Rattle.hq_copy_definition.specs.Sources.{Source, sources, table_place}
use Rattle.hq_copy_definition.proofs.BySource.{IsSource, by_source}
use Rattle.hq_copy_definition.proofs.Found.{copied_schema}
use Rattle.hq_copy_definition.proofs.Lists.{each_at}
use Rattle.hq_copy_definition.proofs.Reader.{reader_sees}
use Rattle.hq_laws_copy.proofs.Views.Refused.{binds}
use Rattle.hq_laws_copy.proofs.Fits.Held.{Held, all_held}

-- the table binds
abbrev pub Binds : Role → MetaTree → Schema → List Var → ℕ → Type 0
Binds role m s vars t = (b : BoundTree) × (bound_due role m s vars t ≡ Ok b)

-- where each table binds, all do
pub all_bind : (role : Role) (m : MetaTree) (s : Schema) (vars : List Var) → ((t : ℕ) → Binds role m s vars t) → (ts : List ℕ) → (bs : List BoundTree) × (bounds_due role m s vars ts ≡ Ok bs)
all_bind role m s vars one [] = ([], refl)
all_bind role m s vars one (t ∷ ts) =
    let b = one t in
    let rest = all_bind role m s vars one ts in
    (b.0 ∷ rest.0, ap₂ (λ x more. and_then (λ c. mapped (λ cs. c ∷ cs) more) x) b.1 rest.1)

-- ---- the session's permissions

pub session_binds : (role : Role) (m : MetaTree) (s : Schema) (vars : List Var) → Each (λ (o : Source). filter_refusal s vars o ≡ None) (sources role m) → (t : ℕ) → Binds role m s vars t
session_binds role m s vars none t = go (permission role m t) refl
  where
    each : (o : Source) → IsSource role m o → Binds role m s vars o.entry.table
    each o is =
        let q = binds (bound_permission o.permission s vars o.entry.table)
        (each_at (λ (o : Source). filter_refusal s vars o ≡ None) (sources role m) (table_place (sources role m) o.entry.table) o none is.place) in
        (of_table o.entry.table q.0, ap (λ w. bound_of w s vars o.entry.table) is.seen ∙ ap (mapped (of_table o.entry.table)) q.1)

    go : (w : Option Permission) → permission role m t ≡ w → Binds role m s vars t
    go None is = (record { table = t; filter = never; masks = [] }, ap (λ w. bound_of w s vars t) is)
    go (Some p) is = by_source role m (Binds role m s vars) each t (ap is_some is)

-- ---- the reader's

-- an entry that is found among numbered ones is that of a source, at its number
entry_of : (role : Role) (m : MetaTree) (s : Schema) (k : ℕ) (os : List Source) (u : ℕ) (e : TrackedTree) → find (λ (x : TrackedTree). x.table == u) (numbered (copied_entry role m s) k os) ≡ Some e
    → (j : ℕ) × (o : Source) × (slice_get os j ≡ Some o) × (u ≡ k + j)
entry_of role m s k [] u e h = absurd cc
entry_of role m s k (o ∷ os) u e h = go (k == u) refl h (λ later. entry_of role m s (suc k) os u e later)
  where
    go : (b : Bool) → (k == u) ≡ b → cond b (Some (copied_entry role m s k o)) (find (λ (x : TrackedTree). x.table == u) (numbered (copied_entry role m s) (suc k) os)) ≡ Some e
        → (find (λ (x : TrackedTree). x.table == u) (numbered (copied_entry role m s) (suc k) os) ≡ Some e → (j : ℕ) × (w : Source) × (slice_get os j ≡ Some w) × (u ≡ suc k + j))
        → (j : ℕ) × (w : Source) × (slice_get (o ∷ os) j ≡ Some w) × (u ≡ k + j)
    go true is h rest = let same : k ≡ u = eqb-true k u is in let zeroth : u ≡ k + 0 = omega (arith, same) in (0, o, refl, zeroth)
    go false is h rest = let later = rest h in let place : u ≡ suc k + later.0 = later.3 in let next : u ≡ k + suc later.0 = omega (arith, place) in (suc later.0, later.1, later.2, next)

module _ (tables : List Table) (m : MetaTree) (role : Role) (fit : fits tables m ≡ true) (vars : List Var) where
  abbrev s : Schema
  s = schema_of tables m

  pub reader_binds : (t : ℕ) → Binds (Named reader) (copied_meta role m s) (copied_schema role m s) vars t
  reader_binds t = go (permission (Named reader) (copied_meta role m s) t) refl
    where
      of_source : (o : Source) → slice_get (sources role m) t ≡ Some o → Binds (Named reader) (copied_meta role m s) (copied_schema role m s) vars t
      of_source o at =
          let held : Held tables m role o = each_at (Held tables m role) (sources role m) t o (all_held tables m role fit) at in
          let sees = reader_sees role m s o held.is.columns t at in
          let p : Permission = record { columns = places 0 o.permission.columns; filter = always; limit = o.permission.limit; aggregations = o.permission.aggregations; masks = [] } in
          (of_table t p, ap (λ w. bound_of w (copied_schema role m s) vars t) sees)

      of_entry : (w : Option TrackedTree) → tracked_table (copied_meta role m s) t ≡ w → (p : Permission) → option_and_then (permission_in (Named reader) []) w ≡ Some p
          → Binds (Named reader) (copied_meta role m s) (copied_schema role m s) vars t
      of_entry None is p h = absurd cc
      of_entry (Some e) is p h =
          let found = entry_of role m s 0 (sources role m) t e is in
          let place : t ≡ 0 + found.0 = found.3 in
          let same : found.0 ≡ t = omega (arith, place) in
          of_source found.1 (subst (λ j. slice_get (sources role m) j ≡ Some found.1) same found.2)

      go : (w : Option Permission) → permission (Named reader) (copied_meta role m s) t ≡ w → Binds (Named reader) (copied_meta role m s) (copied_schema role m s) vars t
      go None is = (record { table = t; filter = never; masks = [] }, ap (λ w. bound_of w (copied_schema role m s) vars t) is)
      go (Some p) is = of_entry (tracked_table (copied_meta role m s) t) refl p is
