-- What holds of each table that a copy holds, by the source that it stands for.
use Rattle.std.proofs.Common.{◌≡◌, ℕ, true, Option, Some, None, refl, ap, ◌∙◌, subst}
use Rattle.std.proofs.lemmas.Bool.{false≢true}
use Rattle.std.specs.Prelude.{is_some, slice_get}
use Rattle.hq_model.specs.Meta.{MetaTree, tracked_table}
use Rattle.hq_model.specs.Permission.{Permission, permission}
use Rattle.hq_model.specs.declared.role.Role.{Role}
use Rattle.hq_copy_definition.specs.Sources.{Source, sources, table_place}
use Rattle.hq_copy_definition.proofs.Found.{stands_for}
use Rattle.hq_copy_definition.proofs.Names.{HasColumns, has_columns}

pub something : {A : Type 0} (o : Option A) → is_some o ≡ true → (x : A) × (o ≡ Some x)
something None h = absurd (false≢true h)
something (Some x) h = (x, refl)

module _ (role : Role) (m : MetaTree) where
  -- a source: its table is tracked, something of it is permitted, and it stands at its place
  pub record IsSource (o : Source) : Type 0 where
    pub seen : permission role m o.entry.table ≡ Some o.permission
    pub tracked : tracked_table m o.entry.table ≡ Some o.entry
    pub place : slice_get (sources role m) (table_place (sources role m) o.entry.table) ≡ Some o
    pub columns : HasColumns o.entry o.permission

  -- what holds of the tables of sources holds of each table that the role may see something of
  pub by_source : (P : ℕ → Type 0) → ((o : Source) → IsSource o → P o.entry.table) → (t : ℕ) → is_some (permission role m t) ≡ true → P t
  by_source P each t h =
      let there = something (permission role m t) h in
      let p : Permission = there.0 in
      let at = stands_for role m t p there.1 in
      let o : Source = record { entry = at.entry; permission = p } in
      subst P at.is_table (each o (record {
        seen = ap (permission role m) at.is_table ∙ there.1;
        tracked = ap (tracked_table m) at.is_table ∙ at.tracked;
        place = ap (λ u. slice_get (sources role m) (table_place (sources role m) u)) at.is_table ∙ at.place;
        columns = has_columns role m.inherited at.entry p at.permitted;
      }))
