-- No name of a copied column or a kept relationship begins as those of added columns do.
use Rattle.std.proofs.Common.{◌≡◌, [], false, None}
use Rattle.std.specs.Prelude.{slice_index_or}
use Rattle.hq_base.specs.Lists.{Each}
use Rattle.hq_base.proofs.Lists.{each_weaken}
use Rattle.hq_model.specs.Meta.{MetaTree}
use Rattle.hq_model.specs.Schema.{Schema, column, rel}
use Rattle.hq_model.specs.declared.role.Role.{Role}
use Rattle.hq_copy_definition.specs.Refusals.{is_kept_name, kept_name, column_refusal, own_name_refusal, first_of}
use Rattle.hq_copy_definition.specs.Sources.{Source, kept_relationships}
use Rattle.hq_laws_copy.proofs.Views.Refused.{neither, none_of, not_refused}

-- the database and GraphQL names of columns, and the names of relationships
pub record Unkept (role : Role) (m : MetaTree) (s : Schema) (o : Source) : Type 0 where
  pub columns : Each (λ c. (is_kept_name (column s o.entry.table c).name ≡ false) × (is_kept_name (slice_index_or o.entry.column_names c []) ≡ false)) o.permission.columns
  pub rels : Each (λ r. is_kept_name (rel s o.entry.table r).name ≡ false) (kept_relationships role m s o.entry.table)

pub unkept_names : (role : Role) (m : MetaTree) (s : Schema) (o : Source) → own_name_refusal role m s o ≡ None → Unkept role m s o
unkept_names role m s o h =
    let both = neither (first_of (column_refusal s o) o.permission.columns) (first_of (λ r. kept_name (rel s o.entry.table r).name) (kept_relationships role m s o.entry.table)) h in record {
      columns = each_weaken (λ c. column_refusal s o c ≡ None) _
          (λ c g. let names = neither (kept_name (column s o.entry.table c).name) (kept_name (slice_index_or o.entry.column_names c [])) g in (not_refused _ _ names.0, not_refused _ _ names.1))
          o.permission.columns (none_of (column_refusal s o) o.permission.columns both.0);
      rels = each_weaken (λ r. kept_name (rel s o.entry.table r).name ≡ None) _ (λ r g. not_refused _ _ g)
          (kept_relationships role m s o.entry.table) (none_of (λ r. kept_name (rel s o.entry.table r).name) (kept_relationships role m s o.entry.table) both.1);
    }
