-- Copies whose names and texts are UTF-8 without a zero byte.
use Rattle.std.specs.Prelude.{◌≡◌, Bool, true, ◌&&◌}
use Rattle.std.specs.List.{list_all}
use Rattle.hq_base.specs.declared.value.Val.{Val}
use Rattle.hq_base.specs.declared.value.Val.TheVariants as val
use Rattle.hq_copy_definition.specs.Copied.{Copied}
use Rattle.hq_laws_written.specs.Catalog.Written.{has_clean_names}
use Rattle.hq_laws_written.specs.Json.ReadBack.{is_clean}
use Rattle.hq_model.specs.Meta.{TrackedTree}
use Rattle.hq_model.specs.declared.meta.RootNames.{RootNames}

-- the names of root fields
abbrev pub are_clean_roots : RootNames → Bool
are_clean_roots r = is_clean r.select && is_clean r.select_by_pk && is_clean r.select_aggregate

-- the names of an entry: of the table, its columns, its root fields and its relationships
abbrev pub is_clean_entry : TrackedTree → Bool
is_clean_entry k = is_clean k.name && list_all is_clean k.column_names && are_clean_roots k.roots && list_all (λ r. is_clean r.name) k.rels

-- a value
abbrev pub is_clean_value : Val → Bool
is_clean_value (val.Text s) = is_clean s
is_clean_value _ = true

-- all names and texts of a copy
pub record IsClean (c : Copied) : Type 0 where
  pub catalog : has_clean_names c.tables ≡ true
  pub metadata : list_all is_clean_entry c.meta.tracked ≡ true
  pub rows : list_all (list_all (list_all is_clean_value)) c.rows ≡ true
