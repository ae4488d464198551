-- No name of a schema stands for two things of one kind (GraphQL October 2021, 3.3, 3.6 and 3.10).
use Rattle.std.specs.Prelude.{◌≡◌, true, map}
use Rattle.hq_base.specs.Lists.{Each}
use Rattle.hq_schema.specs.Schema.{FieldTree, TypeTree, SchemaTree}
use Rattle.hq_model.specs.SchemaNames.{all_names_differ}

-- the names of a field's arguments differ
abbrev pub ArgsDiffer : FieldTree → Type 0
ArgsDiffer f = all_names_differ (map (λ a. a.name) f.args) ≡ true

-- the names of a type's fields differ, those of their arguments, of its inputs and of its values
pub record TypeDiffers (t : TypeTree) : Type 0 where
  pub fields : all_names_differ (map (λ f. f.name) t.fields) ≡ true
  pub args : Each ArgsDiffer t.fields
  pub inputs : all_names_differ (map (λ a. a.name) t.inputs) ≡ true
  pub values : all_names_differ t.values ≡ true

-- the names of types differ, and those of the members of each
pub record NamesDiffer (s : SchemaTree) : Type 0 where
  pub types : all_names_differ (map (λ t. t.name) s.types) ≡ true
  pub members : Each TypeDiffers s.types
