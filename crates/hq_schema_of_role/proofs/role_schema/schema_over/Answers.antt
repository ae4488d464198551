use Rattle.std.proofs.Common.{◌≡◌, ℕ, List, [], ◌∷◌}
use Rattle.hq_schema.specs.Fixed.{fixed_place}
use Rattle.hq_schema.specs.Schema.{ArgTree, FieldTree, TypeTree}
use Rattle.hq_schema.specs.declared.fixed.Fixed.TheVariants.{QueryRoot}
use Rattle.hq_schema_of_role.specs.Root.{type_name_field, schema_field, type_field, condition}
use Rattle.hq_schema_of_role.specs.RoleSchema.{all_types, schema_over}
use Rattle.hq_schema_of_role.specs.declared.shown.PlacedTable.{PlacedTable}
use Rattle.hq_schema_of_role.proofs.role_schema.schema_over.Goals as goal

-- a schema by its parts
schema_of_parts : (scalars : List (List ℕ)) (ps : List PlacedTable) (ts : List TypeTree) (q : ℕ) (n : FieldTree) (fs : List FieldTree)
    (cs : List ArgTree)
    → ts ≡ all_types scalars ps → q ≡ fixed_place QueryRoot → fs ≡ schema_field ∷ type_field ∷ [] → cs ≡ condition ∷ [] → n ≡ type_name_field
    → record { types = ts; query = q; type_name = n; introspection = fs; conditions = cs } ≡ schema_over scalars ps
schema_of_parts scalars ps ts q n fs cs types query introspection conditions type_name = cc

pub returns : goal.returns
returns c =
    schema_of_parts c.args.scalars.now c.args.tables.now _ _ _ _ _ c.in_ok-all_types.ensures c.place.ensures c.in_ok-introspection.ensures
    c.in_ok-conditions.ensures c.in_ok-type_name_field.ensures
