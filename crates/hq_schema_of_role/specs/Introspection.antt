-- The fields of the types of introspection, in the order in which introspection lists them (GraphQL October 2021, 4.2).
use Rattle.std.specs.Prelude.{ℕ, List, [], ◌∷◌, codes}
use Rattle.hq_schema.specs.Fixed.{boolean, string}
use Rattle.hq_schema.specs.Schema.{FieldTree}
use Rattle.hq_schema.specs.declared.fixed.Fixed.{Fixed}
use Rattle.hq_schema.specs.declared.fixed.Fixed.TheVariants.{Schema, «Type» as TypeType, Field, InputValue, EnumValue, Directive, TypeKind, DirectiveLocation}
use Rattle.hq_schema.specs.declared.origin.FieldOrigin.TheVariants as origin
use Rattle.hq_schema_of_role.specs.Rows.{shaped, shape_args}
use Rattle.hq_schema_of_role.specs.declared.rows.Shape.{Shape}
use Rattle.hq_schema_of_role.specs.declared.rows.Shape.TheVariants.{One, Required, Items, AllItems, Deprecable}

-- a field of this name and type
abbrev pub row : (name : List ℕ) → Shape → Fixed → FieldTree
row name shape of = record { name = name; args = shape_args shape; ty = shaped shape of; origin = origin.Introspection }

unfoldable pub introspection_fields : Fixed → List FieldTree
introspection_fields Schema =
    row (codes "description") One string ∷ row (codes "types") AllItems TypeType ∷ row (codes "queryType") Required TypeType
    ∷ row (codes "mutationType") One TypeType ∷ row (codes "subscriptionType") One TypeType ∷ row (codes "directives") AllItems Directive ∷ []
introspection_fields TypeType =
    row (codes "kind") Required TypeKind ∷ row (codes "name") One string ∷ row (codes "description") One string
    ∷ row (codes "specifiedByURL") One string ∷ row (codes "fields") Deprecable Field ∷ row (codes "interfaces") Items TypeType
    ∷ row (codes "possibleTypes") Items TypeType ∷ row (codes "enumValues") Deprecable EnumValue
    ∷ row (codes "inputFields") Items InputValue ∷ row (codes "ofType") One TypeType ∷ []
introspection_fields Field =
    row (codes "name") Required string ∷ row (codes "description") One string ∷ row (codes "args") AllItems InputValue
    ∷ row (codes "type") Required TypeType ∷ row (codes "isDeprecated") Required boolean ∷ row (codes "deprecationReason") One string ∷ []
introspection_fields InputValue =
    row (codes "name") Required string ∷ row (codes "description") One string ∷ row (codes "type") Required TypeType
    ∷ row (codes "defaultValue") One string ∷ []
introspection_fields EnumValue =
    row (codes "name") Required string ∷ row (codes "description") One string ∷ row (codes "isDeprecated") Required boolean
    ∷ row (codes "deprecationReason") One string ∷ []
introspection_fields Directive =
    row (codes "name") Required string ∷ row (codes "description") One string ∷ row (codes "isRepeatable") Required boolean
    ∷ row (codes "locations") AllItems DirectiveLocation ∷ row (codes "args") AllItems InputValue ∷ []
introspection_fields _ = []
