-- The names of the fields of introspection: of the root type, and of the types of introspection (GraphQL October 2021, 4.1 and 4.2).
use Rattle.std.specs.Prelude.{ℕ, List, [], ◌∷◌, Option, find, bytes_eq, codes}
use Rattle.hq_request_introspect.specs.declared.field_name.FieldName.{FieldName}
use Rattle.hq_request_introspect.specs.declared.field_name.FieldName.TheVariants.{Kind, Name, OfType, «Type», Description, DefaultValue, Args, IsDeprecated, DeprecationReason, Fields, InputFields, EnumValues, Interfaces, PossibleTypes, SpecifiedByUrl, Typename, Types, QueryType, MutationType, SubscriptionType, Directives, Locations, IsRepeatable, WholeSchema, TypeByName}

-- how each is written
unfoldable pub field_text : FieldName → List ℕ
field_text Kind = codes "kind"
field_text Name = codes "name"
field_text OfType = codes "ofType"
field_text «Type» = codes "type"
field_text Description = codes "description"
field_text DefaultValue = codes "defaultValue"
field_text Args = codes "args"
field_text IsDeprecated = codes "isDeprecated"
field_text DeprecationReason = codes "deprecationReason"
field_text Fields = codes "fields"
field_text InputFields = codes "inputFields"
field_text EnumValues = codes "enumValues"
field_text Interfaces = codes "interfaces"
field_text PossibleTypes = codes "possibleTypes"
field_text SpecifiedByUrl = codes "specifiedByURL"
field_text Typename = codes "__typename"
field_text Types = codes "types"
field_text QueryType = codes "queryType"
field_text MutationType = codes "mutationType"
field_text SubscriptionType = codes "subscriptionType"
field_text Directives = codes "directives"
field_text Locations = codes "locations"
field_text IsRepeatable = codes "isRepeatable"
field_text WholeSchema = codes "__schema"
field_text TypeByName = codes "__type"

-- all of them, those that are asked for most often first
abbrev pub all_fields : List FieldName
all_fields =
    Kind ∷ Name ∷ OfType ∷ «Type» ∷ Description ∷ DefaultValue ∷ Args ∷ IsDeprecated ∷ DeprecationReason ∷ Fields ∷ InputFields
    ∷ EnumValues ∷ Interfaces ∷ PossibleTypes ∷ SpecifiedByUrl ∷ Typename ∷ Types ∷ QueryType ∷ MutationType ∷ SubscriptionType
    ∷ Directives ∷ Locations ∷ IsRepeatable ∷ WholeSchema ∷ TypeByName ∷ []

-- the field that is written so
unfoldable pub field_named : (name : List ℕ) → Option FieldName
field_named name = find (λ f. bytes_eq (field_text f) name) all_fields
