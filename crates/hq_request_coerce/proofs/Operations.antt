-- What an operation has, by its place in the document.
use Rattle.std.proofs.Common.{◌≡◌, refl, ℕ, zero, suc, [], ◌∷◌, map, get_or}
use Rattle.hq_schema.specs.Schema.{SchemaTree}
use Rattle.hq_gql_tree.specs.Documents.{DocumentTree, operation, fragment}
use Rattle.hq_gql_nodes.specs.Known.{resolved}
use Rattle.hq_gql_nodes.specs.Nodes.{variable_types}
use Rattle.hq_request_coerce.specs.Choice.{operation_at}
use Rattle.hq_request_coerce.specs.Due.{variables_of}

-- the types of the variables of the operation at a place
pub types_there : (s : SchemaTree) (d : DocumentTree) (place : ℕ) → get_or (map (variable_types s) d) place [] ≡ map (λ v. resolved s v.ty) (variables_of (operation_at d place))
types_there s [] place = refl
types_there s (operation o ∷ d) zero = refl
types_there s (fragment f ∷ d) zero = refl
types_there s (x ∷ d) (suc place) = types_there s d place
