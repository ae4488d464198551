-- A schema in other numbers is the same without its origins.
use Rattle.std.proofs.Common.{◌≡◌, ◌∙◌, ℕ, List, [], ◌∷◌, map, refl, ap, ap₂}
use Rattle.hq_laws_renumbered.specs.Resolving.Renumbering.{Renumbering}
use Rattle.hq_schema.specs.Schema.{ArgTree, FieldTree, TypeTree, SchemaTree}
use Rattle.hq_schema.specs.declared.origin.TypeOrigin.{TypeOrigin}
use Rattle.hq_schema.specs.declared.origin.TypeOrigin.TheVariants as origin
use Rattle.hq_schema.specs.declared.origin.FieldOrigin.TheVariants as field
use Rattle.hq_laws_renumbered.specs.Schemas.Blank.{blank_origin, blank_arg, blank_field, blank_type, blank}
use Rattle.hq_laws_renumbered.specs.Schemas.SchemaOver.{arg_over, field_over, keyed_table, type_origin_over, type_table, type_over, schema_over}

map_same : {A B C : Type 0} (g : B → C) (f : A → B) (h : A → C) → ((x : A) → g (f x) ≡ h x) → (xs : List A) → map g (map f xs) ≡ map h xs
map_same g f h same [] = refl
map_same g f h same (x ∷ xs) = ap₂ (λ y ys. y ∷ ys) (same x) (map_same g f h same xs)

origin_same : (n : Renumbering) (o : TypeOrigin) → blank_origin (type_origin_over n o) ≡ blank_origin o
origin_same n (origin.Scalar ty) = refl
origin_same n _ = refl

args_same : (n : Renumbering) (t : ℕ) (args : List ArgTree) → map blank_arg (map (arg_over n t) args) ≡ map blank_arg args
args_same n t args = map_same blank_arg (arg_over n t) blank_arg (λ a. refl) args

field_same : (n : Renumbering) (t : ℕ) (f : FieldTree) → blank_field (field_over n t f) ≡ blank_field f
field_same n t f = ap (λ args. record { name = f.name; args = args; ty = f.ty; origin = field.Introspection }) (args_same n (keyed_table f.origin t) f.args)

type_same : (n : Renumbering) (d : TypeTree) → blank_type (type_over n d) ≡ blank_type d
type_same n d =
    let t : ℕ = type_table d.origin in
    let made : List FieldTree → List ArgTree → TypeOrigin → TypeTree =
    λ fields inputs o. record { name = d.name; kind = d.kind; fields = fields; inputs = inputs; values = d.values; columns = []; origin = o } in
    ap₂ (λ fields inputs. made fields inputs (blank_origin (type_origin_over n d.origin))) (map_same blank_field (field_over n t) blank_field (field_same n t) d.fields) (args_same n t d.inputs)
    ∙ ap (made (map blank_field d.fields) (map blank_arg d.inputs)) (origin_same n d.origin)

pub schema_same : (n : Renumbering) (s : SchemaTree) → blank (schema_over n s) ≡ blank s
schema_same n s =
    ap (λ types. record { types = types; query = s.query; type_name = blank_field s.type_name; introspection = map blank_field s.introspection; conditions = map blank_arg s.conditions })
    (map_same blank_type (type_over n) blank_type (type_same n) s.types)
