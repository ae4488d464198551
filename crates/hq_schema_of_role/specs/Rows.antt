-- Members of the types that each schema has, in rows: a name, how a reference wraps a type, and that type.
use Rattle.std.specs.Prelude.{ℕ, List, [], ◌∷◌, Bool, true, not, codes}
use Rattle.std.specs.Borrow.{Bor}
use Rattle.hq_base.specs.Text.{has_zero}
use Rattle.hq_schema.specs.Fixed.{boolean}
use Rattle.hq_schema.specs.Schema.{TypeRefTree, named, non_null, ArgTree, FieldTree}
use Rattle.hq_schema.specs.declared.fixed.Fixed.{Fixed}
use Rattle.hq_schema.specs.declared.origin.ArgOrigin.{ArgOrigin}
use Rattle.hq_schema.specs.declared.origin.ArgOrigin.TheVariants.{IncludeDeprecated}
use Rattle.hq_schema.specs.declared.origin.FieldOrigin.TheVariants.{Introspection}
use Rattle.hq_schema_of_role.specs.References.{fixed, items, all_items, arg}
use Rattle.hq_schema_of_role.specs.declared.rows.Shape.{Shape}
use Rattle.hq_schema_of_role.specs.declared.rows.Shape.TheVariants.{One, Required, Items, AllItems, Deprecable}

-- a piece of text, and whether it is without zero bytes
abbrev pub piece_name : Bor (List ℕ) → List ℕ
piece_name piece = piece.now

abbrev pub is_clean : Bor (List ℕ) → Bool
is_clean piece = not (has_zero piece.now)

-- R, R!, [R!] and [R!]!; what may be deprecated is a list
abbrev pub wrapped : Shape → TypeRefTree → TypeRefTree
wrapped One r = r
wrapped Required r = non_null r
wrapped Items r = items r
wrapped AllItems r = all_items r
wrapped Deprecable r = items r

-- the same of a type that each schema has
abbrev pub shaped : Shape → Fixed → TypeRefTree
shaped shape f = wrapped shape (fixed f)

-- includeDeprecated: Boolean = false
abbrev pub include_deprecated : ArgTree
include_deprecated = record { name = codes "includeDeprecated"; ty = fixed boolean; default_false = true; origin = IncludeDeprecated }

-- a list of what may be deprecated has that argument
abbrev pub shape_args : Shape → List ArgTree
shape_args Deprecable = include_deprecated ∷ []
shape_args _ = []

-- a row's name is without zero bytes
abbrev pub clean_row : Bor (List ℕ) × Shape × Fixed → Bool
clean_row row = is_clean row.0

-- a row as a field of introspection
abbrev pub row_field : Bor (List ℕ) × Shape × Fixed → FieldTree
row_field row = record { name = row.0.now; args = shape_args row.1; ty = shaped row.1 row.2; origin = Introspection }

-- the name of an argument is without zero bytes
abbrev pub clean_arg : Bor (List ℕ) × Shape × ℕ × ArgOrigin → Bool
clean_arg row = is_clean row.0

-- a row as an argument
abbrev pub row_arg : Bor (List ℕ) × Shape × ℕ × ArgOrigin → ArgTree
row_arg row = arg row.0.now (wrapped row.1 (named row.2)) row.3
