-- Two proofs that schemas are equal are equal.
use Rattle.std.proofs.Common.{◌≡◌, ℕ, List, [], ◌∷◌, Bool, true, false, cond, refl, ap}
use Rattle.std.specs.Coded.{Coded, Coded-set, code_by, codes, coded_ℕ, coded_bool, coded_list, coded×}
use Rattle.hq_schema.specs.Schema.{TypeRefTree, named, list_of, non_null, SchemaTree}

-- the wrappers of a reference, outermost first: a list, or else without null
abbrev wrappers : TypeRefTree → List Bool
wrappers (named place) = []
wrappers (list_of r) = true ∷ wrappers r
wrappers (non_null r) = false ∷ wrappers r

-- the place of the type that it leads to
abbrev named_place : TypeRefTree → ℕ
named_place (named place) = place
named_place (list_of r) = named_place r
named_place (non_null r) = named_place r

abbrev wrap : List Bool → ℕ → TypeRefTree
wrap [] place = named place
wrap (w ∷ ws) place = cond w (list_of (wrap ws place)) (non_null (wrap ws place))

wrap_back : (r : TypeRefTree) → wrap (wrappers r) (named_place r) ≡ r
wrap_back (named place) = refl
wrap_back (list_of r) = ap list_of (wrap_back r)
wrap_back (non_null r) = ap non_null (wrap_back r)

-- a reference is stored as its wrappers and its place
abbrev coded_reference : Coded TypeRefTree
coded_reference = code_by (List Bool × ℕ) (coded× (coded_list coded_bool) coded_ℕ) (λ r. (wrappers r, named_place r)) (λ p. wrap p.0 p.1) wrap_back

pub schema_set : (a b : SchemaTree) → IsProp (a ≡ b)
schema_set = hlevel (codes, Coded-set coded_reference)
