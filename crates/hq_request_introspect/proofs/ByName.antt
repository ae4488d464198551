-- Types sorted under their names are the types sorted by their names.
use Rattle.std.proofs.Common.{◌≡◌, ◌∙◌, ap, ℕ, List, map}
use Rattle.std.specs.Cmp.Lexicographic.{slice_cmp}
use Rattle.std.specs.Ordering.{nat_cmp, on}
use Rattle.std.specs.declared.cmp.Ordering.{Ordering}
use Rattle.hq_base.specs.Lists.{sort}
use Rattle.hq_base.proofs.Lists.{map_map, map_itself}
use Rattle.hq_base.proofs.Sorts.{sort_map}
use Rattle.hq_schema.specs.Schema.{TypeTree}
use Rattle.hq_request_introspect.specs.Types.{under, sorted_types}

-- how types under their names are compared, and the type of one
abbrev pub by_text : List ℕ × TypeTree → List ℕ × TypeTree → Ordering
by_text x y = slice_cmp nat_cmp x.0 y.0

abbrev pub type_of : List ℕ × TypeTree → TypeTree
type_of x = x.1

pub sorted_under : (ts : List TypeTree) → sorted_types (map under ts) ≡ sort (on (λ (t : TypeTree). t.name) (slice_cmp nat_cmp)) ts
sorted_under ts =
    let sorted = sort (λ (x y : TypeTree). by_text (under x) (under y)) ts in
    ap (map type_of) (sort_map under by_text ts) ∙ map_map type_of under sorted ∙ map_itself sorted
