-- Laws of the links of a copy.
use Rattle.std.specs.Prelude.{◌≡◌, List}
use Rattle.hq_model.specs.Database.{Row}
use Rattle.hq_model.specs.Seen.{linked_by}
use Rattle.hq_model.specs.declared.meta.Pair.{Pair}
use Rattle.hq_copy_definition.specs.Links.{to_number, first_from, NumbersLink}

-- whatever the pairs of a relationship, and whatever cells are NULL or repeated: the numbers link the rows that are linked
abbrev pub RelationshipNumbered : List Pair → (own remote : List Row) → Type 0
RelationshipNumbered ps xs ys = NumbersLink (linked_by ps) xs ys

-- the quick way to the second number gives the same
abbrev pub FirstFromIs : List Pair → (own remote : List Row) → Row → Type 0
FirstFromIs ps xs ys y = to_number (linked_by ps) xs ys y ≡ first_from (linked_by ps) xs ys y
