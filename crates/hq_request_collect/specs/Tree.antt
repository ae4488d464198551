-- The collected fields of an operation: each response key with its first field, and the collected fields below it (GraphQL
-- October 2021, 6.3 and 6.4.3). No schema is looked at.
use Rattle.std.specs.Prelude.{ℕ, zero, suc, List, [], ◌∷◌, Bool, true, false}
use Rattle.hq_gql_tree.specs.Selections.{FieldHead, SelectionTree}
use Rattle.hq_request_collect.specs.Groups.{Group, merged}
use Rattle.hq_request_collect.specs.Collect.{Request, collect, none}

-- fields in collected order: each with its key and what stands below it, and then the others
pub data CollectedTrees : Type 0 where
  no_collected : CollectedTrees
  collected : (key : List ℕ) → FieldHead → (below : CollectedTrees) → (others : CollectedTrees) → CollectedTrees

abbrev pub is_empty : CollectedTrees → Bool
is_empty no_collected = true
is_empty (collected key h below others) = false

-- the fields of these keys, where `inner` collects what stands below
abbrev pub fields_of : (inner : List SelectionTree → CollectedTrees) → List Group → CollectedTrees
fields_of inner [] = no_collected
fields_of inner (g ∷ gs) = collected g.key g.first.0 (inner (merged g)) (fields_of inner gs)

-- the fields of a selection set, down to a level; fragments are put in `within` deep
unfoldable pub collected_down : (within levels : ℕ) → Request → List SelectionTree → CollectedTrees
collected_down w zero r ss = no_collected
collected_down w (suc n) r ss = fields_of (collected_down w n r) (collect w r ss none).groups

-- the collected fields: 50 levels are as deep as the limits on an operation allow
abbrev pub collected_tree : Request → List SelectionTree → CollectedTrees
collected_tree r ss = collected_down 50 50 r ss
