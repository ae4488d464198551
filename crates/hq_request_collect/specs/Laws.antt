-- Laws of collected fields.
use Rattle.std.specs.Prelude.{◌≡◌, ◌≤◌, ℕ, List, true}
use Rattle.hq_gql_tree.specs.Selections.{SelectionTree}
use Rattle.hq_request_collect.specs.Collect.{Request}
use Rattle.hq_request_collect.specs.Keys.{is_distinct, levels_of}
use Rattle.hq_request_collect.specs.Size.{is_small}
use Rattle.hq_request_collect.specs.Tree.{collected_down, collected_tree}

-- the response keys of each object differ, and fields stand at most 50 deep
pub record Collects (r : Request) (ss : List SelectionTree) : Type 0 where
  pub distinct : is_distinct (collected_tree r ss) ≡ true
  pub shallow : levels_of (collected_tree r ss) ≤ 50

-- where selections are within the limits, more levels give no more fields
abbrev pub LevelsSuffice : Request → List SelectionTree → Type 0
LevelsSuffice r ss = is_small r.document ss ≡ true → (within levels : ℕ) → 50 ≤ within → 50 ≤ levels → collected_down within levels r ss ≡ collected_tree r ss
