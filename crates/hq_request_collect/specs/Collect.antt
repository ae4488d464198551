-- CollectFields (GraphQL October 2021, 6.3.2). Type conditions are not looked at: a fragment that may stand in an object type is
-- on that type itself.
use Rattle.std.specs.Prelude.{ℕ, zero, suc, List, [], ◌∷◌, Bool, false, ◌||◌, cond, bytes_eq}
use Rattle.hq_request_coerce.specs.Variables.{VarTree}
use Rattle.hq_gql_tree.specs.Documents.{DocumentTree}
use Rattle.hq_gql_tree.specs.Selections.{SelectionTree, field, spread, inline, selections_in, FieldTree}
use Rattle.hq_request_collect.specs.Fragments.{fragment_selections}
use Rattle.hq_request_collect.specs.Groups.{Group, response_key, grouped}
use Rattle.hq_request_collect.specs.Included.{directives_in, is_included}

-- a document, and the coerced variables
pub record Request : Type 0 where
  pub document : DocumentTree
  pub vars : List VarTree

-- the fields that are collected so far, and which fragments were put in, by their names
pub record Collected : Type 0 where
  pub groups : List Group
  pub visited : List ℕ → Bool

abbrev pub with_field : FieldTree → Collected → Collected
with_field f c = record { groups = grouped c.groups (response_key f) f; visited = c.visited }

abbrev pub visit : (name : List ℕ) → Collected → Collected
visit name c = record { groups = c.groups; visited = λ q. bytes_eq name q || c.visited q }

-- a selection that is included, where `inner` collects the selections of a fragment
abbrev pub collect_included : (inner : List SelectionTree → Collected → Collected) → Request → SelectionTree → Collected → Collected
collect_included inner r (field h below) c = with_field (h, below) c
collect_included inner r (inline h below) c = inner (selections_in below) c
collect_included inner r (spread s) c = cond (c.visited s.name) c (inner (fragment_selections r.document s.name) (visit s.name c))

abbrev pub collect_one : (inner : List SelectionTree → Collected → Collected) → Request → SelectionTree → Collected → Collected
collect_one inner r s c = cond (is_included r.vars (directives_in s)) (collect_included inner r s c) c

abbrev pub collect_each : (inner : List SelectionTree → Collected → Collected) → Request → List SelectionTree → Collected → Collected
collect_each inner r [] c = c
collect_each inner r (s ∷ ss) c = collect_each inner r ss (collect_one inner r s c)

-- a selection set in which spreads and inline fragments stand in each other fewer than `levels` deep
unfoldable pub collect : (levels : ℕ) → Request → List SelectionTree → Collected → Collected
collect zero r ss c = c
collect (suc n) r ss c = collect_each (collect n r) r ss c

abbrev pub none : Collected
none = record { groups = []; visited = λ q. false }

-- the selections of fields, collected one after the other, fragments put in up to `levels` deep
abbrev pub collect_all : (levels : ℕ) → Request → List FieldTree → Collected → Collected
collect_all n r [] c = c
collect_all n r (f ∷ fs) c = collect_all n r fs (collect n r (selections_in f.1) c)
