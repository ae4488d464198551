-- What holds of collected fields because each field that is put in keeps it.
use Rattle.std.proofs.Common.{ℕ, zero, suc, Bool, true, false, cond, List, [], ◌∷◌}
use Rattle.hq_base.specs.Lists.{Each}
use Rattle.hq_request_collect.specs.Collect.{Request, Collected, visit, collect_included, collect_one, collect_each, collect}
use Rattle.hq_request_collect.specs.Fragments.{fragment_selections}
use Rattle.hq_request_collect.specs.Groups.{Group, response_key, grouped}
use Rattle.hq_request_collect.specs.Included.{directives_in, is_included}
use Rattle.hq_gql_tree.specs.Selections.{SelectionTree, field, spread, inline, selections_in, FieldTree, SpreadTree, InlineHead, SelectionTrees}

-- A fact P of groups that is kept as a field is put in, where Q holds of each selection.
pub record Keeps (P : List Group → Type 0) (Q : SelectionTree → Type 0) (r : Request) : Type 0 where
  pub field_in : (f : FieldTree) (gs : List Group) → Q (field f.0 f.1) → P gs → P (grouped gs (response_key f) f)
  pub inline_in : (h : InlineHead) (below : SelectionTrees) → Q (inline h below) → Each Q (selections_in below)
  pub spread_in : (s : SpreadTree) → Q (spread s) → Each Q (fragment_selections r.document s.name)

-- the same of selections that are collected by a function
abbrev KeptBy : (P : List Group → Type 0) (Q : SelectionTree → Type 0) → (List SelectionTree → Collected → Collected) → Type 0
KeptBy P Q inner = (ss : List SelectionTree) (c : Collected) → Each Q ss → P c.groups → P (inner ss c).groups

module _ (P : List Group → Type 0) (Q : SelectionTree → Type 0) (r : Request) (keeps : Keeps P Q r) where
  included_kept : (inner : List SelectionTree → Collected → Collected) → KeptBy P Q inner → (s : SelectionTree) (c : Collected) → Q s → P c.groups
      → P (collect_included inner r s c).groups
  included_kept inner kept (field h below) c q p = keeps.field_in (h, below) c.groups q p
  included_kept inner kept (inline h below) c q p = kept (selections_in below) c (keeps.inline_in h below q) p
  included_kept inner kept (spread s) c q p =
      let next : (b : Bool) → P (cond b c (inner (fragment_selections r.document s.name) (visit s.name c))).groups =
      elim [ true ↦ p | false ↦ kept (fragment_selections r.document s.name) (visit s.name c) (keeps.spread_in s q) p ] in
      next (c.visited s.name)

  one_kept : (inner : List SelectionTree → Collected → Collected) → KeptBy P Q inner → (s : SelectionTree) (c : Collected) → Q s → P c.groups
      → P (collect_one inner r s c).groups
  one_kept inner kept s c q p =
      let next : (b : Bool) → P (cond b (collect_included inner r s c) c).groups = elim [ true ↦ included_kept inner kept s c q p | false ↦ p ] in
      next (is_included r.vars (directives_in s))

  each_kept : (inner : List SelectionTree → Collected → Collected) → KeptBy P Q inner → KeptBy P Q (collect_each inner r)
  each_kept inner kept [] c q p = p
  each_kept inner kept (s ∷ ss) c q p = each_kept inner kept ss (collect_one inner r s c) q.1 (one_kept inner kept s c q.0 p)

  -- it holds after selections are collected
  pub collect_kept : (n : ℕ) → KeptBy P Q (collect n r)
  unfolding collect
  collect_kept zero ss c q p = p
  collect_kept (suc n) ss c q p = each_kept (collect n r) (collect_kept n) ss c q p
