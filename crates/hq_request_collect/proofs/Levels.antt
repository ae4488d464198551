-- A selection set at no level, and at one more.
use Rattle.std.proofs.Common.{◌≡◌, refl, ℕ, zero, suc, List, sym, subst}
use Rattle.hq_gql_tree.specs.Documents.{DocumentTree}
use Rattle.hq_gql_tree.specs.Selections.{SelectionTree}
use Rattle.hq_request_collect.specs.Collect.{Request, Collected, collect_each, collect}
use Rattle.hq_request_collect.specs.Collect.{none}
use Rattle.hq_request_collect.specs.Tree.{no_collected, fields_of, collected_down}
use Rattle.hq_request_collect.specs.Size.{left_where_empty, left_of, left_after}

pub collect_none : (n : ℕ) (r : Request) (ss : List SelectionTree) (c : Collected) → n ≡ 0 → collect n r ss c ≡ c
unfolding collect
collect_none zero r ss c e = refl
collect_none (suc n) r ss c e = cc

collect_one_more : (m : ℕ) (r : Request) (ss : List SelectionTree) (c : Collected) → collect (suc m) r ss c ≡ collect_each (collect m r) r ss c
unfolding collect
collect_one_more m r ss c = refl

pub collect_some : (n m : ℕ) (r : Request) (ss : List SelectionTree) (c : Collected) → n ≡ suc m → collect n r ss c ≡ collect_each (collect m r) r ss c
collect_some n m r ss c e = subst (λ k. collect k r ss c ≡ collect_each (collect m r) r ss c) (sym e) (collect_one_more m r ss c)

pub left_none : (n : ℕ) (d : DocumentTree) (ss : List SelectionTree) (left : ℕ) → n ≡ 0 → left_after n d ss left ≡ left_where_empty ss left
unfolding left_after
left_none zero d ss left e = refl
left_none (suc n) d ss left e = cc

left_one_more : (m : ℕ) (d : DocumentTree) (ss : List SelectionTree) (left : ℕ) → left_after (suc m) d ss left ≡ left_of (left_after m d) d ss left
unfolding left_after
left_one_more m d ss left = refl

pub left_some : (n m : ℕ) (d : DocumentTree) (ss : List SelectionTree) (left : ℕ) → n ≡ suc m → left_after n d ss left ≡ left_of (left_after m d) d ss left
left_some n m d ss left e = subst (λ k. left_after k d ss left ≡ left_of (left_after m d) d ss left) (sym e) (left_one_more m d ss left)

pub tree_none : (n : ℕ) (r : Request) (ss : List SelectionTree) → n ≡ 0 → collected_down 50 n r ss ≡ no_collected
unfolding collected_down
tree_none zero r ss e = refl
tree_none (suc n) r ss e = cc

tree_one_more : (m : ℕ) (r : Request) (ss : List SelectionTree) → collected_down 50 (suc m) r ss ≡ fields_of (collected_down 50 m r) (collect 50 r ss none).groups
unfolding collected_down
tree_one_more m r ss = refl

pub tree_some : (n m : ℕ) (r : Request) (ss : List SelectionTree) → n ≡ suc m → collected_down 50 n r ss ≡ fields_of (collected_down 50 m r) (collect 50 r ss none).groups
tree_some n m r ss e = subst (λ k. collected_down 50 k r ss ≡ fields_of (collected_down 50 m r) (collect 50 r ss none).groups) (sym e) (tree_one_more m r ss)
