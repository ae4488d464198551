use Rattle.std.proofs.Common.{◌≡◌, ◌∙◌, ap, sym, ℕ, ◌+◌, get_or, map, drop, drop-cons, add-one, arith, List, [], ◌∷◌, ◌||◌, Option, bytes_eq}
use Rattle.std.specs.List.{list_any}
use Rattle.hq_gql_nodes.specs.declared.names.NameAt.{NameAt}
use Rattle.hq_gql_nodes.specs.Least.{earlier, at_if}
use Rattle.hq_gql_nodes.specs.Names.{name_view, repeat_behind}
use Rattle.hq_gql_nodes.proofs.Lesser.{earlier_assoc}
use Rattle.hq_gql_nodes.proofs.names.least_repeat.Goals as goal

-- one more name
repeat_more : (before : List (List ℕ)) (least : Option ℕ) (list : List NameAt) (i : ℕ) (n : NameAt) (all : Option ℕ) → drop i list ≡ n ∷ drop (i + 1) list →
    earlier least (repeat_behind before (map name_view (drop i list))) ≡ all →
    earlier (earlier least (at_if (list_any (λ x. bytes_eq x n.name.now) before) n.at)) (repeat_behind (n.name.now ∷ before) (map name_view (drop (i + 1) list))) ≡ all
repeat_more before least list i n all e h =
    earlier_assoc least _ _ ∙ (ap (λ xs. earlier least (repeat_behind before (map name_view xs))) (sym e) ∙ h)

-- what is read beyond the list's end
abbrev no_name : NameAt
no_name = record { name = record { ref_ptr = (0, 0); now = [] }; at = 0 }

pub loop-entry-preserved : goal.loop-entry-preserved
loop-entry-preserved c =
    let loop = c.loop-entry in
    let list = c.args.list.now in
    let n : NameAt = get_or list loop.entry-index no_name in
    let before = loop.invariant.0 in
    let told = c.in_ok-before.ensures in
    let known = told.before ∙ loop.invariant.1 n.name.now in
    let cut : drop loop.entry-index list ≡ n ∷ drop (loop.entry-index + 1) list = rw add-one (drop-cons list loop.entry-index no_name (omega arith)) in
    let least = c.earlier-least.ensures ∙ ap (earlier loop.least) (c.at_if.ensures ∙ ap (λ b. at_if b n.at) known) in (
      n.name.now ∷ before,
      λ q. told.noted q ∙ ap (λ b. bytes_eq n.name.now q || b) (loop.invariant.1 q),
      ap (λ x. earlier x (repeat_behind (n.name.now ∷ before) (map name_view (drop (loop.entry-index + 1) list)))) least
          ∙ repeat_more before loop.least list loop.entry-index n _ cut loop.invariant.2,
    )
