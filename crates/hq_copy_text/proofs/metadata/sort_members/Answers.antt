use Rattle.std.proofs.Common.{ℕ, List, ◌∙◌, map, ap, ap₂, sym, rules}
use Rattle.std.proofs.lemmas.Cmp.{nat_list_cmp_total}
use Rattle.std.specs.Cmp.Lexicographic.{slice_cmp}
use Rattle.std.specs.Ordering.{nat_cmp, on}
use Rattle.hq_base.specs.Json.{JsonTree, member_view}
use Rattle.hq_base.specs.declared.json.Member.{Member}
use Rattle.hq_base.proofs.Lists.{each_all}
use Rattle.hq_base.proofs.Sorts.{sort_map_on}
use Rattle.hq_base.proofs.Views.{member_view-fields}
use Rattle.hq_load_index.proofs.Closures.{sorted_by_closure}
use Rattle.hq_laws_written.specs.Json.ReadBack.{by_name}
use Rattle.hq_copy_text.proofs.metadata.sort_members.Goals as goal

pub returns : goal.returns
returns c =
    let items = c.args.members.now.items in
    ap (map member_view)
    (sorted_by_closure nat_list_cmp_total (λ (m : Member). m.name) items _ c.in_ok-sort_by.ensures.sorted c.in_ok-sort_by.ensures.stable (λ a r f' k. search rules))
    ∙ sym (sort_map_on (λ (m : Member). Unit {0}) member_view (on (λ (m : Member). m.name) (slice_cmp nat_cmp)) (by_name {A = JsonTree})
    (λ x y px py. ap₂ (λ (a b : List ℕ × JsonTree). slice_cmp nat_cmp a.0 b.0) (member_view-fields x) (member_view-fields y))
    items (each_all (λ (m : Member). Unit {0}) (λ m. tt) items))
