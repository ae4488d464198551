use Rattle.std.proofs.Common.{◌≡◌, ◌++◌, drop, map, true}
use Rattle.serde_json.specs.View.{items_view, members_view}
use Rattle.hq_base.specs.Due.{mapped}
use Rattle.hq_base.specs.Json.{json_view, member_view, elements_of, members_of, elements_have_distinct_names, values_have_distinct_names}
use Rattle.hq_base.specs.Body.{elements_in, members_in}
use Rattle.hq_base.proofs.body.+walk.Given as goal

abbrev pub invariant-elements-loop-item : goal.invariant-elements-loop-item
invariant-elements-loop-item l =
    record {
      names : elements_have_distinct_names (elements_of (map json_view l.list.items)) ≡ true;
      due : elements_in (items_view l.items.items) ≡ mapped (λ js. map json_view l.list.items ++ js) (elements_in (items_view (drop l.item-index l.items.items)));
    }

abbrev pub invariant-members-loop-name : goal.invariant-members-loop-name
invariant-members-loop-name l =
    record {
      names : values_have_distinct_names (members_of (map member_view l.list.items)) ≡ true;
      due : members_in (members_view l.entries.entries) ≡ mapped (λ ms. map member_view l.list.items ++ ms) (members_in (members_view l.name-iterator));
    }
