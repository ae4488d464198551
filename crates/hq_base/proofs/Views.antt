-- What a JSON value is seen as, level by level.
use Rattle.std.proofs.Common.{◌≡◌, ℕ, List, Vec, Global, map, rules}
use Rattle.hq_base.specs.Json.{arr, obj, elements_of, members_of, json_view, member_view}
use Rattle.hq_base.specs.declared.json.Json.{Json, Arr, Obj, the_lemmas}
use Rattle.hq_base.specs.declared.json.Json.TheViews.{roll-Member}
use Rattle.hq_base.specs.declared.json.Member.{Member}

pub json_view-Arr : (v : Vec Json Global) → json_view (Arr v) ≡ arr (elements_of (map json_view v.items))
json_view-Arr v = search (rules, the_lemmas)

pub json_view-Obj : (v : Vec Member Global) → json_view (Obj v) ≡ obj (members_of (map member_view v.items))
json_view-Obj v = search (rules, the_lemmas)

pub member_view-roll : (name : List ℕ) (value : Json) → member_view (roll-Member (record { name = name; value = value })) ≡ (name, json_view value)
member_view-roll name value = search (rules, the_lemmas)

pub member_view-fields : (m : Member) → member_view m ≡ (m.name, json_view m.value)
member_view-fields m = search (rules, the_lemmas)
