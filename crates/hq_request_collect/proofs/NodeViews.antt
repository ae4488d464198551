-- Members of JSON by their parts.
use Rattle.std.proofs.Common.{◌≡◌, ap, List, ℕ}
use Rattle.hq_base.specs.Json.{JsonTree, json_view, json_step, member_view, member_step}
use Rattle.hq_base.specs.declared.json.Member.{Member, out-Member, fold_out-Member}

-- the value of a member
pub member_value : (m : Member) → (member_view m).1 ≡ json_view (out-Member m).value
member_value m = ap (λ (x : List ℕ × JsonTree). x.1) (fold_out-Member JsonTree (List ℕ × JsonTree) json_step member_step m)
