use Rattle.std.proofs.Common.{◌≡◌, ◌∙◌, sym, ap, Bool, rules}
use Rattle.hq_schema.specs.Schema.{TypeRefTree, type_ref_view}
use Rattle.hq_gql_nodes.specs.Known.{PlaceTree}
use Rattle.hq_rules_reach.proofs.Summing.{same_type}
use Rattle.hq_rules_reach.proofs.summaries.is_same_place.Goals as goal

-- places of one type and one default are one
one_place : (a b : TypeRefTree) (x y : Bool) → a ≡ b → x ≡ y → ◌≡◌ {A = PlaceTree} (record { ty = a; default_false = x }) (record { ty = b; default_false = y })
one_place a b x y e f = ap (λ (t : TypeRefTree). let p : PlaceTree = record { ty = t; default_false = x } in p) e ∙ ap (λ (z : Bool). let p : PlaceTree = record { ty = b; default_false = z } in p) f

pub returns-then-left-right : goal.returns-then-left-right
returns-then-left-right c = λ h.
    let flags : c.args.left.default_false ≡ c.args.right.default_false = search rules in
    one_place (type_ref_view c.args.left.ty.now) (type_ref_view c.args.right.ty.now) c.args.left.default_false c.args.right.default_false
    (same_type _ _ (sym c.is_same_type.ensures ∙ h)) flags
