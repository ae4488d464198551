use Rattle.std.proofs.Common.{refl, subst, sym}
use Rattle.hq_sql_constants.specs.Sifted.{IsLeft}
use Rattle.hq_sql_constants.specs.declared.sifted.Left.TheVariants.{At, Chosen}
use Rattle.hq_sql_constants.proofs.Chosen.{left_placed}
use Rattle.hq_sql_constants.proofs.sifted.with_left.Goals as goal

pub returns-in-At : goal.returns-in-At
returns-in-At c =
    subst (λ l. IsLeft c.args.looked l c.with_places.result) (sym c.in-At.is)
    (left_placed c.args.looked c.with_places.result c.in-At.positions (At c.in-At.positions) c.with_places.ensures refl)

pub returns-in-Chosen : goal.returns-in-Chosen
returns-in-Chosen c =
    subst (λ l. IsLeft c.args.looked l c.with_places-in-Chosen.result) (sym c.in-Chosen.is)
    (left_placed c.args.looked c.with_places-in-Chosen.result _ (Chosen c.in-Chosen.places) c.with_places-in-Chosen.ensures c.as_slice.ensures.value)
