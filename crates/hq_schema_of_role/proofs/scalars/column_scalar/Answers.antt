use Rattle.std.proofs.Common.{◌≡◌, ◌<◌, ◌∙◌, ℕ, List, [], length, Option, Some, None, sym, ap}
use Rattle.std.specs.Prelude.{IfSome, option_and_then, position, bytes_eq}
use Rattle.std.proofs.lemmas.List.Quantifiers.{position-Some}
use Rattle.hq_schema_of_role.specs.Scalars.{scalar_at}
use Rattle.hq_schema_of_role.proofs.scalars.column_scalar.Goals as goal

-- the place of a scalar is one among them
within : (scalars : List (List ℕ)) (o : Option (List ℕ)) (place : Option ℕ) → place ≡ option_and_then (λ name. position (λ s. bytes_eq s name) scalars) o
    → IfSome place (λ i. i < length scalars)
within scalars o None e = tt
within scalars None (Some i) e = absurd cc
within scalars (Some name) (Some i) e = (position-Some (λ s. bytes_eq s name) scalars i [] (sym e)).0

pub scalar_at-requires : goal.scalar_at-requires
scalar_at-requires c = within c.args.scalars.now c.args.column.now.scalar c.scalar_place.result c.scalar_place.ensures

pub returns : goal.returns
returns c = c.scalar_at.ensures ∙ ap (scalar_at c.args.column.now.ty) c.scalar_place.ensures
