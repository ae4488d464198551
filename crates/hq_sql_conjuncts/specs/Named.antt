-- What a chain of aliases is seen as.
use Rattle.std.specs.Prelude.{ℕ, List, [], ◌∷◌}
use Rattle.hq_sql_conjuncts.specs.declared.closed.Names.{Names, Nothing, Named'}

abbrev pub names_view : Names → List (List ℕ)
names_view Nothing = []
names_view (Named' alias p outer) = alias.now ∷ names_view outer
