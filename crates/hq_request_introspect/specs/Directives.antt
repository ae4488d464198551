-- The directives that each schema has (GraphQL October 2021, 3.13.1 and 3.13.2).
use Rattle.std.specs.Prelude.{ℕ, List, [], ◌∷◌, codes}
use Rattle.hq_request_introspect.specs.declared.directive.Directive.{Directive}
use Rattle.hq_request_introspect.specs.declared.directive.Directive.TheVariants.{Include, Skip}

-- how each is written
unfoldable pub directive_text : Directive → List ℕ
directive_text Include = codes "include"
directive_text Skip = codes "skip"

-- both
abbrev pub all_directives : List Directive
all_directives = Include ∷ Skip ∷ []

-- where each may stand
unfoldable pub directive_locations : List (List ℕ)
directive_locations = codes "FIELD" ∷ codes "FRAGMENT_SPREAD" ∷ codes "INLINE_FRAGMENT" ∷ []
