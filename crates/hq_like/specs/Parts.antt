-- A pattern cut at its %.
use Rattle.std.specs.Prelude.{List, [], ◌∷◌, ◌++◌, Option, Some, None}
use Rattle.std.specs.Borrow.{Bor}
use Rattle.std.specs.Global.{Vec}
use Rattle.hq_base.specs.declared.pattern.Step.{Step}
use Rattle.hq_base.specs.declared.pattern.Step.TheVariants.{Any}
use Rattle.hq_like.specs.Places.{places_view}
use Rattle.hq_like.specs.Segments.{with_segment}
use Rattle.hq_like.specs.Signs.{signs_view}
use Rattle.hq_like.specs.declared.parts.Cut.{Cut}
use Rattle.hq_like.specs.declared.parts.Parts.{Parts as RustParts}
use Rattle.hq_like.specs.declared.places.Place.{Place}
use Rattle.hq_like.specs.declared.segment.Segment.{Segment}
use Rattle.hq_like.specs.declared.signs.Sign.{Sign}

-- what is behind a %, with it
abbrev pub behind_any : Option (Bor (List Sign)) → List Step
behind_any None = []
behind_any (Some later) = Any ∷ signs_view later.now

-- what was cut
abbrev pub cut_view : Cut → List Step
cut_view cut = places_view cut.places.items ++ behind_any cut.later

-- segments with a % behind each, and then these steps
abbrev pub joined : List Segment → List Step → List Step
joined [] last = last
joined (s ∷ ss) last = with_segment s (joined ss last)

-- the segments and the last part, with a % in front
abbrev pub behind_front : List Segment → Option (Vec Place) → List Step
behind_front middle None = []
behind_front middle (Some last) = Any ∷ joined middle (places_view last.items)

-- the steps of a pattern
abbrev pub parts_view : RustParts → List Step
parts_view p = places_view p.front.items ++ behind_front p.middle.items p.last
