-- Places in a list.
use Rattle.std.specs.Prelude.{ℕ, List, Bool, nat_lt, ◌==◌, ◌&&◌}
use Rattle.std.specs.List.{list_all}
use Rattle.hq_base.specs.Lists.{all_differ}

-- different places of a list of this length
abbrev pub are_places : (length : ℕ) → List ℕ → Bool
are_places length places = list_all (λ p. nat_lt p length) places && all_differ (λ p q. p == q) places
