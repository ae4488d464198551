use Rattle.std.proofs.Common.{◌≡◌, ◌-◌, drop}
use denote.Text.{Utf8}
use denote.Shadow.{shadow}
use Rattle.std.specs.Str.{chars}
use Rattle.hq_like.proofs.reading.behind.Given as goal

abbrev pub invariant-loop-turn : goal.invariant-loop-turn
invariant-loop-turn l = shadow (Utf8 l.rest) × (chars l.rest ≡ drop l.turn (chars l.text))
