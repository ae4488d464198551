-- The links of a door: those that were accepted, of which the last one is present, and those still to come.
use Rattle.std.specs.Prelude.{◌≡◌, ◌-◌, ℕ, List, [], slice_get, slice_set, IfSome, IsSomeAnd, MatchOption}
use Rattle.std.specs.declared.option.Option.{Option}
use Rattle.std.specs.declared.option.Option.TheVariants.{Some}
use Rattle.std.specs.Option.{option_map}

-- after so many accepted links this is the next one: the told link at that place, or one without input past their end
abbrev pub IsNext : {L : Type 0} → (left : L → Option (List ℕ)) → Option (List L) → (accepted : ℕ) → Option L → Type 0
IsNext left links accepted present =
    IsSomeAnd present (λ link. IfSome links (λ told. MatchOption (slice_get told accepted) (left link ≡ Some []) (λ next. link ≡ next)))

-- the told links with another one in place of the one accepted last, which may be past their end
abbrev pub with_present : {L : Type 0} → Option (List L) → (accepted : ℕ) → L → Option (List L)
with_present links accepted link = option_map (λ told. slice_set told (accepted - 1) link) links
