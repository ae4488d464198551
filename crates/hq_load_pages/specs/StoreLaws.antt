-- What holds of each store of tables in pages.
use Rattle.std.specs.Prelude.{◌≡◌, ℕ, List, [], true, IfSome, slice_get, slice_index_or, is_some, refl}
use Rattle.std.specs.declared.option.Option.{Option}
use Rattle.std.specs.declared.option.Option.TheVariants.{None, Some}
use Rattle.std.specs.Option.{option_and_then}
use Rattle.std.proofs.lemmas.Bool.{false≢true}
use Rattle.hq_model.specs.Database.{Row, are_rows, is_database}
use Rattle.hq_model.specs.declared.table.Table.{Table}
use Rattle.hq_load_pages.specs.Directory.{reads_database}
use Rattle.hq_load_pages.specs.Held.{WhereTold}
use Rattle.hq_load_pages.specs.Pins.{is_pinned, pin_at, pinned_rows, rows_or_none, PinsFit, PinsOf}

-- what is read of a told disk is a database
pub told_database : (tables : List Table) (told : Option (List ℕ)) (read : List ℕ → Option (List (List Row)))
    → WhereTold told (λ held. reads_database tables (read held) ≡ true)
    → IfSome (option_and_then read told) (λ all. is_database tables all ≡ true)
told_database tables None read h = tt
told_database tables (Some held) read h = by (read held) (h held refl)
  where
    by : (o : Option (List (List Row))) → reads_database tables o ≡ true → IfSome o (λ all. is_database tables all ≡ true)
    by None e = tt
    by (Some all) e = e

-- the rows of a pinned table are valid for it
pub pinned_valid : (tables : List Table) (pins : List (Option (List Row))) (t : ℕ) → PinsFit tables pins → is_pinned pins t ≡ true
    → IfSome (slice_get tables t) (λ table. are_rows table (pinned_rows pins t) ≡ true)
pinned_valid tables pins t fit is = at (slice_get tables t) (pin_at pins t) refl refl is
  where
    at : (table : Option Table) (pin : Option (List Row)) → slice_get tables t ≡ table → pin_at pins t ≡ pin → is_some pin ≡ true → IfSome table (λ table. are_rows table (rows_or_none pin) ≡ true)
    at None pin e f p = tt
    at (Some table) None e f p = absurd (false≢true p)
    at (Some table) (Some rows) e f p = fit t table rows e f

-- and are those of the told database
pub pinned_read : (told : Option (List ℕ)) (read : List ℕ → Option (List (List Row))) (pins : List (Option (List Row))) (t : ℕ)
    → WhereTold told (λ held. PinsOf (read held) pins) → is_pinned pins t ≡ true
    → IfSome (option_and_then read told) (λ all. pinned_rows pins t ≡ slice_index_or all t [])
pinned_read None read pins t h is = tt
pinned_read (Some held) read pins t h is = at (read held) (pin_at pins t) refl refl is
  where
    at : (o : Option (List (List Row))) (pin : Option (List Row)) → read held ≡ o → pin_at pins t ≡ pin → is_some pin ≡ true → IfSome o (λ all. rows_or_none pin ≡ slice_index_or all t [])
    at None pin e f p = tt
    at (Some all) None e f p = absurd (false≢true p)
    at (Some all) (Some rows) e f p = h held refl all t rows e f
