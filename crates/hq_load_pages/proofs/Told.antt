-- What a store tells of its disk.
use Rattle.std.proofs.Common.{◌≡◌, ℕ, ◌-◌, ◌^◌, true, List, Option, Some, None, IfSome, is_some, min, refl, arith}
use Rattle.std.specs.Prelude.{option_map}
use Rattle.std.specs.Option.{option_and_then}
use Rattle.std.proofs.lemmas.Bool.{false≢true}
use Rattle.hq_model.specs.Database.{Row}
use Rattle.hq_model.specs.declared.table.Table.{Table}
use Rattle.hq_load_pages.specs.Directory.{reads_database}
use Rattle.hq_load_pages.specs.Held.{WhereTold}
use Rattle.hq_load_pages.specs.PinTouches.{sum_of}

-- its database is told exactly where the bytes of its disk are
pub database_told : (tables : List Table) (told : Option (List ℕ)) (read : List ℕ → Option (List (List Row)))
    → WhereTold told (λ held. reads_database tables (read held) ≡ true) → is_some told ≡ is_some (option_and_then read told)
database_told tables None read h = refl
database_told tables (Some held) read h = by (read held) (h held refl)
  where
    by : (o : Option (List (List Row))) → reads_database tables o ≡ true → true ≡ is_some o
    by None e = absurd (false≢true e)
    by (Some all) e = refl

-- these rows are its database, where the bytes were told before they were written
pub rows_told : (old new : Option (List ℕ)) (read : List ℕ → Option (List (List Row))) (all : List (List Row)) → is_some new ≡ is_some old
    → WhereTold new (λ held. read held ≡ Some all) → option_and_then read new ≡ option_map (λ _. all) old
rows_told None None read all same is = refl
rows_told None (Some new) read all same is = absurd (cc)
rows_told (Some old) None read all same is = absurd (cc)
rows_told (Some old) (Some new) read all same is = is new refl

-- its count of faults is the disk's, where no page was broken
pub faults_told : (told : Option (List ℕ)) (faults broken : ℕ) → WhereTold told (λ _. broken ≡ 0) → IfSome told (λ _. sum_of faults broken ≡ min faults (2 ^ 64 - 1))
faults_told None faults broken h = tt
faults_told (Some held) faults broken h = let none : broken ≡ 0 = h held refl in omega (arith, none)
