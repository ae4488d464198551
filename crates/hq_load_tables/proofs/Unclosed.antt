-- What is due of a file that may end inside a quoted field of its last record.
use Rattle.std.proofs.Common.{◌≡◌, ℕ, List, true, false, Ok, Err, refl, ap, inl, inr}
use Rattle.std.specs.Prelude.{Bool, Result}
use Rattle.hq_base.specs.Due.{Gives}
use Rattle.hq_model.specs.Database.{Row}
use Rattle.hq_load_tables.specs.Unclosed.{closed_due, unclosed_due, unclosed_unless}
use Rattle.hq_load_tables.specs.declared.load.refusal.LoadRefusal.{LoadRefusal}
use Rattle.hq_load_tables.specs.declared.load.refusal.LoadRefusal.TheVariants.{Unclosed, Memory}

-- a file that does not is read as its records are
pub closed_given : (inside : Bool) (last : ℕ) (due r : Result (List Row) LoadRefusal) → inside ≡ false → Gives (λ rows. rows) Memory due r → Gives (λ rows. rows) Memory (closed_due inside last due) r
closed_given false last due r is h = h
closed_given true last due r is h = absurd cc

-- one that does has no rows
pub unclosed_rows : (inside : Bool) (last : ℕ) (due : Result (List Row) LoadRefusal) (rows : List Row) → inside ≡ true
    → Gives (λ rows. rows) Memory due (Ok rows) → Gives (λ rows. rows) Memory (closed_due inside last due) (Err (Unclosed last))
unclosed_rows false last due rows is h = absurd cc
unclosed_rows true last (Ok x) rows is h = inr refl
unclosed_rows true last (Err e) rows is h = absurd cc

-- and its first refusal is that of its last record, or one before it
pub unclosed_refused : (inside : Bool) (last : ℕ) (due : Result (List Row) LoadRefusal) (e : LoadRefusal) → inside ≡ true
    → Gives (λ rows. rows) Memory due (Err e) → Gives (λ rows. rows) Memory (closed_due inside last due) (Err (unclosed_unless last e))
unclosed_refused false last due e is h = absurd cc
unclosed_refused true last due e is h = elim h [
  | inl memory ↦ inl (ap (unclosed_unless last) memory)
  | inr told ↦ inr (ap (unclosed_due last) told)
]
