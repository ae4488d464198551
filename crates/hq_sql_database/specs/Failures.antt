-- Refusals that say nothing of the text.
use Rattle.std.specs.Prelude.{ℕ, ⊤}
use Rattle.hq_io.specs.Causes.{Rose}
use Rattle.hq_database.specs.declared.refusal.DbRefusal.{DbRefusal}
use Rattle.hq_database.specs.declared.refusal.DbRefusal.TheVariants.{NotSql, NotTyped, Failed, Memory}

-- a failure of a table, or want of memory
abbrev pub IsFailure : DbRefusal → Type 0
IsFailure NotSql = ⊥
IsFailure NotTyped = ⊥
IsFailure (Failed b a) = ⊤
IsFailure Memory = ⊤

-- a failure of a table comes only where the count of faults rose
abbrev pub RoseFor : (before now : ℕ) → DbRefusal → Type 0
RoseFor before now NotSql = ⊤
RoseFor before now NotTyped = ⊤
RoseFor before now (Failed b a) = Rose before now
RoseFor before now Memory = ⊤
