-- Why an engine has no reply.
use Rattle.std.specs.Prelude.{◌≡◌, ℕ, ⊤}
use Rattle.hq_io.specs.Causes.{Rose}
use Rattle.hq_engine.specs.declared.refusal.EngineRefusal.{EngineRefusal}
use Rattle.hq_engine.specs.declared.refusal.EngineRefusal.TheVariants.{Database, Memory}

-- a failure of the database tells how its count of faults rose
abbrev pub TellsDatabase : (before now : ℕ) → EngineRefusal → Type 0
TellsDatabase before now (Database b a) = (b ≡ before) × (a ≡ now) × Rose before now
TellsDatabase before now Memory = ⊤
