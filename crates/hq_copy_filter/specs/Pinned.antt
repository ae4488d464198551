-- Refusals of a store of tables.
use Rattle.std.specs.Prelude.{ℕ, ⊤}
use Rattle.hq_io.specs.Causes.{Rose}
use Rattle.hq_load_tables.specs.declared.tables.StoreRefusal.{StoreRefusal}
use Rattle.hq_load_tables.specs.declared.tables.StoreRefusal.TheVariants.{Failed, Memory}

-- a failure comes only where the count of faults rose
abbrev pub RoseFor : (before now : ℕ) → StoreRefusal → Type 0
RoseFor before now (Failed b a) = Rose before now
RoseFor before now Memory = ⊤
