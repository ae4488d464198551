-- What is granted of one table can be written.
use Rattle.std.specs.Prelude.{ℕ, ◌+◌, ◌≤◌, ◌^◌}
use Rattle.hq_model.specs.Grants.{Grants, grant}
use Rattle.hq_model.specs.Permitted.{mask_of}
use Rattle.hq_model.specs.Schema.{Schema}
use Rattle.hq_translation.specs.Predicates.{own_numbers}

-- the numbers of the aliases of its filter and masks have 64 bits
pub record IsWritten (s : Schema) (g : Grants) (t : ℕ) : Type 0 where
  pub filter : 1 + own_numbers (grant g t).filter s t ≤ 2 ^ 64
  pub masks : (c : ℕ) → 1 + own_numbers (mask_of (grant g t).masks c) s t ≤ 2 ^ 64
