-- Readers of a file's records.
use Rattle.std.specs.Prelude.{◌≡◌, ℕ, ◌+◌, List, [], length, Option, Some, None}
use denote.Bor.{Bor}
use Rattle.csv.specs.Reading.{Ready, default_config, reader_config, reader_state, reader_trim, records_from, source_of}
use Rattle.csv.specs.declared.parser.State.{State}
use Rattle.csv.specs.declared.reader.Reader.{Reader}
use Rattle.csv.specs.declared.reader.Trim.TheVariants as trim

-- a reader of bytes in memory
abbrev pub FileReader : Type 0
FileReader = Reader (Bor (List ℕ))

-- the bytes that it has left, where no read failed
abbrev pub bytes_left : FileReader → Option (List ℕ)
bytes_left r = source_of (λ s. Some s.now) r

-- the records of these bytes, from a state of the reader on
abbrev pub records_of : State → Option (List ℕ) → List (List (List ℕ))
records_of state None = []
records_of state (Some bytes) = records_from default_config (length bytes + 1) state bytes

-- the records that it has left
abbrev pub left_of : FileReader → List (List (List ℕ))
left_of r = records_of (reader_state r) (bytes_left r)

-- it reads as csv does by default, the header like any other record
pub record IsReading (r : FileReader) : Type 0 where
  pub untrimmed : reader_trim r ≡ trim.None
  pub ready : Ready r
  pub plain : reader_config r ≡ default_config
  pub known : (bytes : List ℕ) × (bytes_left r ≡ Some bytes)
