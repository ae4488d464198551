-- What an answer to a request says: of what was due and written, and of what the database was asked.
use Rattle.std.specs.Prelude.{◌⊎◌, ℕ, List, Option, Ok, Err}
use Rattle.hq_engine.specs.Asking.{Counts, AskedNone, AskedOne, AskedExactly}
use Rattle.hq_engine.specs.Engines.{engine_text}
use Rattle.hq_engine.specs.declared.engine.Engine.{Engine}
use Rattle.hq_model.specs.Database.{Row}
use Rattle.hq_model.specs.declared.session.Session.{Session}
use Rattle.hq_command.specs.Ending.{Outcome, Ends}
use Rattle.hq_command.specs.declared.refusal.Refusal.TheVariants as refusal
use Rattle.hq_command.specs.Output.{engine_output}

-- What the database was asked, where this is the text of the request: it, and once, or nothing where there is none, before all
-- that was written; at most this before want of memory, and nothing where no answer was begun.
abbrev pub AskedBy : Option (List ℕ) → (before now : Counts) → Outcome → Type 0
AskedBy text before now (Ok done) = AskedExactly text before now
AskedBy text before now (Err refusal.WriteFailed) = AskedExactly text before now
AskedBy text before now (Err (refusal.Database b a)) = AskedOne text before now
AskedBy text before now (Err refusal.Memory) = AskedNone before now ⊎ AskedOne text before now
AskedBy text before now (Err r) = AskedNone before now

-- What an answer to a request says of what was due, written and asked. Where this is the whole text of the input, the answer is the
-- due one, and exactly the text that is due was asked for it.
pub record Answers (engine : Engine) (session : Session) (database : Option (List (List Row))) (text : List ℕ) (old new : Option (List ℕ)) (before now : Counts) (answer : Outcome) : Type 0 where
  pub ends : Ends old new (engine_output engine session database text) answer
  pub asked : AskedBy (engine_text engine session text) before now answer
