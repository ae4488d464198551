-- So many talks, with a line after each.
use Rattle.std.specs.Prelude.{◌≡◌, ◌≤◌, ℕ, List, [], ◌∷◌, length, take, OnOk, Option, Result}
use Rattle.std.specs.declared.result.Result.TheVariants.{Ok, Err}
use Rattle.std.specs.Io.KnownBytes.{Appends}
use Rattle.hq_io.specs.Streams.{AppendsPrefix}
use Rattle.hq_session.specs.declared.header.Header.{Header}
use Rattle.hq_session.specs.declared.hook.HookAnswer.{HookAnswer}
use Rattle.hq_serve.specs.declared.serving.ServeRefusal.{ServeRefusal}
use Rattle.hq_serve.specs.declared.serving.ServeRefusal.TheVariants as refusal
use Rattle.hq_live.specs.Runs.{Standing}
use Rattle.hq_live_talk.specs.declared.end.TalkEnd.{TalkEnd}
use Rattle.hq_live_serve.specs.Lines.{lines_from}
use Rattle.hq_live_serve.specs.Talking.{ToldLink, Held, AreHeld, Accepts, ends_of}

-- what was written of the lines of talks that ended so; where memory is wanted, the last ones may have none
abbrev pub LinesBy : (old new : Option (List ℕ)) → List TalkEnd → Result (Unit {0}) ServeRefusal → Type 0
LinesBy old new ends (Ok _) = Appends old new (lines_from 1 ends)
LinesBy old new ends (Err refusal.DoorFailed) = Appends old new (lines_from 1 ends)
LinesBy old new ends (Err refusal.WriteFailed) = AppendsPrefix old new (lines_from 1 ends)
LinesBy old new ends (Err refusal.Memory) = (n : ℕ) × Appends old new (lines_from 1 (take n ends))

module _ {L : Type 0} (allows : List Header → HookAnswer → Type 0) (t : ToldLink L) where
  -- these talks were held with peers of a hall, one after the other; it had accepted so many, and had these links
  pub record Holds (s s' : Standing) (a a' : ℕ) (l l' : Option (List L)) (talks : List (Held L)) : Type 0 where
    pub held : AreHeld allows t s s' talks
    pub accepted : Accepts t.left a a' l l' talks

  -- so many talks were to be held, these were, and a line was written after each
  pub record ServesTalks (count : ℕ) (s s' : Standing) (a a' : ℕ) (l l' : Option (List L)) (old new : Option (List ℕ)) (result : Result (Unit {0}) ServeRefusal) : Type 0 where
    pub talks : List (Held L)
    pub few : length talks ≤ count
    pub all : OnOk result (length talks ≡ count)
    pub lines : LinesBy old new (ends_of talks) result
    pub holds : Holds s s' a a' l l' talks

  -- the first n talks were held, and their lines were written
  pub record HeldSoFar (n : ℕ) (s s' : Standing) (a a' : ℕ) (l l' : Option (List L)) (old new : Option (List ℕ)) : Type 0 where
    pub talks : List (Held L)
    pub count : length talks ≡ n
    pub lines : Appends old new (lines_from 1 (ends_of talks))
    pub holds : Holds s s' a a' l l' talks

  -- one more talk was held
  pub record HoldsNext (s s' : Standing) (a a' : ℕ) (l l' : Option (List L)) (end : TalkEnd) : Type 0 where
    pub talk : Held L
    pub ends : talk.end ≡ end
    pub holds : Holds s s' a a' l l' (talk ∷ [])
