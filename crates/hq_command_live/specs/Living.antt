-- How a run of `live` ends: talks are held over what the directory holds.
use Rattle.std.specs.Prelude.{◌≡◌, ℕ, List, [], Option, Result}
use Rattle.hq_io.specs.declared.files.File.{File}
use Rattle.hq_session.specs.Secret.{AllowedBySecret}
use Rattle.hq_session.specs.declared.secret.SecretRule.{SecretRule}
use Rattle.hq_serve.specs.declared.serving.ServeRefusal.{ServeRefusal}
use Rattle.hq_live.specs.Runs.{Standing}
use Rattle.hq_live_serve.specs.Talking.{ToldLink}
use Rattle.hq_live_serve.specs.Serving.{ServesTalks}
use Rattle.hq_laws_live.specs.Worlds.{due_over}
use Rattle.hq_load.specs.Loading.{Contents}
use Rattle.hq_live_asker.specs.Asker.{next_of}
use Rattle.hq_command.specs.Ending.{Outcome}
use Rattle.hq_command_serve.specs.Serving.{SeenDoor, EndsOver}

-- Live queries as they begin over what a directory holds: the replies over its rows are due, each reload takes the rows of its table
-- files where the readers accept them, and there is no subscription.
pub record BeginsOver (held : Contents) (files : Option (List File)) (dir : List ℕ) (s : Standing) : Type 0 where
  pub due : s.due ≡ due_over held.tables held.meta held.rows
  pub next : s.next ≡ next_of held.tables held.meta files dir
  pub none : s.subscriptions ≡ []

module _ {L : Type 0} (t : ToldLink L) (rule : SecretRule) (connections : ℕ) (before after : SeenDoor L) (old new : Option (List ℕ)) where
  -- so many talks were held with the peers of a hall, over live queries that stood so first
  pub record TalksFrom (first : Standing) (result : Result (Unit {0}) ServeRefusal) : Type 0 where
    pub last : Standing
    pub serves : ServesTalks (AllowedBySecret rule) t connections first last before.accepted after.accepted before.links after.links old new result

  module _ (files : Option (List File)) (dir : List ℕ) where
    -- the same over what a directory holds
    pub record TalksOver (held : Contents) (result : Result (Unit {0}) ServeRefusal) : Type 0 where
      pub first : Standing
      pub begins : BeginsOver held files dir first
      pub talks : TalksFrom first result

    -- the lines of the talks that were held were written, all of them at 0
    abbrev pub LiveEnds : Outcome → Type 0
    LiveEnds answer = EndsOver before after old new TalksOver files dir answer
