-- An asker in memory: the replies that are due over its databases.
use Rattle.std.specs.Prelude.{ℕ, List, [], ◌&&◌, find, Option, None, Some, bytes_eq, map, ⊤}
use Rattle.hq_live.specs.Asking.{Due, Next, listed}
use Rattle.hq_live.specs.declared.asker.Asked.{Asked}
use Rattle.hq_live.specs.declared.asker.Asked.TheVariants as asked
use Rattle.hq_live.specs.declared.asker.Reloaded.{Reloaded}
use Rattle.hq_live.specs.declared.asker.Reloaded.TheVariants as reloaded
use Rattle.hq_live.specs.declared.mem_asker.DueReply.{DueReply}

-- the reply of a line, if there is one
abbrev pub reply_of : Option DueReply → List ℕ
reply_of None = []
reply_of (Some line) = line.reply

-- the reply that is due to a role and a body: that of the first line of both, and no bytes where there is none
abbrev pub due_over : List DueReply → Due
due_over lines session body = reply_of (find (λ line. bytes_eq line.role session.role && bytes_eq line.body body) lines)

-- the databases that the next reloads take
abbrev pub next_over : List (List DueReply) → Next
next_over databases = listed (map due_over databases)

-- asking failed
abbrev pub HasFailed : Asked → Type 0
HasFailed (asked.Reply reply) = ⊥
HasFailed (asked.Failed before after) = ⊤
HasFailed asked.Memory = ⊥

-- taking the next database failed
abbrev pub HasNotTaken : Reloaded → Type 0
HasNotTaken reloaded.New = ⊥
HasNotTaken reloaded.Same = ⊥
HasNotTaken (reloaded.Failed before after) = ⊤
HasNotTaken reloaded.Memory = ⊥
