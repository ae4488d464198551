-- Due replies, and what asking and reloading give.
use Rattle.std.specs.Prelude.{◌≡◌, ◌≤◌, ℕ, List, [], ◌∷◌, Option, ⊤}
use Rattle.hq_io.specs.Causes.{Rose}
use Rattle.hq_io.specs.declared.files.File.{File}
use Rattle.hq_model.specs.declared.session.Session.{Session}
use Rattle.hq_live.specs.declared.asker.Asked.{Asked}
use Rattle.hq_live.specs.declared.asker.Asked.TheVariants as asked
use Rattle.hq_live.specs.declared.asker.Reloaded.{Reloaded}
use Rattle.hq_live.specs.declared.asker.Reloaded.TheVariants as reloaded

-- a database, told as the reply that is due over it to a session and a body
abbrev pub Due : Type 0
Due = Session → (body : List ℕ) → List ℕ

-- the databases that the next reloads take: one after the other, the same always, or not told
pub data Next : Type 0 where
  listed : List Due → Next
  always : Due → Next
  untold : Next

-- the count rose from the one number to the other, within these
pub record RoseWithin (old new before after : ℕ) : Type 0 where
  pub from : old ≤ before
  pub rose : Rose before after
  pub to : after ≤ new

-- what asking gives where this reply is due
abbrev pub GaveReply : (due : List ℕ) → (old new : ℕ) → Asked → Type 0
GaveReply due old new (asked.Reply reply) = reply ≡ due
GaveReply due old new (asked.Failed before after) = RoseWithin old new before after
GaveReply due old new asked.Memory = ⊤

-- whether it is told that no database is next, or not told
abbrev pub IsUsedUp : Next → Type 0
IsUsedUp (listed []) = ⊤
IsUsedUp (listed (first ∷ rest)) = ⊥
IsUsedUp (always d) = ⊥
IsUsedUp untold = ⊤

-- the next database is taken
abbrev pub Takes : Due → Next → Next → Type 0
Takes due' (listed []) next' = ⊥
Takes due' (listed (first ∷ rest)) next' = (due' ≡ first) × (next' ≡ listed rest)
Takes due' (always d) next' = (due' ≡ d) × (next' ≡ always d)
Takes due' untold next' = next' ≡ untold

-- what becomes of the databases in a reload that succeeds: the next one is taken, or stays where none is next
abbrev pub Moved : Due → Due → Next → Next → Type 0
Moved due due' (listed []) next' = (due' ≡ due) × (next' ≡ listed [])
Moved due due' (listed (first ∷ rest)) next' = (due' ≡ first) × (next' ≡ listed rest)
Moved due due' (always d) next' = (due' ≡ d) × (next' ≡ always d)
Moved due due' untold next' = next' ≡ untold

-- what reloading gives
abbrev pub Reloads : Due → Due → Next → Next → (old new : ℕ) → Reloaded → Type 0
Reloads due due' next next' old new reloaded.New = Takes due' next next'
Reloads due due' next next' old new reloaded.Same = IsUsedUp next × (due' ≡ due) × (next' ≡ next)
Reloads due due' next next' old new (reloaded.Failed before after) = RoseWithin old new before after × (due' ≡ due) × (next' ≡ next)
Reloads due due' next next' old new reloaded.Memory = (due' ≡ due) × (next' ≡ next)

-- whatever an asker reads from, these calls leave it: files that were those of a folder still are, and no count of theirs fell
abbrev pub KeepsFiles : {A : Type 0} → (reads : Option (List File) → ℕ → A → Type 0) → (old new : A) → Type 0
KeepsFiles reads old new = (folder : Option (List File)) (faults : ℕ) → reads folder faults old → reads folder faults new
