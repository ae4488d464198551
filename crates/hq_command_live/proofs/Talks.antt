-- How a run of `live` ends, by its parts.
use Rattle.std.proofs.Common.{◌≡◌, ◌∙◌, ℕ, true, List, [], Option, Some, Result, Ok, Err, refl, ap, subst}
use Rattle.std.specs.Result.{is_err, OnErr}
use Rattle.hq_io.specs.declared.files.File.{File}
use Rattle.hq_model.specs.Database.{Row}
use Rattle.hq_model.specs.Meta.{MetaTree}
use Rattle.hq_model.specs.declared.table.Table.{Table}
use Rattle.hq_session.specs.Secret.{AllowedBySecret}
use Rattle.hq_session.specs.declared.secret.SecretRule.{SecretRule}
use Rattle.hq_serve.specs.declared.serving.ServeRefusal.{ServeRefusal}
use Rattle.hq_live.specs.Asking.{Due, Next}
use Rattle.hq_live.specs.Runs.{Standing, standing}
use Rattle.hq_live.specs.declared.event.Subscription.{Subscription}
use Rattle.hq_laws_live.specs.Worlds.{due_over}
use Rattle.hq_live_serve.specs.Talking.{ToldLink}
use Rattle.hq_live_serve.specs.Serving.{ServesTalks}
use Rattle.hq_load.specs.Loading.{Contents}
use Rattle.hq_live_asker.specs.Asker.{due_of, next_of}
use Rattle.hq_command_serve.specs.Serving.{SeenDoor, OpensOver}
use Rattle.hq_command_serve.proofs.Servings.{opens_weaker}
use Rattle.hq_command_live.specs.Living.{BeginsOver, TalksFrom, TalksOver}

-- an asker over an instance of these contents begins over them
begins_over : (held : Contents) (files : Option (List File)) (dir : List ℕ) (tables : List Table) (meta : MetaTree) (database : Option (List (List Row))) (faults : ℕ)
    → tables ≡ held.tables → meta ≡ held.meta → database ≡ Some held.rows → BeginsOver held files dir (standing (due_of tables meta database) (next_of tables meta files dir) faults [])
begins_over held files dir tables meta database faults same_tables same_meta told = record {
  due = ap (due_of tables meta) told ∙ (ap (λ ts. due_over ts meta held.rows) same_tables ∙ ap (λ m. due_over held.tables m held.rows) same_meta);
  next = ap (λ ts. next_of ts meta files dir) same_tables ∙ ap (λ m. next_of held.tables m files dir) same_meta;
  none = refl;
}

module _ {L : Type 0} (t : ToldLink L) (rule : SecretRule) (n : ℕ) where
  -- a hall that was opened is the one that was there
  pub hall_same : (a b c : SeenDoor L) (old new : Option (List ℕ)) (first : Standing) (result : Result (Unit {0}) ServeRefusal) → b.accepted ≡ a.accepted → b.links ≡ a.links
      → TalksFrom t rule n b c old new first result → TalksFrom t rule n a c old new first result
  hall_same a b c old new first result same_count same_links s =
      let at_count = subst (λ (k : ℕ). ServesTalks (AllowedBySecret rule) t n first s.last k c.accepted b.links c.links old new result) same_count s.serves in
      record { last = s.last; serves = subst (λ (ls : Option (List L)). ServesTalks (AllowedBySecret rule) t n first s.last a.accepted c.accepted ls c.links old new result) same_links at_count }

  -- talks over an instance of what a directory holds
  pub opens_held : (a c : SeenDoor L) (old new : Option (List ℕ)) (files : Option (List File)) (dir : List ℕ) (held : Contents)
      (tables : List Table) (meta : MetaTree) (database : Option (List (List Row))) (faults : ℕ)
      (result : Result (Unit {0}) ServeRefusal) → tables ≡ held.tables → meta ≡ held.meta → database ≡ Some held.rows
      → OpensOver a c old new (TalksFrom t rule n a c old new (standing (due_of tables meta database) (next_of tables meta files dir) faults [])) result
      → OpensOver a c old new (TalksOver t rule n a c old new files dir held) result
  opens_held a c old new files dir held tables meta database faults result same_tables same_meta told s =
      let first : Standing = standing (due_of tables meta database) (next_of tables meta files dir) faults [] in
      opens_weaker a c old new (TalksFrom t rule n a c old new first) (TalksOver t rule n a c old new files dir held) result
      (λ r k. record { first = first; begins = begins_over held files dir tables meta database faults same_tables same_meta told; talks = k }) s

-- talks by a rule are those by an equal one, and begin without a subscription
pub held_talks : {L : Type 0} (t : ToldLink L) (rule r : SecretRule) (n : ℕ) (before after : SeenDoor L) (old new : Option (List ℕ))
    (due : Due) (next : Next) (faults : ℕ) (subs : List Subscription) (last : Standing) (result : Result (Unit {0}) ServeRefusal)
    → r ≡ rule → subs ≡ [] → ServesTalks (AllowedBySecret r) t n (standing due next faults subs) last before.accepted after.accepted before.links after.links old new result
    → TalksFrom t rule n before after old new (standing due next faults []) result
held_talks t rule r n before after old new due next faults subs last result same_rule none s = record {
  last = last;
  serves =
      subst (λ (k : SecretRule). ServesTalks (AllowedBySecret k) t n (standing due next faults []) last before.accepted after.accepted before.links after.links old new result) same_rule
      (subst (λ (ss : List Subscription). ServesTalks (AllowedBySecret r) t n (standing due next faults ss) last before.accepted after.accepted before.links after.links old new result) none s);
}

-- where a call failed, what is said of its failing holds
pub where_failed : {T E : Type 0} {P : Type 0} (r : Result T E) → is_err r ≡ true → OnErr r P → P
where_failed (Ok x) is holds = cc
where_failed (Err e) is holds = holds
