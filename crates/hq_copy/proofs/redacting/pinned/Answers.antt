use Rattle.std.proofs.Common.{◌≡◌, ◌<◌, ℕ, List, Option, IfSome, length, true, sym, subst}
use Rattle.hq_copy_tables.specs.Originals.{meta_in}
use Rattle.hq_model.specs.Database.{Row}
use Rattle.hq_model.specs.declared.table.Table.{Table}
use Rattle.hq_copy.specs.Redacting.{Redacts, copy_due}
use Rattle.hq_copy.proofs.Answering.{all_unfailed}
use Rattle.hq_copy.proofs.redacting.pinned.Goals as goal

pub copied-requires-clause-pinned : goal.copied-requires-clause-pinned
copied-requires-clause-pinned g c =
    subst (λ (ts : List Table). (t : ℕ) → t < length ts → g.T.Tables.is_pinned c.pin_all.new.tables t ≡ true) (sym c.in-Ok.ensures.tables) c.in-Ok.ensures.pinned

pub returns-in-Ok-clause-due : goal.returns-in-Ok-clause-due
returns-in-Ok-clause-due g c =
    let o = c.args.original.now in
    subst (λ (x : Option (List (List Row))). IfSome x (λ d. Redacts (copy_due o.scope.catalog.now.tables (meta_in o) c.args.session.now d) c.copied.result)) c.in-Ok.ensures.database
    c.copied.ensures.due

pub returns-in-Ok-clause-failed : goal.returns-in-Ok-clause-failed
returns-in-Ok-clause-failed g c =
    all_unfailed (g.T.Tables.faults c.args.tables.now) (g.T.Tables.faults c.pin_all.new.tables) c.copied.result c.copied.ensures.failed
