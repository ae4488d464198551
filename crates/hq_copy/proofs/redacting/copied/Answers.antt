use Rattle.std.proofs.Common.{◌≡◌, true, sym, subst}
use Rattle.std.proofs.lemmas.Result.{err_from_is_err_and}
use Rattle.hq_copy_filter.specs.Lent.{database_of}
use Rattle.hq_copy_tables.specs.Originals.{meta_in}
use Rattle.hq_model.specs.Catalog.{is_catalog}
use Rattle.hq_model.specs.Database.{is_database}
use Rattle.hq_copy.specs.Redacting.{Redacts, copy_due}
use Rattle.hq_copy.proofs.Answering.{told_database, want_told, want_unfailed}
use Rattle.hq_copy.proofs.redacting.copied.Goals as goal

pub returns-in_err-rows-clause-due : goal.returns-in_err-rows-clause-due
returns-in_err-rows-clause-due g c =
    let p = err_from_is_err_and c.from_residual.result c.from_residual.ensures.1 in
    let o = c.args.original.now in
    want_told (g.T.Tables.database c.args.tables.now) (λ d. copy_due o.scope.catalog.now.tables (meta_in o) c.args.session.now d) c.from_residual.result p.0 p.1 p.2

pub returns-in_err-rows-clause-failed : goal.returns-in_err-rows-clause-failed
returns-in_err-rows-clause-failed g c =
    let p = err_from_is_err_and c.from_residual.result c.from_residual.ensures.1 in
    want_unfailed c.from_residual.result p.0 p.1 p.2

pub made-requires-clause-catalog : goal.made-requires-clause-catalog
made-requires-clause-catalog g c = subst (λ ts. is_catalog ts ≡ true) (sym c.requires.tables) (g.met.T.Tables.catalog_fits c.args.tables.now)

pub made-requires-clause-valid : goal.made-requires-clause-valid
made-requires-clause-valid g c =
    subst (λ ts. is_database ts (database_of c.deref.result.now) ≡ true) (sym c.requires.tables)
    (subst (λ rows. is_database (g.T.Tables.tables c.args.tables.now) (database_of rows) ≡ true) (sym c.deref.ensures.value) c.in_ok-rows.ensures.valid)

pub returns-clause-due : goal.returns-clause-due
returns-clause-due g c =
    let o = c.args.original.now in
    told_database o.scope.catalog.now.tables (meta_in o) c.args.session.now (g.T.Tables.database c.args.tables.now) (database_of c.in_ok-rows.rows.items) c.made.result
    c.in_ok-rows.ensures.told
    (subst (λ rows. Redacts (copy_due o.scope.catalog.now.tables (meta_in o) c.args.session.now (database_of rows)) c.made.result) c.deref.ensures.value c.made.ensures.due)
