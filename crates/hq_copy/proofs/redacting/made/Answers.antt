use Rattle.std.proofs.Common.{Ok, Err, List, ◌∙◌, map, ap, ap₂, sym, subst}
use Rattle.std.proofs.lemmas.Result.{err_from_is_err_and}
use Rattle.hq_copy_definition.specs.Copied.{Copied}
use Rattle.hq_copy_filter.specs.Lent.{database_of}
use Rattle.hq_copy_tables.specs.Originals.{meta_in, role_in, schema_in}
use Rattle.hq_copy_tables.specs.Views.{source_view}
use Rattle.hq_model.specs.Grants.{grants_of}
use Rattle.hq_model.specs.Meta.{meta_view}
use Rattle.hq_model.specs.PermView.{permission_view}
use Rattle.hq_model.specs.Schema.{schema_of}
use Rattle.hq_model.specs.View.{view}
use Rattle.hq_model.specs.declared.perm.PermView.{PermView}
use Rattle.hq_copy.specs.Direct.{lists_due}
use Rattle.hq_copy.specs.Files.{files_of}
use Rattle.hq_copy.specs.Redacting.{copy_due}
use Rattle.hq_copy.proofs.Answering.{copy_given, copy_is_whole, file_answers, file_unfailed, passed_answer, passed_unfailed}
use Rattle.hq_copy.proofs.Planned.{IsTold}
use Rattle.hq_copy.proofs.redacting.made.Goals as goal

pub returns-in_err-check_files-clause-due : goal.returns-in_err-check_files-clause-due
returns-in_err-check_files-clause-due c =
    let o = c.args.original.now in
    let plan = c.args.plan in
    let w = c.requires.plan in
    let same_lists =
    c.in_ok-lists.ensures
    ∙ ap (λ (gs : List PermView). lists_due (role_in o) (meta_in o) (schema_in o) (database_of c.args.rows.now) (map source_view o.sources.now) (map permission_view gs)) c.as_slice.ensures in
    let same_files = ap₂ (λ ts ls. files_of ts ls) c.as_slice-2.ensures c.deref.ensures.value in
    let p = err_from_is_err_and c.from_residual-in_err-check_files.result c.from_residual-in_err-check_files.ensures.1 in
    passed_answer (copy_due o.scope.catalog.now.tables (meta_in o) c.args.session.now (database_of c.args.rows.now)) c.from_residual-in_err-check_files.result c.in_err-check_files.field-0.0
    (p.1 ∙ ap (λ x. Err x) p.2)
    (file_answers o.scope.catalog.now.tables (meta_in o) c.args.session.now (database_of c.args.rows.now) c.requires.fits (role_in o) c.requires.role
    (map source_view o.sources.now) c.requires.original.seen plan.tables (meta_view plan.meta) (map permission_view plan.grants) c.in_ok-lists.lists.items
    w.tables w.meta w.granted w.described same_lists
    c.in_err-check_files.field-0.0 (subst (λ x. IsTold x c.in_err-check_files.field-0.0) same_files c.in_err-check_files.ensures))

pub returns-in_err-check_files-clause-failed : goal.returns-in_err-check_files-clause-failed
returns-in_err-check_files-clause-failed c =
    let p = err_from_is_err_and c.from_residual-in_err-check_files.result c.from_residual-in_err-check_files.ensures.1 in
    let e = c.in_err-check_files.field-0.0 in
    passed_unfailed c.from_residual-in_err-check_files.result e (p.1 ∙ ap (λ x. Err x) p.2)
    (file_unfailed c.as_slice-2.result.now c.deref.result.now e c.in_err-check_files.ensures)

pub copy_of-requires-clause-catalog : goal.copy_of-requires-clause-catalog
copy_of-requires-clause-catalog c =
    let o = c.args.original.now in
    let plan = c.args.plan in
    let w = c.requires.plan in
    let same_lists =
    c.in_ok-lists.ensures
    ∙ ap (λ (gs : List PermView). lists_due (role_in o) (meta_in o) (schema_in o) (database_of c.args.rows.now) (map source_view o.sources.now) (map permission_view gs)) c.as_slice.ensures in
    let same_files = ap₂ (λ ts ls. files_of ts ls) c.as_slice-2.ensures c.deref.ensures.value in
    let ts = o.scope.catalog.now.tables in
    let m = meta_in o in
    let session = c.args.session.now in
    let d = database_of c.args.rows.now in
    let whole =
    copy_is_whole o.scope.catalog.now.tables (meta_in o) c.args.session.now (database_of c.args.rows.now) c.requires.fits (role_in o) c.requires.role
    (map source_view o.sources.now) c.requires.original.seen plan.tables (meta_view plan.meta) (map permission_view plan.grants) c.in_ok-lists.lists.items
    w.tables w.meta w.granted w.described same_lists
    (λ (k : Copied). c.copied_metadata_fits.ensures ts m session (view (schema_of ts m) (grants_of session ts m) d) k)
    (λ (k : Copied). c.copied_rows_fit.ensures ts m session d k) c.requires.catalog c.requires.valid (sym same_files ∙ c.in_ok-check_files.ensures) in
    whole.0

pub copy_of-requires-clause-fits : goal.copy_of-requires-clause-fits
copy_of-requires-clause-fits c =
    let o = c.args.original.now in
    let plan = c.args.plan in
    let w = c.requires.plan in
    let same_lists =
    c.in_ok-lists.ensures
    ∙ ap (λ (gs : List PermView). lists_due (role_in o) (meta_in o) (schema_in o) (database_of c.args.rows.now) (map source_view o.sources.now) (map permission_view gs)) c.as_slice.ensures in
    let same_files = ap₂ (λ ts ls. files_of ts ls) c.as_slice-2.ensures c.deref.ensures.value in
    let ts = o.scope.catalog.now.tables in
    let m = meta_in o in
    let session = c.args.session.now in
    let d = database_of c.args.rows.now in
    let whole =
    copy_is_whole o.scope.catalog.now.tables (meta_in o) c.args.session.now (database_of c.args.rows.now) c.requires.fits (role_in o) c.requires.role
    (map source_view o.sources.now) c.requires.original.seen plan.tables (meta_view plan.meta) (map permission_view plan.grants) c.in_ok-lists.lists.items
    w.tables w.meta w.granted w.described same_lists
    (λ (k : Copied). c.copied_metadata_fits.ensures ts m session (view (schema_of ts m) (grants_of session ts m) d) k)
    (λ (k : Copied). c.copied_rows_fit.ensures ts m session d k) c.requires.catalog c.requires.valid (sym same_files ∙ c.in_ok-check_files.ensures) in
    whole.1

pub copy_of-requires-clause-valid : goal.copy_of-requires-clause-valid
copy_of-requires-clause-valid c =
    let o = c.args.original.now in
    let plan = c.args.plan in
    let w = c.requires.plan in
    let same_lists =
    c.in_ok-lists.ensures
    ∙ ap (λ (gs : List PermView). lists_due (role_in o) (meta_in o) (schema_in o) (database_of c.args.rows.now) (map source_view o.sources.now) (map permission_view gs)) c.as_slice.ensures in
    let same_files = ap₂ (λ ts ls. files_of ts ls) c.as_slice-2.ensures c.deref.ensures.value in
    let ts = o.scope.catalog.now.tables in
    let m = meta_in o in
    let session = c.args.session.now in
    let d = database_of c.args.rows.now in
    let whole =
    copy_is_whole o.scope.catalog.now.tables (meta_in o) c.args.session.now (database_of c.args.rows.now) c.requires.fits (role_in o) c.requires.role
    (map source_view o.sources.now) c.requires.original.seen plan.tables (meta_view plan.meta) (map permission_view plan.grants) c.in_ok-lists.lists.items
    w.tables w.meta w.granted w.described same_lists
    (λ (k : Copied). c.copied_metadata_fits.ensures ts m session (view (schema_of ts m) (grants_of session ts m) d) k)
    (λ (k : Copied). c.copied_rows_fit.ensures ts m session d k) c.requires.catalog c.requires.valid (sym same_files ∙ c.in_ok-check_files.ensures) in
    whole.2

pub returns-clause-due : goal.returns-clause-due
returns-clause-due c =
    let o = c.args.original.now in
    let plan = c.args.plan in
    let w = c.requires.plan in
    let same_lists =
    c.in_ok-lists.ensures
    ∙ ap (λ (gs : List PermView). lists_due (role_in o) (meta_in o) (schema_in o) (database_of c.args.rows.now) (map source_view o.sources.now) (map permission_view gs)) c.as_slice.ensures in
    let same_files = ap₂ (λ ts ls. files_of ts ls) c.as_slice-2.ensures c.deref.ensures.value in
    copy_given o.scope.catalog.now.tables (meta_in o) c.args.session.now (database_of c.args.rows.now) c.requires.fits (role_in o) c.requires.role
    (map source_view o.sources.now) c.requires.original.seen plan.tables (meta_view plan.meta) (map permission_view plan.grants) c.in_ok-lists.lists.items
    w.tables w.meta w.granted w.described same_lists
    (sym same_files ∙ c.in_ok-check_files.ensures)
    ∙ sym (ap Ok c.in_ok-copy_of.ensures)
