-- A well-formed request of a session is answered over a database as the renumbered one is over the copy of its view.
use Rattle.std.proofs.Common.{◌≡◌, List, length, sym, ap, ◌∙◌, subst}
use Rattle.hq_model.specs.Database.{Row}
use Rattle.hq_model.specs.Grants.{Grants, grants_of, limits}
use Rattle.hq_model.specs.Meta.{MetaTree}
use Rattle.hq_model.specs.Permission.{role_of}
use Rattle.hq_model.specs.Schema.{Schema, schema_of}
use Rattle.hq_model.specs.View.{View, view, seen_in}
use Rattle.hq_model.specs.declared.session.Session.{Session}
use Rattle.hq_model.specs.declared.table.Table.{Table}
use Rattle.hq_request_tree.specs.Allowed.{allowed_to}
use Rattle.hq_request_tree.specs.Request.{AskTree}
use Rattle.hq_request_tree.specs.Resolve.{resolved}
use Rattle.hq_request_tree.specs.Standing.{AllStand}
use Rattle.hq_request_tree.specs.Uses.{UsesAll}
use Rattle.hq_copy_definition.specs.Copied.{Copied, copy_of}
use Rattle.hq_laws_renumbered.specs.Resolving.Copies.{AnsweredAlike}
use Rattle.hq_laws_renumbered.specs.Resolving.Renumbering.{fields_over}
use Rattle.hq_laws_isolation.specs.Laws.{ViewsDecide}
use Rattle.hq_laws_copy.specs.Views.Laws.{numbers, reader_grants, CopyAnswers}
use Rattle.hq_laws_copy.proofs.Views.Copy.{is_copy, limits_are}
use Rattle.hq_laws_copy.proofs.Views.Refused.{given, causes_absent}
use Rattle.hq_copy_definition.proofs.Found.{schema_long}

pub copy_answers : (tables : List Table) (m : MetaTree) (session : Session) (d : List (List Row)) (a : AskTree) (c : Copied)
    → ViewsDecide tables m session a d
    → AnsweredAlike a.fields (schema_of tables m)
    (schema_of (copy_of tables m session (view (schema_of tables m) (grants_of session tables m) d)).tables
    (copy_of tables m session (view (schema_of tables m) (grants_of session tables m) d)).meta)
    (numbers (role_of session.role) m (schema_of tables m)) (view (schema_of tables m) (grants_of session tables m) d) (allowed_to (role_of session.role) m (schema_of tables m))
    (limits (grants_of session tables m))
    (reader_grants (copy_of tables m session (view (schema_of tables m) (grants_of session tables m) d)))
    (copy_of tables m session (view (schema_of tables m) (grants_of session tables m) d)).rows
    → CopyAnswers tables m session d a c
copy_answers tables m session d a c views alike fit done same request =
    let s : Schema = schema_of tables m in
    let g : Grants = grants_of session tables m in
    let v : View = view s g d in
    let made = given _ (copy_of tables m session v) c done in
    let none = causes_absent (role_of session.role) m s session.vars (seen_in v) made.0 in
    let long : length tables ≡ length s = sym (schema_long m 0 tables) in
    let uses : UsesAll a.fields s (allowed_to (role_of session.role) m s) (length s) =
    subst (UsesAll a.fields s (allowed_to (role_of session.role) m s)) long (subst (λ r. UsesAll a.fields s (allowed_to r m s) (length tables)) same request.uses) in
    views same request
    ∙ alike (is_copy tables m session d fit none) (limits_are tables m session d fit none) (subst (AllStand a.fields s) long request.stand) uses
    ∙ ap (λ k. resolved (fields_over a.fields s (numbers (role_of session.role) m s) (length s)) (schema_of k.tables k.meta) (reader_grants k) k.rows) made.1
