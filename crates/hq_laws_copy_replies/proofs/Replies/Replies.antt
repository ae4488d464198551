-- Replies to requests that are alike are the same.
use Rattle.std.proofs.Common.{◌≡◌, ◌∙◌, refl, sym, ap, ap₂, ℕ, List, [], length, Result, Ok, Err, Some}
use Rattle.hq_request_tree.specs.Fields.{FieldTrees, no_field, field, FieldTree, column, typename, no_queries, object, list, by_key, aggregate, introspect}
use Rattle.hq_request_tree.specs.Introspection.{IntrospectionTree}
use Rattle.hq_request_tree.specs.Request.{AskTree}
use Rattle.hq_request_tree.specs.Resolve.{resolve_all, resolved}
use Rattle.hq_base.specs.Due.{mapped}
use Rattle.hq_base.specs.Json.{JsonTree, obj, member}
use Rattle.hq_copy_definition.specs.Copied.{Copied}
use Rattle.hq_copy_definition.specs.Metadata.{reader}
use Rattle.hq_copy_definition.proofs.Found.{schema_long}
use Rattle.hq_laws_copy.specs.Schemas.Laws.{SchemaRenumbered}
use Rattle.hq_laws_copy.specs.Views.Laws.{numbers, reader_session, reader_grants, CopyAnswers}
use Rattle.hq_engine.specs.Replies.{due_object, reply_to}
use Rattle.hq_faults.specs.FaultTexts.{fault_text}
use Rattle.hq_request_introspect.specs.Answers.{answered}
use Rattle.hq_laws_renumbered.specs.Resolving.Renumbering.{Renumbering, fields_over, field_over}
use Rattle.hq_reply.specs.DataTexts.{data_text}
use Rattle.hq_reply.specs.RootObject.{root_value, root_members, of_database, root_object}
use Rattle.hq_request.specs.Request.{request_due}
use Rattle.hq_request.specs.declared.refusal.RequestRefusal.{RequestRefusal}
use Rattle.hq_request.specs.declared.refusal.RequestRefusal.TheVariants.{Fault, Memory}
use Rattle.hq_laws_request.specs.Formed.Formed.{MakesFormed}
use Rattle.hq_schema_of_role.specs.RoleSchema.{role_schema}
use Rattle.hq_schema.specs.Schema.{SchemaTree}
use Rattle.hq_laws_renumbered.specs.Schemas.Blank.{blank}
use Rattle.hq_laws_renumbered.specs.Schemas.SchemaOver.{schema_over}
use Rattle.hq_model.specs.Database.{Row}
use Rattle.hq_model.specs.Grants.{Grants, grants_of, limits}
use Rattle.hq_model.specs.Meta.{MetaTree}
use Rattle.hq_model.specs.Permission.{role_of}
use Rattle.hq_model.specs.Permitted.{seen_by}
use Rattle.hq_model.specs.Schema.{Schema, schema_of}
use Rattle.hq_model.specs.declared.role.Role.{Role}
use Rattle.hq_model.specs.declared.role.Role.TheVariants.{Named}
use Rattle.hq_model.specs.declared.session.Session.{Session}
use Rattle.hq_model.specs.declared.table.Table.{Table}
use Rattle.hq_laws_copy_replies.specs.Requests.Laws.{session_view, RequestsRenumbered}
use Rattle.hq_laws_copy_replies.specs.Replies.Laws.{RepliesAlike}

-- ---- the object of root fields

module _ (R Q : SchemaTree) (answers : (f : IntrospectionTree) → answered Q f ≡ answered R f) (s z : Schema) (n : Renumbering) (g h : Grants) (d e : List (List Row)) where
  abbrev resolved_here : FieldTree → JsonTree
  resolved_here f = of_database s g d f

  abbrev resolved_there : FieldTree → JsonTree
  resolved_there f = of_database z h e (field_over f s n (length s))

  -- a root field that starts at a table gives what is resolved, and the others are the same
  value_same : (f : FieldTree) → resolved_here f ≡ resolved_there f → root_value Q (of_database z h e) (field_over f s n (length s)) ≡ root_value R (of_database s g d) f
  value_same (column c) same = refl
  value_same (typename name) same = refl
  value_same no_queries same = refl
  value_same (object r fs) same = refl
  value_same (list o a fs) same = sym same
  value_same (by_key u key fs) same = sym same
  value_same (aggregate o a ps) same = sym same
  value_same (introspect f) same = answers f

  members_same : (fs : FieldTrees) → resolve_all fs s (limits g) (seen_by s g d) (length s) [] ≡ resolve_all (fields_over fs s n (length s)) z (limits h) (seen_by z h e) (length z) []
      → root_members Q (of_database z h e) (fields_over fs s n (length s)) ≡ root_members R (of_database s g d) fs
  members_same no_field same = refl
  members_same (field key f fs) same =
      let both : member key (resolved_here f) (resolve_all fs s (limits g) (seen_by s g d) (length s) [])
      ≡ member key (resolved_there f) (resolve_all (fields_over fs s n (length s)) z (limits h) (seen_by z h e) (length z) []) = same in
      let first : resolved_here f ≡ resolved_there f = cc in
      let rest : resolve_all fs s (limits g) (seen_by s g d) (length s) [] ≡ resolve_all (fields_over fs s n (length s)) z (limits h) (seen_by z h e) (length z) [] = cc in
      ap₂ (member key) (value_same f first) (members_same fs rest)

  pub object_same : (fs : FieldTrees) → resolved fs s g d ≡ resolved (fields_over fs s n (length s)) z h e → root_object Q z h e (fields_over fs s n (length s)) ≡ root_object R s g d fs
  object_same fs same =
      let members : resolve_all fs s (limits g) (seen_by s g d) (length s) [] ≡ resolve_all (fields_over fs s n (length s)) z (limits h) (seen_by z h e) (length z) [] = cc in
      ap obj (members_same fs members)

-- ---- the law, where those of its parts hold

module _ (tables : List Table) (m : MetaTree) (session : Session) (d : List (List Row)) (c : Copied) (body : List ℕ) where
  abbrev role : Role
  role = role_of session.role

  abbrev s : Schema
  s = schema_of tables m

  abbrev z : Schema
  z = schema_of c.tables c.meta

  abbrev n : Renumbering
  n = numbers role m s

  abbrev R : SchemaTree
  R = role_schema tables m role

  abbrev Q : SchemaTree
  Q = role_schema c.tables c.meta (Named reader)

  looked : Q ≡ schema_over n R → ((q : SchemaTree) → blank (schema_over n q) ≡ blank q) → ((q : SchemaTree) (f : IntrospectionTree) → answered (blank q) f ≡ answered q f)
      → (f : IntrospectionTree) → answered Q f ≡ answered R f
  looked schema same answers f = ap (λ q. answered q f) schema ∙ sym (answers (schema_over n R) f) ∙ ap (λ q. answered q f) (same R) ∙ answers R f

  object_alike : ((f : IntrospectionTree) → answered Q f ≡ answered R f) → (a b : AskTree) → b.fields ≡ fields_over a.fields s n (length tables)
      → resolved a.fields s (grants_of session tables m) d ≡ resolved (fields_over a.fields s n (length s)) z (reader_grants c) c.rows
      → due_object c.tables c.meta reader_session c.rows b ≡ due_object tables m session d a
  object_alike answers a b fields same =
      let long : length tables ≡ length s = sym (schema_long m 0 tables) in
      ap (root_object Q z (reader_grants c) c.rows) (fields ∙ ap (fields_over a.fields s n) long)
      ∙ object_same R Q answers s z n (grants_of session tables m) (reader_grants c) d c.rows a.fields same

  told_alike : (x y : Result AskTree RequestRefusal) → mapped (λ (a : AskTree). a.fields) y ≡ mapped (λ (a : AskTree). fields_over a.fields s n (length tables)) x
      → ((a b : AskTree) → x ≡ Ok a → b.fields ≡ fields_over a.fields s n (length tables) → due_object c.tables c.meta reader_session c.rows b ≡ due_object tables m session d a)
      → reply_to c.tables c.meta reader_session c.rows y ≡ reply_to tables m session d x
  told_alike (Ok a) (Ok b) e same = let fields : b.fields ≡ fields_over a.fields s n (length tables) = cc in ap (λ w. Some (data_text w)) (same a b refl fields)
  told_alike (Ok a) (Err f) e same = cc
  told_alike (Err f) (Ok b) e same = cc
  told_alike (Err (Fault f)) (Err (Fault g)) e same = let one : Fault g ≡ Fault f = cc in let two : g ≡ f = cc in ap (λ w. Some (fault_text w)) two
  told_alike (Err (Fault f)) (Err Memory) e same = cc
  told_alike (Err Memory) (Err (Fault g)) e same = cc
  told_alike (Err Memory) (Err Memory) e same = refl

  pub replies_alike : RequestsRenumbered tables m session d c body → ((a : AskTree) → MakesFormed tables m session body a) → ((a : AskTree) → CopyAnswers tables m session d a c)
      → SchemaRenumbered tables m session (session_view tables m session d) c → ((q : SchemaTree) → blank (schema_over n q) ≡ blank q)
      → ((q : SchemaTree) (f : IntrospectionTree) → answered (blank q) f ≡ answered q f) → RepliesAlike tables m session d c body
  replies_alike asked formed alike schema same answers catalog fit done =
      told_alike (request_due tables m session body) (request_due c.tables c.meta reader_session body) (asked fit done)
      (λ a b made fields.
      let is = formed a catalog fit made in
      object_alike (looked (schema fit done) same answers) a b fields (alike a fit done is.granted.role is.formed))
