-- What a body makes for a copy's reader is what it makes for the session, in the numbers of the copy.
use Rattle.std.proofs.Common.{◌≡◌, ◌∙◌, refl, sym, ap, ap₂, subst, ℕ, List, length, Result, Ok, Err}
use Rattle.hq_base.specs.Due.{mapped, and_then, ◌>>=◌}
use Rattle.hq_base.specs.Json.{JsonTree}
use Rattle.hq_base.specs.Lists.{Each}
use Rattle.hq_request_build.specs.Due.{operation_of, collected_due, root_due, with_fault, bound_in, build_due}
use Rattle.hq_request_build.specs.KnownField.{Due}
use Rattle.hq_request_tree.specs.Fields.{FieldTrees}
use Rattle.hq_request_tree.specs.Request.{BoundTree, AskTree}
use Rattle.hq_request_tree.specs.Touched.{touched}
use Rattle.hq_request_build.specs.Bound.{bounds_due}
use Rattle.hq_request_build.specs.Laws.{request_of}
use Rattle.hq_request_coerce.specs.Choice.{operation_at}
use Rattle.hq_request_coerce.specs.Due.{variables_due}
use Rattle.hq_request_coerce.specs.Variables.{VarTree}
use Rattle.hq_request_collect.specs.Tree.{CollectedTrees}
use Rattle.hq_gql_tree.specs.Documents.{DocumentTree}
use Rattle.hq_request.specs.Operation.{of_coerce, operation_due, values_due, ask_due, operation_ask}
use Rattle.hq_request.specs.Reading.{refused_as, json_due, query_due, document_due}
use Rattle.hq_request.specs.Request.{request_by}
use Rattle.hq_request.specs.Validation.{earlier, unless_fault, valid_due}
use Rattle.hq_request.specs.declared.refusal.RequestRefusal.{RequestRefusal}
use Rattle.hq_schema_of_role.specs.RoleSchema.{role_schema}
use Rattle.hq_schema_roles.specs.Access.{access_of}
use Rattle.hq_schema_roles.specs.Leads.{TypeFits}
use Rattle.hq_rules_doc.specs.First.{first_doc_fault}
use Rattle.hq_rules_fields.specs.First.{first_field_fault}
use Rattle.hq_base.specs.Look.{member_in}
use Rattle.std.specs.Prelude.{Option, codes}
use Rattle.hq_schema.specs.Schema.{SchemaTree}
use Rattle.hq_laws_renumbered.specs.Schemas.Blank.{blank}
use Rattle.hq_laws_renumbered.specs.Schemas.SchemaOver.{schema_over}
use Rattle.hq_model.specs.Database.{Row}
use Rattle.hq_model.specs.Meta.{MetaTree}
use Rattle.hq_model.specs.Permission.{role_of}
use Rattle.hq_model.specs.Schema.{Schema, schema_of}
use Rattle.hq_model.specs.View.{View, seen_in}
use Rattle.hq_model.specs.declared.role.Role.{Role}
use Rattle.hq_model.specs.declared.role.Role.TheVariants.{Named}
use Rattle.hq_model.specs.declared.session.Session.{Session}
use Rattle.hq_model.specs.declared.table.Table.{Table}
use Rattle.hq_copy_definition.specs.Copied.{Copied, copy_of}
use Rattle.hq_copy_definition.specs.Metadata.{reader}
use Rattle.hq_laws_copy.specs.Schemas.Laws.{SchemaRenumbered}
use Rattle.hq_laws_copy.specs.Views.Laws.{numbers, reader_session}
use Rattle.hq_laws_copy.proofs.Views.Refused.{given, causes_absent}
use Rattle.hq_laws_renumbered.specs.Resolving.Renumbering.{Renumbering, fields_over}
use Rattle.hq_laws_renumbered.specs.Requests.Alike.{TablesAlike}
use Rattle.hq_laws_renumbered.specs.Requests.Laws.{FieldsRenumbered}
use Rattle.hq_laws_copy_replies.specs.Requests.Laws.{session_view, RequestsRenumbered}
use Rattle.hq_laws_copy_replies.proofs.Requests.Alike.{alike}
use Rattle.hq_laws_copy_replies.proofs.Requests.Bound.{all_bind, session_binds, reader_binds}
use Rattle.hq_laws_copy_replies.proofs.Requests.OfRole.{of_role}

-- a step that gives the same on both sides
same_step : {X Y V W E : Type 0} (F : Y → W) (G : V → W) (f : X → Result Y E) (k : X → Result V E) (x y : Result X E) → y ≡ x → ((v : X) → mapped G (k v) ≡ mapped F (f v))
    → mapped G (and_then k y) ≡ mapped F (and_then f x)
same_step F G f k (Ok v) y e step = ap (λ w. mapped G (and_then k w)) e ∙ step v
same_step F G f k (Err z) y e step = ap (λ w. mapped G (and_then k w)) e

-- a value and its refusal, under other refusals
refused_mapped : {X Y E D : Type 0} (F : X → Y) (h : E → D) (x : Result X E) → mapped F (refused_as h x) ≡ refused_as h (mapped F x)
refused_mapped F h (Ok v) = refl
refused_mapped F h (Err z) = refl

refused_step : {X Y V E D : Type 0} (F : X → Y) (G : V → Y) (h : E → D) (x : Result X E) (y : Result V E) → mapped G y ≡ mapped F x → mapped G (refused_as h y) ≡ mapped F (refused_as h x)
refused_step F G h x y e = refused_mapped G h y ∙ ap (refused_as h) e ∙ sym (refused_mapped F h x)

module _ (R : SchemaTree) (tables : List Table) (m : MetaTree) (session : Session) (ct : List Table) (cm : MetaTree) (n : Renumbering)
    (same : (q : SchemaTree) → blank (schema_over n q) ≡ blank q)
    (documents : (q : SchemaTree) (d : DocumentTree) → first_doc_fault (blank q) d ≡ first_doc_fault q d)
    (fields : (q : SchemaTree) (d : DocumentTree) → first_field_fault (blank q) d ≡ first_field_fault q d)
    (variables : (q : SchemaTree) (d : DocumentTree) (op : ℕ) (values : Option JsonTree) → variables_due (blank q) d op values ≡ variables_due q d op values)
    (roots : (vars : List VarTree) (fs : CollectedTrees)
    → root_due vars (schema_over n R) (schema_of ct cm) (length ct) fs
    ≡ mapped (λ asks. fields_over asks (schema_of tables m) n (length tables)) (root_due vars R (schema_of tables m) (length tables) fs))
    (binds : (ts : List ℕ) → (bs : List BoundTree) × (bounds_due (role_of session.role) m (schema_of tables m) session.vars ts ≡ Ok bs))
    (reader_bound : (ts : List ℕ) → (bs : List BoundTree) × (bounds_due (role_of reader_session.role) cm (schema_of ct cm) reader_session.vars ts ≡ Ok bs)) where
  abbrev s : Schema
  s = schema_of tables m

  abbrev z : Schema
  z = schema_of ct cm

  abbrev over : FieldTrees → FieldTrees
  over fs = fields_over fs s n (length tables)

  abbrev F : AskTree → FieldTrees
  F a = over a.fields

  abbrev G : AskTree → FieldTrees
  G a = a.fields

  -- ---- what is built

  abbrev bound_here : FieldTrees → Due AskTree
  bound_here fs = bound_in m s session (length tables) fs >>= λ bs. Ok (request_of session fs bs)

  abbrev bound_there : FieldTrees → Due AskTree
  bound_there fs = bound_in cm z reader_session (length ct) fs >>= λ bs. Ok (request_of reader_session fs bs)

  bound_alike : (fs : FieldTrees) → mapped G (bound_there (over fs)) ≡ mapped F (bound_here fs)
  bound_alike fs =
      let b = binds (touched fs s (length tables)) in
      let c = reader_bound (touched (over fs) z (length ct)) in
      ap (λ w. mapped G (and_then (λ bs. Ok (request_of reader_session (over fs) bs)) (with_fault w))) c.1
      ∙ sym (ap (λ w. mapped F (and_then (λ bs. Ok (request_of session fs bs)) (with_fault w))) b.1)

  asked_alike : (x y : Due FieldTrees) → y ≡ mapped over x → mapped G (and_then bound_there y) ≡ mapped F (and_then bound_here x)
  asked_alike (Ok fs) y e = ap (λ w. mapped G (and_then bound_there w)) e ∙ bound_alike fs
  asked_alike (Err f) y e = ap (λ w. mapped G (and_then bound_there w)) e

  built_alike : (d : DocumentTree) (op : ℕ) (vars : List VarTree) → mapped G (build_due d op vars (schema_over n R) ct cm reader_session) ≡ mapped F (build_due d op vars R tables m session)
  unfolding build_due
  built_alike d op vars =
      same_step F G (λ o. collected_due d vars o >>= λ fs. root_due vars R s (length tables) fs >>= bound_here)
      (λ o. collected_due d vars o >>= λ fs. root_due vars (schema_over n R) z (length ct) fs >>= bound_there) (operation_of (operation_at d op)) (operation_of (operation_at d op)) refl
      (λ o. same_step F G (λ fs. root_due vars R s (length tables) fs >>= bound_here)
      (λ fs. root_due vars (schema_over n R) z (length ct) fs >>= bound_there) (collected_due d vars o) (collected_due d vars o) refl
      (λ fs. asked_alike (root_due vars R s (length tables) fs) (root_due vars (schema_over n R) z (length ct) fs) (roots vars fs)))

  -- ---- validation and variables

  valid_same : (d : DocumentTree) → valid_due (schema_over n R) d ≡ valid_due R d
  valid_same d =
      let one : first_doc_fault (schema_over n R) d ≡ first_doc_fault R d = sym (documents (schema_over n R) d) ∙ ap (λ q. first_doc_fault q d) (same R) ∙ documents R d in
      let two : first_field_fault (schema_over n R) d ≡ first_field_fault R d = sym (fields (schema_over n R) d) ∙ ap (λ q. first_field_fault q d) (same R) ∙ fields R d in
      ap₂ (λ x y. unless_fault (earlier x y) d) one two

  values_same : (json : JsonTree) (d : DocumentTree) (op : ℕ) → values_due (schema_over n R) json d op ≡ values_due R json d op
  values_same json d op =
      let values = member_in json (codes "variables") in
      ap (refused_as of_coerce) (sym (variables (schema_over n R) d op values) ∙ ap (λ q. variables_due q d op values) (same R) ∙ variables R d op values)

  -- ---- all

  operation_alike : (json : JsonTree) (d : DocumentTree) → mapped G (operation_ask (schema_over n R) ct cm reader_session json d) ≡ mapped F (operation_ask R tables m session json d)
  operation_alike json d =
      same_step F G (λ op. values_due R json d op >>= ask_due R tables m session d op) (λ op. values_due (schema_over n R) json d op >>= ask_due (schema_over n R) ct cm reader_session d op)
      (operation_due json d) (operation_due json d) refl
      (λ op. same_step F G (ask_due R tables m session d op) (ask_due (schema_over n R) ct cm reader_session d op) (values_due R json d op)
      (values_due (schema_over n R) json d op) (values_same json d op)
      (λ vars. refused_step F G of_coerce (build_due d op vars R tables m session) (build_due d op vars (schema_over n R) ct cm reader_session) (built_alike d op vars)))

  pub made_alike : (body : List ℕ) → mapped G (request_by (schema_over n R) ct cm reader_session body) ≡ mapped F (request_by R tables m session body)
  unfolding request_by
  made_alike body =
      let whole : SchemaTree → List Table → MetaTree → Session → JsonTree → DocumentTree → Result AskTree RequestRefusal =
      λ q ts k who json d. valid_due q d >>= operation_ask q ts k who json in
      same_step F G (λ json. query_due json >>= λ text. document_due text >>= whole R tables m session json)
      (λ json. query_due json >>= λ text. document_due text >>= whole (schema_over n R) ct cm reader_session json)
      (json_due body) (json_due body) refl
      (λ json. same_step F G (λ text. document_due text >>= whole R tables m session json)
      (λ text. document_due text >>= whole (schema_over n R) ct cm reader_session json) (query_due json) (query_due json) refl
      (λ text. same_step F G (whole R tables m session json) (whole (schema_over n R) ct cm reader_session json) (document_due text) (document_due text) refl
      (λ d. same_step F G (operation_ask R tables m session json) (operation_ask (schema_over n R) ct cm reader_session json)
      (valid_due R d) (valid_due (schema_over n R) d) (valid_same d) (operation_alike json))))

-- the law, where those of its parts hold
pub renumbered : (tables : List Table) (m : MetaTree) (session : Session) (d : List (List Row)) (c : Copied) (body : List ℕ)
    → ((q : SchemaTree) → blank (schema_over (numbers (role_of session.role) m (schema_of tables m)) q) ≡ blank q)
    → ((q : SchemaTree) (d : DocumentTree) → first_doc_fault (blank q) d ≡ first_doc_fault q d)
    → ((q : SchemaTree) (d : DocumentTree) → first_field_fault (blank q) d ≡ first_field_fault q d)
    → ((q : SchemaTree) (d : DocumentTree) (op : ℕ) (values : Option JsonTree) → variables_due (blank q) d op values ≡ variables_due q d op values)
    → Each (TypeFits (role_schema tables m (role_of session.role)).types (access_of m (role_of session.role))) (role_schema tables m (role_of session.role)).types
    → SchemaRenumbered tables m session (session_view tables m session d) c
    → ((z : Schema) (vars : List VarTree) (root there : ℕ) (fs : CollectedTrees)
    → FieldsRenumbered (schema_of tables m) z (numbers (role_of session.role) m (schema_of tables m)) (access_of m (role_of session.role))
    (role_schema tables m (role_of session.role)) vars root there fs)
    → RequestsRenumbered tables m session d c body
renumbered tables m session d c body same documents fields variables leads schema asks fit done =
    let role : Role = role_of session.role in
    let s : Schema = schema_of tables m in
    let n : Renumbering = numbers role m s in
    let R : SchemaTree = role_schema tables m role in
    let v : View = session_view tables m session d in
    let made = given _ (copy_of tables m session v) c done in
    let none = causes_absent role m s session.vars (seen_in v) made.0 in
    let tables_alike : TablesAlike s (schema_of c.tables c.meta) n (access_of m role) =
    subst (λ (k : Copied). TablesAlike s (schema_of k.tables k.meta) n (access_of m role)) made.1 (alike tables m session d fit none) in
    let reads : (ts : List ℕ) → (bs : List BoundTree) × (bounds_due (Named reader) c.meta (schema_of c.tables c.meta) reader_session.vars ts ≡ Ok bs) =
    subst (λ (k : Copied). (ts : List ℕ) → (bs : List BoundTree) × (bounds_due (Named reader) k.meta (schema_of k.tables k.meta) reader_session.vars ts ≡ Ok bs)) made.1
    (λ ts. all_bind (Named reader) (copy_of tables m session v).meta (schema_of (copy_of tables m session v).tables (copy_of tables m session v).meta) reader_session.vars
    (reader_binds tables m role fit reader_session.vars) ts) in
    let G : AskTree → FieldTrees = λ a. a.fields in
    ap (λ q. mapped G (request_by q c.tables c.meta reader_session body)) (schema fit done)
    ∙ made_alike R tables m session c.tables c.meta n same documents fields variables
    (λ vars fs. asks (schema_of c.tables c.meta) vars (length tables) (length c.tables) fs (of_role tables m role leads) tables_alike)
    (all_bind role m s session.vars (session_binds role m s session.vars none.bind)) reads body
