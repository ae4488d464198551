-- What `sql` writes is said yes to.
use Rattle.std.proofs.Common.{◌≡◌, ◌∙◌, ◌⊎◌, inl, inr, ℕ, ◌+◌, ◌-◌, ◌≤◌, List, [], length, take, get_or, Bool, true, false, cond, Some, None, Result, Ok, Err, refl, sym, ap, subst, arith}
use Rattle.std.specs.Prelude.{codes, unwrap_or, nat_lt, ◌==◌}
use Rattle.std.proofs.lemmas.List.{length-append, get_or_at, take_at}
use Rattle.hq_request_tree.specs.Request.{AskTree}
use Rattle.hq_base.specs.Due.{◌>>=◌}
use Rattle.hq_translation.specs.Asked.{asked_statement}
use Rattle.hq_confine_rules.specs.Faults.{faults, worst}
use Rattle.hq_engine.specs.Asking.{text_for}
use Rattle.hq_engine.specs.Statements.{HasStatement, IsStatement}
use Rattle.hq_load.specs.Loading.{Described}
use Rattle.hq_io.specs.declared.files.File.{File}
use Rattle.hq_reply.specs.RootObject.{has_table_field}
use Rattle.hq_request.specs.Request.{request_due}
use Rattle.hq_request.specs.declared.refusal.RequestRefusal.{RequestRefusal}
use Rattle.hq_request.specs.declared.refusal.RequestRefusal.TheVariants as request
use Rattle.hq_session.specs.Sessions.{session_of}
use Rattle.hq_session.specs.declared.header.Header.{Header}
use Rattle.hq_sql_text.specs.Readable.{Spells}
use Rattle.hq_sql_tree.specs.Spelling.{select_text}
use Rattle.hq_sql_tree.specs.Tree.{SelectTree}
use Rattle.hq_model.specs.Grants.{grants_of}
use Rattle.hq_model.specs.Meta.{MetaTree}
use Rattle.hq_model.specs.Schema.{schema_of}
use Rattle.hq_model.specs.declared.session.Session.{Session}
use Rattle.hq_model.specs.declared.table.Table.{Table}
use Rattle.hq_command.specs.Ending.{Output}
use Rattle.hq_command.specs.Output.{line_text, stated_output, statement_output}
use Rattle.hq_command.specs.Refusals.{description_of}
use Rattle.hq_command.specs.Stating.{HasStatementFor}
use Rattle.hq_command.specs.declared.done.Done.{Done}
use Rattle.hq_command.specs.declared.done.Done.TheVariants.{Answered, Faulty}
use Rattle.hq_command.specs.declared.reply.TheConstants.{INPUT_LIMIT}
use Rattle.hq_command.specs.declared.refusal.Refusal.{Refusal}
use Rattle.hq_command.specs.declared.refusal.Refusal.TheVariants as refusal
use Rattle.hq_command_confine.specs.Confining.{IsDueBehind, IsDueFor, IsSaid, not_typed, says, tree_output, verdict_output, without_line_end, yes}
use Rattle.hq_command_confine.specs.Laws.{OneLine, OwnConfined}

-- ---- one line

pub one_line : (tables : List Table) (meta : MetaTree) (session : Session) (text : List ℕ) → ((a b : SelectTree) → Spells text a → Spells text b → a ≡ b) → OneLine tables meta session text
one_line tables meta session text one o p (inl (s, spelled, is)) (inl (u, spells, same)) = is ∙ ap (tree_output tables meta session) (one s u spelled spells) ∙ sym same
one_line tables meta session text one o p (inl (s, spelled, is)) (inr (none, same)) = absurd (none s spelled)
one_line tables meta session text one o p (inr (none, is)) (inl (u, spells, same)) = absurd (none u spells)
one_line tables meta session text one o p (inr (none, is)) (inr (nothing, same)) = is ∙ sym same

-- ---- what sql writes

-- a line without its end
end_dropped : (text : List ℕ) → without_line_end (line_text text) ≡ text
end_dropped text =
    let long : length (line_text text) ≡ length text + 1 = length-append text (codes "\n") in
    let last : length (line_text text) - 1 ≡ length text = omega (arith, long) in
    let at : get_or (line_text text) (length (line_text text) - 1) 0 ≡ 10 = get_or_at text 10 [] 0 (length (line_text text) - 1) (sym last) in
    ap (λ b. cond (b == 10) (take (length (line_text text) - 1) (line_text text)) (line_text text)) at ∙ take_at text (codes "\n") (length (line_text text) - 1) (sym last)

said_yes : (tables : List Table) (meta : MetaTree) (session : Session) (ask : AskTree) → IsStatement tables meta session ask
    → IsSaid tables meta session (without_line_end (line_text (select_text (asked_statement tables meta ask)))) yes
said_yes tables meta session ask is =
    let s : SelectTree = asked_statement tables meta ask in
    let line : IsSaid tables meta session (select_text s) yes =
    let told = verdict_output (worst (faults (schema_of tables meta) (grants_of session tables meta) s)) in
    inl (s, is.spelled, sym (ap (λ b. cond b told not_typed) is.typed ∙ ap (λ fs. verdict_output (worst fs)) is.confined)) in
    subst (λ t. IsSaid tables meta session t yes) (sym (end_dropped (select_text s))) line

abbrev Own : List Table → MetaTree → Session → (line : List ℕ) → Type 0
Own tables meta session line = (line ≡ line_text (codes "none")) ⊎ (length line ≤ INPUT_LIMIT → IsDueFor tables meta session line (Ok yes))

-- the bytes of an output
abbrev bytes_in : Result Output Refusal → List ℕ
bytes_in (Ok output) = unwrap_or output.bytes []
bytes_in (Err e) = []

bytes_of : (a b : List ℕ) → ◌≡◌ {A = Result Output Refusal} (Ok (says Answered a)) (Ok (says Answered b)) → a ≡ b
bytes_of a b e = ap bytes_in e

-- an answer that tells no fault
abbrev tells_none : Done → Type 0
tells_none Answered = Unit {0}
tells_none Faulty = ⊥

abbrev is_answer : Result Output Refusal → Type 0
is_answer (Ok output) = tells_none output.done
is_answer (Err e) = ⊥

-- of what a body makes
own_made : (tables : List Table) (meta : MetaTree) (session : Session) (r : Result AskTree RequestRefusal) (line : List ℕ) → HasStatement tables meta session r
    → stated_output (text_for tables meta r) r ≡ Ok (says Answered line) → Own tables meta session line
own_made tables meta session (Ok ask) line has e =
    let own : List ℕ = select_text (asked_statement tables meta ask) in
    let go : (b : Bool) → has_table_field ask.fields ≡ b
    → ◌≡◌ {A = Result Output Refusal} (Ok (says Answered (line_text (unwrap_or (cond b (Some own) None) (codes "none"))))) (Ok (says Answered line)) → Own tables meta session line =
    elim [
      | true ↦ λ is f.
          let same : line_text own ≡ line = bytes_of (line_text own) line f in
          inr (λ short. (short, subst (λ l. IsSaid tables meta session (without_line_end l) yes) same (said_yes tables meta session ask (has is))))
      | false ↦ λ is f. inl (sym (bytes_of (line_text (codes "none")) line f))
    ] in
    go (has_table_field ask.fields) refl e
own_made tables meta session (Err (request.Fault fault)) line has e = absurd (subst is_answer (sym e) tt)
own_made tables meta session (Err request.Memory) line has e = absurd (subst is_answer (sym e) tt)

-- of an input
own_read : (tables : List Table) (meta : MetaTree) (session : Session) (text line : List ℕ) → HasStatementFor tables meta session text
    → statement_output tables meta session text ≡ Ok (says Answered line) → Own tables meta session line
own_read tables meta session text line has e =
    let r : Result AskTree RequestRefusal = request_due tables meta session text in
    let go : (b : Bool) → cond b (Err refusal.InputTooLong) (stated_output (text_for tables meta r) r) ≡ Ok (says Answered line) → Own tables meta session line =
    elim [ true ↦ λ f. absurd cc | false ↦ λ f. own_made tables meta session r line has f ] in
    go (nat_lt INPUT_LIMIT (length text)) e

-- over a directory
pub own_confined : (dir : List ℕ) (headers : List Header) (files : List File) (text : List ℕ) → OwnConfined dir headers files text
own_confined dir headers files text has line e = by (description_of dir files) has e
  where
    by : (o : Result Described Refusal) → ((d : Described) → o ≡ Ok d → HasStatementFor d.tables d.meta (session_of headers) text)
        → (o >>= λ d. statement_output d.tables d.meta (session_of headers) text) ≡ Ok (says Answered line)
        → (line ≡ line_text (codes "none")) ⊎ (length line ≤ INPUT_LIMIT → IsDueBehind headers line o (Ok yes))
    by (Ok d) h f = own_read d.tables d.meta (session_of headers) text line (h d refl) f
    by (Err r) h f = absurd cc
