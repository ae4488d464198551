-- How the command ends, by its parts.
use Rattle.std.proofs.Common.{◌≡◌, ℕ, List, Option, Some, None, IfErr, IfSome, Result, Ok, Err, inl, inr, ⊎_elim, refl, sym, ap, ◌∙◌, subst, arith}
use Rattle.std.specs.Prelude.{◌⊎◌}
use Rattle.hq_base.specs.Due.{Gives, ◌>>=◌}
use Rattle.hq_command.specs.Ending.{Outcome, Ends, Output}
use Rattle.hq_command.specs.Refusals.{of_loading}
use Rattle.hq_command.specs.declared.done.Done.TheVariants.{Answered}
use Rattle.hq_command.specs.declared.refusal.Refusal.{Refusal}
use Rattle.hq_command.specs.declared.refusal.Refusal.TheVariants as refusal
use Rattle.hq_copy_definition.specs.Copied.{Copied}
use Rattle.hq_copy_definition.specs.declared.refusal.CopyRefusal.{CopyRefusal}
use Rattle.hq_copy_definition.specs.declared.refusal.CopyRefusal.TheVariants as copy
use Rattle.hq_command_copy.specs.Causes.{copy_cause, part_cause}
use Rattle.hq_command_copy.specs.Copying.{NotFailed, OfCopy, copy_output, of_copy, of_part, text_due}
use Rattle.hq_copy.specs.Redacting.{Redacts, TellsRise, copy_due}
use Rattle.hq_copy.specs.declared.redacted.Redacted.{Redacted}
use Rattle.hq_copy_text.specs.Parts.{part_due}
use Rattle.hq_copy_text.specs.declared.refusal.PartRefusal.{PartRefusal}
use Rattle.hq_io.specs.declared.files.File.{File}
use Rattle.hq_load.specs.Loading.{Contents, loading_due, refused_as}
use Rattle.hq_model.specs.declared.session.Session.{Session}
use Rattle.hq_session.specs.Sessions.{session_of}
use Rattle.hq_session.specs.declared.header.Header.{Header}

-- the copy's refusal is told: it is the due one, or memory is wanted
pub refused_told : (name : List ℕ) (due : Result Copied CopyRefusal) (e : CopyRefusal) (r : Refusal) → Redacts due (Err e) → NotFailed e
    → OfCopy e r → Gives {X = List ℕ} (λ text. text) refusal.Memory (of_copy name due) (Err r)
refused_told name due copy.Memory r h f o = ⊎_elim (λ m. inl m) (λ g. absurd (g.0 refl)) o
refused_told name due (copy.Failed before after) r h f o = absurd f
refused_told name due (copy.NoVariable n) r h f o = ⊎_elim (λ m. inl m) (λ g. inr (ap (of_copy name) h ∙ ap Err (sym g.1))) o
refused_told name due (copy.BadVariable n want) r h f o = ⊎_elim (λ m. inl m) (λ g. inr (ap (of_copy name) h ∙ ap Err (sym g.1))) o
refused_told name due (copy.NameTaken n) r h f o = ⊎_elim (λ m. inl m) (λ g. inr (ap (of_copy name) h ∙ ap Err (sym g.1))) o
refused_told name due (copy.MaskedKey t) r h f o = ⊎_elim (λ m. inl m) (λ g. inr (ap (of_copy name) h ∙ ap Err (sym g.1))) o
refused_told name due (copy.TooWide t) r h f o = ⊎_elim (λ m. inl m) (λ g. inr (ap (of_copy name) h ∙ ap Err (sym g.1))) o
refused_told name due (copy.NotWritable t position) r h f o = ⊎_elim (λ m. inl m) (λ g. inr (ap (of_copy name) h ∙ ap Err (sym g.1))) o

-- the part of a copy that is given is told
pub given_told : (name : List ℕ) (due : Result Copied CopyRefusal) (k : Copied) (r : Result (List ℕ) Refusal) → due ≡ Ok k
    → Gives {X = List ℕ} (λ text. text) refusal.Memory (of_part (part_due k name)) r → Gives {X = List ℕ} (λ text. text) refusal.Memory (of_copy name due) r
given_told name due k r is told = subst (λ w. Gives {X = List ℕ} (λ text. text) refusal.Memory (of_copy name w) r) (sym is) told

-- where no fault is counted, none is told
pub never_fails : (r : CopyRefusal) → TellsRise 0 0 r → NotFailed r
never_fails copy.Memory h = tt
never_fails (copy.Failed before after) h = absurd (omega (arith, h.2))
never_fails (copy.NoVariable name) h = tt
never_fails (copy.BadVariable name want) h = tt
never_fails (copy.NameTaken name) h = tt
never_fails (copy.MaskedKey table) h = tt
never_fails (copy.TooWide table) h = tt
never_fails (copy.NotWritable table position) h = tt

pub none_fails : (x : Result Redacted CopyRefusal) → IfErr x (TellsRise 0 0) → IfErr x NotFailed
none_fails (Ok r) h = tt
none_fails (Err e) h = never_fails e h

-- ---- where there is no text

-- want of memory, or a cause
abbrev pub IsCause : Refusal → Type 0
IsCause r = (r ≡ refusal.Memory) ⊎ ((cause : List ℕ) × (r ≡ refusal.NotCopied cause))

part_causes : (p : Result (List ℕ) PartRefusal) (r : Refusal) → of_part p ≡ Err r → IsCause r
part_causes (Ok text) r h = absurd cc
part_causes (Err e) r h = let same : refusal.NotCopied (part_cause e) ≡ r = cc in inr (part_cause e, sym same)

copy_causes : (name : List ℕ) (due : Result Copied CopyRefusal) (r : Refusal) → of_copy name due ≡ Err r → IsCause r
copy_causes name (Ok c) r h = part_causes (part_due c name) r h
copy_causes name (Err e) r h = let same : refusal.NotCopied (copy_cause e) ≡ r = cc in inr (copy_cause e, sym same)

pub causes : (session : Session) (name : List ℕ) (c : Contents) (r : Refusal) → Gives {X = List ℕ} (λ text. text) refusal.Memory (text_due session name c) (Err r) → IsCause r
causes session name c r h = ⊎_elim (λ want. inl want) (λ is. copy_causes name (copy_due c.tables c.meta session c.rows) r is) h

-- what holds of both holds of the refusal
pub of_cause : (P : Refusal → Type 0) (r : Refusal) → P refusal.Memory → ((cause : List ℕ) → P (refusal.NotCopied cause)) → IsCause r → P r
of_cause P r memory caused h = ⊎_elim (λ is. subst P (sym is) memory) (λ w. subst P (sym w.1) (caused w.0)) h

-- ---- over a folder

-- the text, as it is written
abbrev written : List ℕ → Output
written text = record { done = Answered; bytes = Some text }

-- what is due of a folder that holds this
output_over : (dir name : List ℕ) (headers : List Header) (fs : List File) (held : Contents) (session : Session) → session ≡ session_of headers → loading_due fs dir ≡ Ok held
    → copy_output dir name headers fs ≡ (text_due session name held >>= λ text. Ok (written text))
output_over dir name headers fs held session who holds =
    ap (λ (r : Result Contents Refusal). r >>= λ c. text_due (session_of headers) name c >>= λ text. Ok (written text)) (ap (λ r. refused_as of_loading r) holds)
    ∙ ap (λ (s : Session). text_due s name held >>= λ text. Ok (written text)) (sym who)

-- a text that is due
pub given_over : (folder : Option (List File)) (dir name : List ℕ) (headers : List Header) (held : Contents) (session : Session) (text : List ℕ)
    (old new : Option (List ℕ)) (answer : Outcome)
    → session ≡ session_of headers → IfSome folder (λ fs. loading_due fs dir ≡ Ok held) → text_due session name held ≡ Ok text
    → Ends old new (Ok (written text)) answer → IfSome folder (λ fs. Ends old new (copy_output dir name headers fs) answer)
given_over None dir name headers held session text old new answer who holds due ends = tt
given_over (Some fs) dir name headers held session text old new answer who holds due ends =
    let is : copy_output dir name headers fs ≡ Ok (written text) =
    output_over dir name headers fs held session who holds ∙ ap (λ (r : Result (List ℕ) Refusal). r >>= λ t. Ok (written t)) due in
    subst (λ (r : Result Output Refusal). Ends old new r answer) (sym is) ends

-- and the refusal of a text
pub refused_over : (folder : Option (List File)) (dir name : List ℕ) (headers : List Header) (held : Contents) (session : Session) (r : Refusal) (old : Option (List ℕ))
    → session ≡ session_of headers → IfSome folder (λ fs. loading_due fs dir ≡ Ok held)
    → Gives {X = List ℕ} (λ text. text) refusal.Memory (text_due session name held) (Err r)
    → IfSome folder (λ fs. Ends old old (copy_output dir name headers fs) (Err r))
refused_over None dir name headers held session r old who holds h = tt
refused_over (Some fs) dir name headers held session r old who holds h =
    let out : Result Output Refusal = copy_output dir name headers fs in
    ⊎_elim (λ want. subst (λ x. Ends old old out (Err x)) (sym want) tt)
    (λ due.
    let is : out ≡ Err r = output_over dir name headers fs held session who holds ∙ ap (λ (t : Result (List ℕ) Refusal). t >>= λ text. Ok (written text)) due in
    of_cause (λ x. out ≡ Err x → Ends old old out (Err x)) r (λ e. tt) (λ cause e. e) (causes session name held r h) is) h
