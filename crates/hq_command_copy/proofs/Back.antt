-- What the command writes is read back.
use Rattle.std.proofs.Common.{◌≡◌, ℕ, List, Option, Some, None, IfSome, true, Result, Ok, Err, ap, subst}
use Rattle.std.specs.Prelude.{OnOk}
use Rattle.hq_copy.specs.Redacting.{copy_due}
use Rattle.hq_copy_definition.specs.Copied.{Copied}
use Rattle.hq_copy_text.specs.Clean.{IsClean}
use Rattle.hq_copy_text.specs.Parts.{part_due}
use Rattle.hq_laws_copy_text.specs.Laws.{PartReadsBack, ReadsBack}
use Rattle.hq_command.specs.Ending.{Outcome}
use Rattle.hq_command.specs.Refusals.{contents_due, of_loading}
use Rattle.hq_io.specs.declared.files.File.{File}
use Rattle.hq_load.specs.Loading.{Contents, contents, loading_due, refused_as}
use Rattle.hq_session.specs.Sessions.{session_of}
use Rattle.hq_session.specs.declared.header.Header.{Header}
use Rattle.hq_model.specs.Catalog.{is_catalog}
use Rattle.hq_model.specs.Database.{Row, is_database}
use Rattle.hq_model.specs.Fits.{fits}
use Rattle.hq_model.specs.Meta.{MetaTree}
use Rattle.hq_model.specs.declared.session.Session.{Session}
use Rattle.hq_model.specs.declared.table.Table.{Table}
use Rattle.hq_command_copy.specs.Copying.{CopyReadsBack, TextReadsBack}

-- what holds whatever is answered holds of an answer
pub on_any : {X E : Type 0} (P : Type 0) (r : Result X E) → P → OnOk r P
on_any P (Ok x) h = h
on_any P (Err e) h = tt

-- the parts of the one copy that there is
pub text_back : (law : (tables : List Table) (m : MetaTree) (session : Session) (d : List (List Row)) (c : Copied) (name text : List ℕ) → PartReadsBack tables m session d c name text)
    → (tables : List Table) (m : MetaTree) (session : Session) (d : List (List Row)) (name : List ℕ) (k : Copied)
    → is_catalog tables ≡ true → fits tables m ≡ true → is_database tables d ≡ true → copy_due tables m session d ≡ Ok k → IsClean k → TextReadsBack session name (contents tables m d)
text_back law tables m session d name k whole fit valid given clean c text made due =
    let same : k ≡ c = cc in
    subst (λ (x : Copied). part_due x name ≡ Ok text → ReadsBack x name text) same (λ g. law tables m session d k name text whole fit valid given clean g) due

-- what is written of a folder is read back, as what the folder holds
pub folder_back : (folder : Option (List File)) (dir name : List ℕ) (headers : List Header) (held : Contents) (session : Session) (answer : Outcome)
    → session ≡ session_of headers → IfSome folder (λ fs. loading_due fs dir ≡ Ok held) → TextReadsBack session name held
    → IfSome folder (λ fs. OnOk answer (CopyReadsBack dir name headers fs))
folder_back None dir name headers held session answer who holds back = tt
folder_back (Some fs) dir name headers held session answer who holds back =
    on_any (CopyReadsBack dir name headers fs) answer
    (λ content is.
    let given : contents_due dir fs ≡ Ok held = ap (λ r. refused_as of_loading r) holds in
    let same : held ≡ content = cc in
    subst (λ (c : Contents). TextReadsBack (session_of headers) name c) same (subst (λ (s : Session). TextReadsBack s name held) who back))
