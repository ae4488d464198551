use Rattle.std.proofs.Common.{◌≡◌, Err, refl}
use Rattle.std.proofs.lemmas.Result.{err_from_is_err_and}
use Rattle.hq_command.specs.Ending.{Outcome, NotDatabase, Silent}
use Rattle.hq_command.specs.declared.refusal.Refusal.TheVariants as refusal
use Rattle.hq_io.specs.Causes.{Rose}
use Rattle.hq_load.specs.Loading.{loaded_view}
use Rattle.hq_command_copy.proofs.Back.{folder_back}
use Rattle.hq_command_copy.proofs.Ended.{causes, given_over, of_cause, refused_over}
use Rattle.hq_command_copy.proofs.copying.copy.Goals as goal

pub returns-in_err-text-clause-told : goal.returns-in_err-text-clause-told
returns-in_err-text-clause-told g c =
    let p = err_from_is_err_and c.from_residual-in_err-text.result c.from_residual-in_err-text.ensures.1 in
    rw (p.1, p.2)
    (refused_over (g.F.Files.folder c.args.files.now) c.args.dir.now c.args.part.now c.args.headers.now (loaded_view c.in_ok-loaded.loaded) c.in_ok-session.session c.in_err-text.field-0.0
    (g.K.Sink.written c.args.out.now) c.in_ok-session.ensures c.in_ok-loaded.ensures.told c.in_err-text.ensures.due)

pub returns-clause-told : goal.returns-clause-told
returns-clause-told g c =
    given_over (g.F.Files.folder c.args.files.now) c.args.dir.now c.args.part.now c.args.headers.now (loaded_view c.in_ok-loaded.loaded) c.in_ok-session.session c.in_ok-text.text
    (g.K.Sink.written c.args.out.now) (g.K.Sink.written c.write_text.new.out) c.write_text.result c.in_ok-session.ensures c.in_ok-loaded.ensures.told c.in_ok-text.ensures.due
    c.write_text.ensures.told

pub returns-clause-read_back : goal.returns-clause-read_back
returns-clause-read_back g c =
    folder_back (g.F.Files.folder c.args.files.now) c.args.dir.now c.args.part.now c.args.headers.now (loaded_view c.in_ok-loaded.loaded) c.in_ok-session.session c.write_text.result
    c.in_ok-session.ensures c.in_ok-loaded.ensures.told c.in_ok-text.ensures.read_back

-- ---- where there is no text: want of memory, or its cause

pub returns-in_err-text-clause-silent : goal.returns-in_err-text-clause-silent
returns-in_err-text-clause-silent g c =
    let p = err_from_is_err_and c.from_residual-in_err-text.result c.from_residual-in_err-text.ensures.1 in
    let old = g.K.Sink.written c.args.out.now in
    rw (p.1, p.2)
    (of_cause (λ r. Silent old old (Err r)) c.in_err-text.field-0.0 refl (λ cause. refl)
    (causes c.in_ok-session.session c.args.part.now (loaded_view c.in_ok-loaded.loaded) c.in_err-text.field-0.0 c.in_err-text.ensures.due))

pub returns-in_err-text-clause-words : goal.returns-in_err-text-clause-words
returns-in_err-text-clause-words g c =
    let p = err_from_is_err_and c.from_residual-in_err-text.result c.from_residual-in_err-text.ensures.1 in
    rw (p.1, p.2)
    (of_cause (λ r. ◌≡◌ {A = Outcome} (Err r) (Err refusal.BadWords) → ⊥) c.in_err-text.field-0.0 (λ e. cc) (λ cause e. cc)
    (causes c.in_ok-session.session c.args.part.now (loaded_view c.in_ok-loaded.loaded) c.in_err-text.field-0.0 c.in_err-text.ensures.due))

pub returns-in_err-text-clause-read : goal.returns-in_err-text-clause-read
returns-in_err-text-clause-read g c =
    let p = err_from_is_err_and c.from_residual-in_err-text.result c.from_residual-in_err-text.ensures.1 in
    let old = g.F.Files.faults c.args.files.now in
    let now = g.F.Files.faults c.load.new.files in
    rw (p.1, p.2)
    (of_cause (λ r. ◌≡◌ {A = Outcome} (Err r) (Err refusal.ReadFailed) → Rose old now) c.in_err-text.field-0.0 (λ e. cc) (λ cause e. cc)
    (causes c.in_ok-session.session c.args.part.now (loaded_view c.in_ok-loaded.loaded) c.in_err-text.field-0.0 c.in_err-text.ensures.due))

pub returns-in_err-text-clause-write : goal.returns-in_err-text-clause-write
returns-in_err-text-clause-write g c =
    let p = err_from_is_err_and c.from_residual-in_err-text.result c.from_residual-in_err-text.ensures.1 in
    let old = g.K.Sink.faults c.args.out.now in
    rw (p.1, p.2)
    (of_cause (λ r. ◌≡◌ {A = Outcome} (Err r) (Err refusal.WriteFailed) → Rose old old) c.in_err-text.field-0.0 (λ e. cc) (λ cause e. cc)
    (causes c.in_ok-session.session c.args.part.now (loaded_view c.in_ok-loaded.loaded) c.in_err-text.field-0.0 c.in_err-text.ensures.due))

pub returns-in_err-text-clause-failed : goal.returns-in_err-text-clause-failed
returns-in_err-text-clause-failed g c =
    let p = err_from_is_err_and c.from_residual-in_err-text.result c.from_residual-in_err-text.ensures.1 in
    rw (p.1, p.2)
    (of_cause NotDatabase c.in_err-text.field-0.0 tt (λ cause. tt)
    (causes c.in_ok-session.session c.args.part.now (loaded_view c.in_ok-loaded.loaded) c.in_err-text.field-0.0 c.in_err-text.ensures.due))
