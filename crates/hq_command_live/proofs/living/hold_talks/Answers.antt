use Rattle.std.proofs.Common.{◌≡◌, ◌≤◌, refl, sym, ap, arith}
use Rattle.hq_command_serve.specs.Serving.{seen_door}
use Rattle.hq_command_live.proofs.Talks.{held_talks}
use Rattle.hq_command_live.proofs.living.hold_talks.Goals as goal

pub returns-clause-talks : goal.returns-clause-talks
returns-clause-talks g c =
    let before = seen_door (g.H.Hall.talks c.args.hall.now) (g.H.Hall.accepted c.args.hall.now) (g.H.Hall.faults c.args.hall.now) in
    let served = c.serve_talks-answer in
    let after = seen_door (g.H.Hall.talks served.new.hall) (g.H.Hall.accepted served.new.hall) (g.H.Hall.faults served.new.hall) in
    rw (sym c.new-live.ensures.asker)
    (held_talks _ c.args.rule.now c.new-hook.result.rule.now c.args.connections before after (g.K.Sink.written c.args.out.now) (g.K.Sink.written served.new.out) _ _ _ _ _ served.result
    (ap (λ r. r.now) c.new-hook.ensures.rule) c.new-live.ensures.none served.ensures.serves)

pub returns-clause-folder : goal.returns-clause-folder
returns-clause-folder g c =
    let folder = g.F.Files.folder c.args.asker.files in
    let faults = g.F.Files.faults c.args.asker.files in
    let here : (g.F.Files.folder c.new-live.result.asker.files ≡ folder) × (faults ≤ g.F.Files.faults c.new-live.result.asker.files) = rw c.new-live.ensures.asker (refl, omega arith) in
    rw c.into_asker.ensures (c.serve_talks-answer.ensures.files folder faults here).0

pub returns-clause-files_later : goal.returns-clause-files_later
returns-clause-files_later g c =
    let folder = g.F.Files.folder c.args.asker.files in
    let faults = g.F.Files.faults c.args.asker.files in
    let here : (g.F.Files.folder c.new-live.result.asker.files ≡ folder) × (faults ≤ g.F.Files.faults c.new-live.result.asker.files) = rw c.new-live.ensures.asker (refl, omega arith) in
    rw c.into_asker.ensures (c.serve_talks-answer.ensures.files folder faults here).1
