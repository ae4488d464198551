use Rattle.hq_load.specs.Loading.{loaded_view}
use Rattle.hq_command_explain.proofs.Explained.{over_folder}
use Rattle.hq_command_explain.proofs.explaining.explain.Goals as goal

pub returns-in-Ok-clause-told : goal.returns-in-Ok-clause-told
returns-in-Ok-clause-told g c =
    over_folder (g.F.Files.folder c.args.files.now) c.args.dir.now c.args.headers.now (loaded_view c.in-Ok.loaded) c.in_ok-session.session
    (g.S.Source.left c.args.input.now) (g.K.Sink.written c.args.out.now)
    (g.K.Sink.written c.explain_loaded.new.out) c.explain_loaded.result c.in_ok-session.ensures c.in-Ok.ensures.told c.explain_loaded.ensures.told
