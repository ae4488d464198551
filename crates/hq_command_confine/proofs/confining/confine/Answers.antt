use Rattle.hq_load.specs.Loading.{description_view}
use Rattle.hq_command_confine.proofs.Ended.{over_folder}
use Rattle.hq_command_confine.proofs.Shown.{folder_shows}
use Rattle.hq_command_confine.proofs.confining.confine.Goals as goal

pub returns-clause-told : goal.returns-clause-told
returns-clause-told g c =
    over_folder (g.F.Files.folder c.args.files.now) c.args.dir.now c.args.headers.now (description_view c.in_ok-description.description) c.in_ok-session.session
    (g.S.Source.left c.args.input.now) (g.K.Sink.written c.args.out.now)
    (g.K.Sink.written c.confine_to.new.out) c.confine_to.result c.in_ok-session.ensures c.in_ok-description.ensures.told c.confine_to.ensures.told

pub returns-clause-shows : goal.returns-clause-shows
returns-clause-shows g c =
    folder_shows (g.F.Files.folder c.args.files.now) c.args.dir.now c.args.headers.now (description_view c.in_ok-description.description) c.in_ok-session.session
    (g.S.Source.left c.args.input.now) c.confine_to.result c.in_ok-session.ensures c.in_ok-description.ensures.told c.confine_to.ensures.shows
