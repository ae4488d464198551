use Rattle.std.proofs.Common.{◌∙◌, ap}
use Rattle.hq_model.specs.Meta.{meta_view}
use Rattle.hq_command_confine.specs.Confining.{without_line_end}
use Rattle.hq_command_confine.specs.Said.{said_view}
use Rattle.hq_command_confine.proofs.Ended.{read_told}
use Rattle.hq_command_confine.proofs.Shown.{read_shows}
use Rattle.hq_command_confine.proofs.confining.confine_to.Goals as goal

pub returns-clause-told : goal.returns-clause-told
returns-clause-told g c =
    read_told c.args.description.now.catalog.tables (meta_view c.args.description.now.meta) c.args.session.now (g.S.Source.left c.args.input.now) c.in_ok-bytes.bytes _
    (said_view c.in_ok-said.said) (g.K.Sink.written c.args.out.now)
    (g.K.Sink.written c.write_said.new.out) c.write_said.result c.in_ok-bytes.ensures.told (c.without_line_end-text.ensures ∙ ap without_line_end c.as_slice.ensures) c.in_ok-said.ensures.told
    c.write_said.ensures.told

pub returns-clause-shows : goal.returns-clause-shows
returns-clause-shows g c =
    read_shows c.args.description.now.catalog.tables (meta_view c.args.description.now.meta) c.args.session.now (g.S.Source.left c.args.input.now) c.in_ok-bytes.bytes _
    (said_view c.in_ok-said.said) (g.K.Sink.written c.args.out.now)
    (g.K.Sink.written c.write_said.new.out) c.write_said.result c.in_ok-bytes.ensures.told (c.without_line_end-text.ensures ∙ ap without_line_end c.as_slice.ensures) c.in_ok-said.ensures.shows
    c.write_said.ensures.told
