use Rattle.hq_command.proofs.Lines.{told_lines}
use Rattle.hq_command.proofs.generating.lines.Goals as goal

pub returns : goal.returns
returns g c =
    told_lines c.args.engine.now c.in_ok-session.session _ _ _ c.put_replies.new.out c.put_steps_line.new.out _ c.in_ok-session.ensures c.requests.ensures.bodies c.new-text.ensures
    c.in_ok-put_replies.ensures.lines c.in_ok-put_steps_line.ensures
