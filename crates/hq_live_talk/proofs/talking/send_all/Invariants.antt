use Rattle.std.proofs.Common.{◌≡◌, ◌≤◌, map, take}
use Rattle.hq_messages.specs.Messages.{Sends}
use Rattle.hq_messages.specs.declared.messages.Out.TheVariants as out
use Rattle.hq_live_talk.proofs.talking.send_all.Given as goal

abbrev pub invariant-sending : goal.invariant-sending
invariant-sending g l = record {
  sent : Sends (g.M.Messages.sent l.fn.link) (g.M.Messages.sent l.link) (map out.Text (take l.text-index l.texts));
  left : g.M.Messages.left l.link ≡ g.M.Messages.left l.fn.link;
  later : g.M.Messages.faults l.fn.link ≤ g.M.Messages.faults l.link;
}
