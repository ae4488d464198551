-- The steps change nothing else.
use Rattle.hq_rules_overlap.proofs.Explored.{sound_same, looked_same}
use Rattle.hq_overlap_sets.specs.Sets.{arena_view}
use Rattle.std.proofs.lemmas.Result.{IfOk-weaker}
use Rattle.hq_rules_overlap.proofs.groups.Groups.look_at.Goals as goal

pub look_at_fields-requires-clause-sound : goal.look_at_fields-requires-clause-sound
look_at_fields-requires-clause-sound c = sound_same (arena_view c.args.arena.now) c.args.self.now c.spend.new.self c.spend.ensures.lists c.spend.ensures.covered c.spend.ensures.found c.requires.sound

pub returns-then-not-spend-clause-best : goal.returns-then-not-spend-clause-best
returns-then-not-spend-clause-best c =
    (sound_same (arena_view c.args.arena.now) c.args.self.now c.spend.new.self c.spend.ensures.lists c.spend.ensures.covered c.spend.ensures.found c.requires.sound).best

pub returns-clause-looked : goal.returns-clause-looked
returns-clause-looked c =
    IfOk-weaker c.look_at_fields.result _ _
    (λ going looked held. looked_same (arena_view c.args.arena.now) c.args.self.now c.spend.new.self c.look_at_fields.new.self
    c.args.group.now c.spend.ensures.lists c.spend.ensures.found (looked held))
    c.look_at_fields.ensures.looked
