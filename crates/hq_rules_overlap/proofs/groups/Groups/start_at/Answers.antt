-- The set is in a group that is done.
use Rattle.std.proofs.Common.{◌∷◌, [], refl}
use Rattle.std.proofs.lemmas.Result.{IfOk-weaker}
use Rattle.hq_gql_nodes.specs.Reach.{graph_view}
use Rattle.hq_overlap_sets.specs.Sets.{arena_view}
use Rattle.hq_rules_overlap.specs.Exploring.{lists_of}
use Rattle.hq_rules_overlap.proofs.Explored.{alone_together, more_sound, more_explored, more_inside, goes_more, goes_then, still_there, end_covers}
use Rattle.hq_overlap_sets.proofs.Stepping.{if_ok_weaker2}
use Rattle.hq_rules_overlap.proofs.groups.Groups.start_at.Goals as goal

pub add-requires-clause-lists : goal.add-requires-clause-lists
add-requires-clause-lists c = c.requires.end.sound.together

pub add-requires-clause-list : goal.add-requires-clause-list
add-requires-clause-list c = alone_together (arena_view c.args.arena.now) c.args.set c.requires.inside

pub run-requires-clause-sound : goal.run-requires-clause-sound
run-requires-clause-sound c =
    let p = c.args.self.now in
    more_sound (arena_view c.args.arena.now) p (record p { lists = c.add.new.self }) c.in_ok-add.ensures.grown refl refl c.in_ok-add.ensures.lists c.requires.end.sound

pub run-requires-clause-explored : goal.run-requires-clause-explored
run-requires-clause-explored c =
    let p = c.args.self.now in
    more_explored (arena_view c.args.arena.now) p (record p { lists = c.add.new.self }) c.in_ok-add.ensures.grown refl refl c.requires.end.all c.requires.end.explored

pub run-requires-clause-inside : goal.run-requires-clause-inside
run-requires-clause-inside c = more_inside (lists_of c.args.self.now) (graph_view c.add.new.self.rows.items) c.args.self.now.done c.in_ok-add.ensures.grown c.requires.end.all

pub returns-clause-goes : goal.returns-clause-goes
returns-clause-goes c =
    IfOk-weaker c.run.result _ _ (λ going goes held. goes_then c.args.self.now _ c.run.new.self (goes_more c.args.self.now _ c.in_ok-add.ensures.grown refl) (goes held)) c.run.ensures.goes

pub returns-clause-covered : goal.returns-clause-covered
returns-clause-covered c =
    if_ok_weaker2 c.run.result
    (λ going goes end held. end_covers (arena_view c.args.arena.now) c.run.new.self c.args.set (end held)
    (still_there (graph_view c.add.new.self.rows.items) (lists_of c.run.new.self) (c.args.set ∷ []) (goes held).lists c.in_ok-add.ensures.has))
    c.run.ensures.goes c.run.ensures.end
