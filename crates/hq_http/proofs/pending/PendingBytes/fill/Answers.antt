use Rattle.std.proofs.Common.{rules, ◌∙◌, ap, take, drop, ◌-◌}
use Rattle.hq_http.proofs.Rooms.{filled_room, kept_room, written_whole}
use Rattle.hq_http.proofs.pending.PendingBytes.fill.Goals as goal

pub returns-clause-read : goal.returns-clause-read
returns-clause-read g c =
    filled_room _ _ c.args.self.now c.self.inside.room.items c.slide.new.room c.read_behind.new.room c.self.inside.room.len (c.self.inside.end - c.self.inside.start) c.in_ok-n.n
    (search rules) (search rules)
    (c.slide.ensures.front ∙ (ap (λ l. drop c.self.inside.start (take c.self.inside.end l)) c.deref_mut.ensures.value ∙ c.self.view_is))
    (c.in_ok-n.ensures.front
    ∙ ap (take (c.self.inside.end - c.self.inside.start)) (c.deref_mut-2.ensures.value ∙ written_whole _ _ _ (search rules)))
    (search rules) (search rules) (search rules)

pub returns-in_err-n-clause-kept : goal.returns-in_err-n-clause-kept
returns-in_err-n-clause-kept g c =
    kept_room c.from_residual.result c.args.self.now c.self.inside.room.items c.slide.new.room c.read_behind.new.room c.self.inside.room.len (c.self.inside.end - c.self.inside.start)
    (search rules)
    (c.slide.ensures.front ∙ (ap (λ l. drop c.self.inside.start (take c.self.inside.end l)) c.deref_mut.ensures.value ∙ c.self.view_is))
    (c.read_behind.ensures.front
    ∙ ap (take (c.self.inside.end - c.self.inside.start)) (c.deref_mut-2.ensures.value ∙ written_whole _ _ _ (search rules)))
