use Rattle.hq_laws_live.specs.Worlds.{moments}
use Rattle.hq_laws_live.proofs.Agreeing.{alike_for}
use Rattle.hq_laws_live.proofs.worlds.agreeing_databases_send_the_same.Goals as goal

pub returns : goal.returns
returns c tables meta who ps qs is fit h =
    c.what_he_cannot_tell_apart_changes_nothing.ensures who (moments tables meta ps) (moments tables meta qs)
    (alike_for tables meta is fit (λ session body d e. c.replies_agree.ensures tables meta session body d e) who ps qs h)
