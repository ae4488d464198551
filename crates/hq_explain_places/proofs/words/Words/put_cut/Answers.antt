use Rattle.std.proofs.Common.{◌∙◌, sym}
use Rattle.hq_explain_places.proofs.Adding.{adds_nothing, adds_then, adds_so}
use Rattle.hq_explain_places.proofs.Cuts.{shown_cut, shown_next, shown_none}
use Rattle.hq_explain_places.proofs.words.Words.put_cut.Goals as goal

pub returns-then-is_cut : goal.returns-then-is_cut
returns-then-is_cut c =
    c.bytes.invariant _ (adds_so c.put.ensures (sym (shown_cut c.bytes.left c.bytes.rest.now c.in-len1-up.len_at_least (sym c.is_cut.ensures ∙ c.if-is_cut.true))))

pub bytes-preserved : goal.bytes-preserved
bytes-preserved c = λ new later.
    c.bytes.invariant new (adds_so (adds_then c.put_byte.ensures later)
    (shown_next c.bytes.left c.bytes.rest.now _ _ c.in-len1-up.len_at_least (sym c.is_cut.ensures ∙ c.if-is_cut.false) c.shown_byte.ensures c.saturating_sub-left.ensures))

pub returns : goal.returns
returns c = c.bytes.invariant _ (adds_so (adds_nothing c.bytes.self) (sym (shown_none c.bytes.left c.bytes.rest.now c.in_default.len_below)))
