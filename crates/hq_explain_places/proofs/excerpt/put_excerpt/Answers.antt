use Rattle.hq_explain_places.proofs.Adding.{adds_so, adds_then}
use Rattle.hq_explain_places.proofs.Excerpts.{excerpt_told}
use Rattle.hq_explain_places.proofs.excerpt.put_excerpt.Goals as goal

pub returns : goal.returns
returns c = (
  c.mark_count.result,
  c.mark_count.ensures,
  adds_so (adds_then c.put_line.ensures c.put_marks.ensures)
      (excerpt_told c.args.text.now c.args.at c.place_of-place.result.line c.line_around-line.result.before.now c.line_around-line.result.behind.now c.mark_count.result
      c.place_of-place.ensures.line c.line_around-line.ensures.before c.line_around-line.ensures.behind),
)
