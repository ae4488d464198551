use Rattle.std.proofs.Common.{◌≡◌, map, sym, ap, ◌∙◌}
use Rattle.hq_answer.specs.Answers.{answer_of, object}
use Rattle.hq_sql_tree.specs.View.{from_view, pair_view}
use Rattle.hq_sql_tree.specs.Meaning.{nothing}
use Rattle.hq_sql_access.specs.Sources.{made_rows}
use Rattle.hq_sql_access.specs.View.{made_view, world_of}
use Rattle.hq_sql_output.specs.Placed.{names_in}
use Rattle.hq_sql_output.specs.Selected.{page_in, scopes_in}
use Rattle.hq_sql_output.specs.Texts.{first_object}
use Rattle.hq_sql_output.proofs.Objects.{named_are, object_at}
use Rattle.hq_sql_output.proofs.statement.object_first.Goals as goal

pub returns-in-Some : goal.returns-in-Some
returns-in-Some c =
    let w = world_of c.args.world.now in
    let ps = map pair_view c.args.pairs.now.items in
    let rows = c.args.rows.now in
    let N = names_in c.placed_rows-placed.result w nothing in
    let made : map made_view c.deref.result.now ≡ made_rows (from_view rows.from.now) w nothing = ap (map made_view) c.deref.ensures.value ∙ c.in_ok-made.ensures in
    let places : map N c.deref-3.result.now ≡ scopes_in rows w nothing =
    ap (map N) c.deref-3.ensures.value ∙ c.in_ok-places.ensures ∙ ap (page_in rows w) (c.placed_rows-placed.ensures.scopes nothing made) in
    ap object (c.in_ok-members-in-Some.ensures ∙ sym (named_are ps (N c.in-Some.place.now)))
    ∙ ap answer_of (sym (object_at N c.deref-3.result.now c.in-Some.place.now ps c.in-Some.ensures.value) ∙ ap (first_object ps) places)
