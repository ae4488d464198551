use Rattle.std.proofs.Common.{◌≡◌, ◌∙◌, None, Some, option_map, sym, ap}
use Rattle.hq_sql_access.specs.View.{made_view}
use Rattle.hq_sql_access.proofs.Besides.{joined_there, joined_past}
use Rattle.hq_sql_access.proofs.place.joined_at.Goals as goal

pub returns-in-Some-Some : goal.returns-in-Some-Some
returns-in-Some-Some c =
    let at = c.in-Some-Some.ensures.lookup in
    let is : c.in-Some-Some.field-0.now ≡ Some c.in-Some-Some.row = c.in-Some-Some.field-0-is in
    ap (option_map made_view) (sym is) ∙ joined_there c.args.joined.now c.args.at c.in-Some-Some.field-0.now at.3.0 at.1

pub returns-in-Some-None : goal.returns-in-Some-None
returns-in-Some-None c =
    let at = c.in-Some-None.ensures.lookup in
    let is : c.in-Some-None.field-0.now ≡ None = c.in-Some-None.field-0-is in
    ap (option_map made_view) (sym is) ∙ joined_there c.args.joined.now c.args.at c.in-Some-None.field-0.now at.3.0 at.1

pub returns-in-None : goal.returns-in-None
returns-in-None c = joined_past c.args.joined.now c.args.at c.in-None.ensures.lookup.3
