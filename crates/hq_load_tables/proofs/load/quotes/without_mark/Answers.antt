use Rattle.std.proofs.Common.{◌∙◌, sym}
use Rattle.hq_load_tables.proofs.Marks.{marked, unmarked, short}
use Rattle.hq_load_tables.proofs.load.quotes.without_mark.Goals as goal

pub returns-then-is_mark : goal.returns-then-is_mark
returns-then-is_mark c = marked c.args.bytes.now c.in-len3-up.len_at_least (sym c.is_mark.ensures ∙ c.if-is_mark.true)

pub returns-else-is_mark : goal.returns-else-is_mark
returns-else-is_mark c = unmarked c.args.bytes.now c.in-len3-up.len_at_least (sym c.is_mark.ensures ∙ c.if-is_mark.false)

pub returns-in_default : goal.returns-in_default
returns-in_default c = short c.args.bytes.now c.in_default.len_below
