use Rattle.hq_sql_text.proofs.Whole.{is_found, is_only, is_none}
use Rattle.hq_sql_text.proofs.statement.read.Goals as goal

pub returns-clause-found : goal.returns-clause-found
returns-clause-found c = is_found c.args.text.now c.whole_of.result c.whole_of.ensures

pub returns-clause-only : goal.returns-clause-only
returns-clause-only c = λ s is. is_only c.args.text.now c.whole_of.result c.whole_of.ensures s is

pub returns-clause-not_sql : goal.returns-clause-not_sql
returns-clause-not_sql c = λ refused s is. is_none c.args.text.now c.whole_of.result c.whole_of.ensures refused s is
