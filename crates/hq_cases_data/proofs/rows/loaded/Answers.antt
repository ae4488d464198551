use Rattle.std.proofs.Common.{◌∙◌, ap, sym, option_copied}
use Rattle.hq_cases_data.proofs.TableNames.{first-names}
use Rattle.hq_cases_data.proofs.rows.loaded.Goals as goal

pub load_table-requires-clause-names : goal.load_table-requires-clause-names
load_table-requires-clause-names c = first-names c.args.catalog.now.tables c.in-Some.table.now c.args.catalog.now.valid (sym c.get.ensures ∙ ap option_copied c.in-Some.is)
