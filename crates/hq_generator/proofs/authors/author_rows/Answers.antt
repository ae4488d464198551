use Rattle.std.proofs.Common.{◌∙◌, ap₂}
use Rattle.hq_model.specs.Database.{are_rows}
use Rattle.hq_generator.proofs.Valid.{authors_valid}
use Rattle.hq_generator.proofs.authors.author_rows.Goals as goal

pub of-requires : goal.of-requires
of-requires c = ap₂ are_rows c.in_ok-table.ensures c.in_ok-author_list.ensures ∙ authors_valid c.args.authors c.requires
