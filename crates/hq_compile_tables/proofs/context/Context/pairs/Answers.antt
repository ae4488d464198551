use Rattle.std.proofs.Common.{ap, sym}
use Rattle.hq_terms.specs.Schema.{no_rel, table}
use Rattle.hq_terms.proofs.Places.{absent}
use Rattle.hq_compile_tables.specs.Contexts.{context_schema}
use Rattle.hq_compile_tables.proofs.context.Context.pairs.Goals as goal

pub returns-in-None : goal.returns-in-None
returns-in-None c = ap (λ rel. rel.pairs) (sym (absent (table (context_schema c.args.self.now) c.args.t).rels c.args.r no_rel (sym c.in-None.ensures)))
