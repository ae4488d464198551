use Rattle.std.proofs.Common.{rules, ◌≡◌, ◌∙◌, ap, Some}
use Rattle.std.specs.Prelude.{pos}
use Rattle.clap.specs.declared.builder.value_parser.ValueParser.TheVariants as vp
use Rattle.hq_cli.proofs.arguments.connections_arg.Goals as goal

pub returns-clause-rule : goal.returns-clause-rule
returns-clause-rule c =
    let p = c.value_parser-2.ensures in
    let made : c.range.result ≡ vp.Signed (pos 1) (pos 1000000) = rw c.value_parser.ensures at c.range.ensures in
    let parser : c.value_parser-2.result.value_parser ≡ Some (vp.Signed (pos 1) (pos 1000000)) = p.given.1 ∙ ap Some (p.given.2 ∙ made) in
    search (rules, parser, p.others)
