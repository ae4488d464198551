use Rattle.std.proofs.Common.{rules, ◌≡◌, ◌∙◌, ap, Some}
use Rattle.std.specs.Prelude.{pos}
use Rattle.clap.specs.declared.builder.value_parser.ValueParser.TheVariants as vp
use Rattle.hq_cli.proofs.arguments.authors_arg.Goals as goal

pub returns-clause-rule : goal.returns-clause-rule
returns-clause-rule c =
    let p = c.value_parser-2.ensures in
    let made : c.value_parser.result ≡ vp.Signed (pos 0) (pos 4294967295) = c.value_parser.ensures in
    let parser : c.value_parser-2.result.value_parser ≡ Some (vp.Signed (pos 0) (pos 4294967295)) = p.given.1 ∙ ap Some (p.given.2 ∙ made) in
    search (rules, parser, p.others)
