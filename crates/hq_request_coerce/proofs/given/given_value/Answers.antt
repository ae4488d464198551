use Rattle.std.proofs.Common.{◌≡◌, ◌∙◌, ap, sym, Some, option_map, bytes_eq}
use Rattle.hq_base.proofs.Views.{member_view-fields}
use Rattle.hq_request_coerce.specs.Given.{given_seen}
use Rattle.hq_request_coerce.specs.declared.given.GivenMember.{GivenMember}
use Rattle.hq_request_coerce.proofs.Lists.{value_seen}
use Rattle.hq_request_coerce.proofs.given.given_value.Goals as goal

named : (g : GivenMember) → (given_seen g).0 ≡ g.member.now.name
named g = ap (λ m. m.0) (member_view-fields g.member.now)

pub returns-in-Some : goal.returns-in-Some
returns-in-Some c =
    ap (λ m. Some m.1) (sym (member_view-fields c.in-Some.found.now.member.now)) ∙ ap (option_map (λ x. (given_seen x.now).1)) (sym c.in-Some.is)
    ∙ value_seen given_seen (λ g. g.member.now.name) (λ n. bytes_eq n c.args.name.now) c.args.given.now c.find.result named c.find.ensures

pub returns-in-None : goal.returns-in-None
returns-in-None c =
    ap (option_map (λ x. (given_seen x.now).1)) (sym c.in-None.is)
    ∙ value_seen given_seen (λ g. g.member.now.name) (λ n. bytes_eq n c.args.name.now) c.args.given.now c.find.result named c.find.ensures
