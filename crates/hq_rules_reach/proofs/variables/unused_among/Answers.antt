use Rattle.std.proofs.Common.{◌∙◌, ap, ℕ, List, Bool, map, Vec, Global}
use Rattle.hq_gql_tree.specs.Documents.{var_def_view}
use Rattle.hq_gql_nodes.specs.Least.{least_of}
use Rattle.hq_gql_nodes.specs.Names.{get_name}
use Rattle.hq_rules_reach.specs.declared.uses.Use.{Use}
use Rattle.hq_rules_reach.specs.Uses.{numbers_view}
use Rattle.hq_rules_reach.specs.Variables.{unused_by, is_marked, is_number_used_in}
use Rattle.hq_rules_reach.proofs.ByNumber.{AreMarks, unused_numbered}
use Rattle.hq_rules_reach.proofs.variables.unused_among.Goals as goal

pub returns : goal.returns
returns c =
    let f = get_name c.args.uses.now.numbers.names in
    let all = c.args.uses.now.all.items in
    let vars = map var_def_view c.args.vars.now in
    let definitions = c.args.definitions.now in
    let count : ℕ = c.args.uses.now.numbers.count in
    let marked : AreMarks all count definitions c.in_ok-marks.marks.items =
    λ n h. c.in_ok-marks.ensures n h ∙ ap (λ (us : List (Vec Use Global)). is_number_used_in (numbers_view us) definitions n) c.deref.ensures.value in
    c.least_unused.ensures
    ∙ ap (λ (ms : List Bool). least_of (unused_by (is_marked f ms)) vars) c.deref-2.ensures.value
    ∙ unused_numbered f count all vars c.in_ok-marks.marks.items definitions c.requires.numbers c.requires.numbered marked
