use Rattle.std.proofs.Common.{rules, arith, ◌∙◌, ◌++◌, ap, sym, map, string_bytes}
use Rattle.serde_json.specs.View.{view, members_view}
use Rattle.hq_base.specs.Due.{mapped}
use Rattle.hq_base.specs.Json.{member_view}
use Rattle.hq_base.specs.Body.{clean, members_in}
use Rattle.hq_base.proofs.Views.{member_view-roll}
use Rattle.hq_base.proofs.Reading.{one_more_member}
use Rattle.hq_base.proofs.Names.{names_at, elements_more, values_more}
use Rattle.std.proofs.lemmas.Bool.{and_from}
use Rattle.std.proofs.lemmas.Grind.{common_steps}
use Rattle.hq_base.proofs.body.+walk.Goals as goal

pub members-loop-name-preserved : goal.members-loop-name-preserved
members-loop-name-preserved t c =
    let items = members_view c.next.new.self in
    record {
      names = values_more c.loop-name.list.items c.push.new.self.items _ c.in_ok-name.name _ c.in_ok-push.ensures.items (member_view-roll _ _) c.loop-name.invariant.names c.in_ok-value.ensures.names;
      due =
          one_more_member (members_in (members_view c.args.entries.now.entries)) c.loop-name.list.items c.push.new.self.items _
          (string_bytes c.in-Some.name.now) c.in_ok-name.name (view c.in-Some.value.now) _ items
          (c.loop-name.invariant.due ∙ ap (λ left. mapped (λ rest. map member_view c.loop-name.list.items ++ rest) (members_in (members_view left))) c.in-Some.ensures.steps)
          (ap clean (sym c.as_str.ensures.value) ∙ c.in_ok-name.ensures)
          c.in_ok-value.ensures.due
          c.in_ok-push.ensures.items
          (member_view-roll _ _);
    }

pub elements-loop-item-preserved : goal.elements-loop-item-preserved
elements-loop-item-preserved t c =
    record {
      names = elements_more c.loop-item.list.items c.push.new.self.items _ c.in_ok-push.ensures.items c.loop-item.invariant.names c.in_ok-json_of.ensures.names;
      due = grind (arith, common_steps);
    }

pub members-returns-clause-names : goal.members-returns-clause-names
members-returns-clause-names t c =
    and_from _ _
    (names_at c.args.entries.now.entries (map member_view c.loop-name.list.items) c.iter-name-items.ensures.ordered (search rules))
    c.loop-name.invariant.names
