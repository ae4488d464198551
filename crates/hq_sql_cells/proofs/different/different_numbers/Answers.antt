use Rattle.std.proofs.Common.{◌≡◌, ◌∙◌, length, ap, subst, sym}
use Rattle.std.specs.Ordering.{int_cmp}
use Rattle.std.proofs.lemmas.Cmp.{int_cmp_total}
use Rattle.hq_base.proofs.Sorts.{ascends_sort}
use Rattle.hq_base.specs.Lists.{Ascends, firsts, sort}
use Rattle.hq_sql_cells.specs.Totals.{same_number}
use Rattle.hq_sql_cells.proofs.Numbers.{runs_are_groups}
use Rattle.hq_sql_cells.proofs.different.different_numbers.Goals as goal

pub number_of_runs-requires : goal.number_of_runs-requires
number_of_runs-requires c =
    subst (Ascends int_cmp) (sym (c.deref.ensures.value ∙ c.in_ok-sort_numbers.ensures)) (ascends_sort int_cmp_total c.args.numbers.items)

pub returns : goal.returns
returns c =
    c.number_of_runs.ensures ∙ ap (λ ns. length (firsts same_number ns)) (c.deref.ensures.value ∙ c.in_ok-sort_numbers.ensures) ∙ runs_are_groups c.args.numbers.items
