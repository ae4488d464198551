use Rattle.std.proofs.Common.{◌≡◌, ◌∙◌, ◌+◌, map, true, false, Option, option_map, unwrap_or, bytes_eq, sym, ap, arith}
use Rattle.std.proofs.lemmas.Bool.{not-true, not-false}
use Rattle.hq_sql_conjuncts.specs.Weight.{select_weight}
use Rattle.hq_sql_tree.specs.Tree.{joins_of}
use Rattle.hq_sql_tree.specs.View.{join_view, select_view}
use Rattle.hq_sql_tree.specs.Meaning.{NamedRow, rows_of}
use Rattle.hq_sql_access.specs.View.{beside, first_row, made_view, named_view, scope_of}
use Rattle.hq_sql_access.proofs.Besides.{beside_other, beside_own, join_alias, join_select, join_weighs, weight_last}
use Rattle.hq_sql_access.proofs.resolved.+resolve.Goals as goal

pub resolve_joined-resolve_joined-requires : goal.resolve_joined-resolve_joined-requires
resolve_joined-resolve_joined-requires t c =
    let last = weight_last c.args.joins.now c.in-Some.before.now c.in-Some.join.now c.in-Some.ensures.cases.0 in
    let heavy = join_weighs c.in-Some.join.now in
    omega (arith, last, heavy)

pub resolve_joined-returns-then-ne-clause-row : goal.resolve_joined-returns-then-ne-clause-row
resolve_joined-returns-then-ne-clause-row t c =
    let join = c.in-Some.join.now in
    let alias = c.args.alias.now in
    let other : bytes_eq (join_view join).alias alias ≡ false = ap (λ a. bytes_eq a alias) (join_alias join) ∙ not-true (bytes_eq join.alias alias) (sym c.ne.ensures ∙ c.if-ne.true) in
    λ w. beside_other c.args.joins.now c.in-Some.before.now join w (scope_of c.args.outer.now w)
    (map (option_map made_view) c.args.rows.now) c.in-Some.ensures.cases.0 alias other
    ∙ c.resolve_joined.ensures.row w

pub resolve_joined-returns-then-ne-clause-weight : goal.resolve_joined-returns-then-ne-clause-weight
resolve_joined-returns-then-ne-clause-weight t c =
    let last = weight_last c.args.joins.now c.in-Some.before.now c.in-Some.join.now c.in-Some.ensures.cases.0 in
    let less = c.resolve_joined.ensures.weight in
    omega (arith, last, less)

pub resolve_joined-returns-in-Some-joined_at-clause-row : goal.resolve_joined-returns-in-Some-joined_at-clause-row
resolve_joined-returns-in-Some-joined_at-clause-row t c =
    let join = c.in-Some.join.now in
    let before = joins_of (map join_view c.in-Some.before.now) in
    let alias = c.args.alias.now in
    let rows = map (option_map made_view) c.args.rows.now in
    let own : bytes_eq (join_view join).alias alias ≡ true = ap (λ a. bytes_eq a alias) (join_alias join) ∙ not-false (bytes_eq join.alias alias) (sym c.ne.ensures ∙ c.if-ne.false) in
    λ w. beside_own c.args.joins.now c.in-Some.before.now join w (scope_of c.args.outer.now w) rows c.in-Some.ensures.cases.0 alias own
    ∙ ap
    (λ (o : Option NamedRow). unwrap_or o
    (first_row (rows_of (join_view join).select w (beside before w (scope_of c.args.outer.now w) rows))))
    (sym c.in-Some-joined_at.ensures)
    ∙ ap (map named_view) (sym c.deref.ensures.value)

pub resolve_joined-returns-in-None-joined_at-clause-row : goal.resolve_joined-returns-in-None-joined_at-clause-row
resolve_joined-returns-in-None-joined_at-clause-row t c =
    let join = c.in-Some.join.now in
    let before = joins_of (map join_view c.in-Some.before.now) in
    let alias = c.args.alias.now in
    let rows = map (option_map made_view) c.args.rows.now in
    let own : bytes_eq (join_view join).alias alias ≡ true = ap (λ a. bytes_eq a alias) (join_alias join) ∙ not-false (bytes_eq join.alias alias) (sym c.ne.ensures ∙ c.if-ne.false) in
    λ w. beside_own c.args.joins.now c.in-Some.before.now join w (scope_of c.args.outer.now w) rows c.in-Some.ensures.cases.0 alias own
    ∙ ap (λ (o : Option NamedRow). unwrap_or o (first_row (rows_of (join_view join).select w (beside before w (scope_of c.args.outer.now w) rows)))) (sym c.in-None-joined_at.ensures)
    ∙ ap (λ s. first_row (rows_of s w (beside before w (scope_of c.args.outer.now w) rows))) (join_select join ∙ ap select_view (sym c.deref-in-None-joined_at.ensures))

pub resolve_joined-returns-in-None-joined_at-clause-weight : goal.resolve_joined-returns-in-None-joined_at-clause-weight
resolve_joined-returns-in-None-joined_at-clause-weight t c =
    let last = weight_last c.args.joins.now c.in-Some.before.now c.in-Some.join.now c.in-Some.ensures.cases.0 in
    let heavy = join_weighs c.in-Some.join.now ∙ ap (λ s. 8 + select_weight s) (sym c.deref-in-None-joined_at.ensures) in
    omega (arith, last, heavy)
