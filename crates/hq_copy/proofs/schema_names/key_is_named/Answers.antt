use Rattle.std.proofs.Common.{◌≡◌, ◌∙◌, ℕ, Bool, Some, None, ap, slice_get, sym, rules, tests}
use Rattle.std.specs.Prelude.{◌==◌}
use Rattle.std.specs.List.{list_all, list_any}
use Rattle.std.proofs.lemmas.Iterator.{YieldsList-from_slice}
use Rattle.std.proofs.lemmas.Iterator.Search.{all_from_yields_List}
use Rattle.std.proofs.lemmas.Option.{slice_get-get_or, slice_get_past}
use Rattle.hq_model.specs.Permission.{named_from}
use Rattle.hq_model.specs.Schema.{SchemaTable}
use Rattle.hq_model.proofs.Places.{table_absent, table_present}
use Rattle.hq_copy.proofs.schema_names.key_is_named.Goals as goal

pub returns-in-Some : goal.returns-in-Some
returns-in-Some c m =
    let tables = c.args.tables.now in
    let t = c.args.tracked.now.table in
    let found = c.in-Some.table.now in
    let is_named : ℕ → Bool = λ k. list_any (λ d. d == k) (named_from 0 c.args.tracked.now.column_names) in
    let here : slice_get tables t ≡ Some found =
    ap (slice_get tables) (sym c.at.ensures) ∙ slice_get-get_or tables c.at.result found c.in-Some.ensures.lookup.3.0 ∙ ap Some (sym c.in-Some.ensures.lookup.1) in
    all_from_yields_List is_named _ _ c.all.result c.all.ensures.ran (YieldsList-from_slice c.as_slice.result.now cc) (λ x b q k. search (rules, tests))
    ∙ ap (list_all is_named) (c.as_slice.ensures ∙ sym (ap (λ (u : SchemaTable). u.key) (table_present tables m t found here)))

pub returns-in-None : goal.returns-in-None
returns-in-None c m =
    let tables = c.args.tables.now in
    let t = c.args.tracked.now.table in
    let is_named : ℕ → Bool = λ k. list_any (λ d. d == k) (named_from 0 c.args.tracked.now.column_names) in
    let none : slice_get tables t ≡ None = ap (slice_get tables) (sym c.at.ensures) ∙ slice_get_past tables c.at.result c.in-None.ensures.lookup.3 in
    ap (list_all is_named) (sym (ap (λ (u : SchemaTable). u.key) (table_absent tables m t none)))
