use Rattle.std.proofs.Common.{◌≡◌, ◌≤◌, ◌+◌, ◌^◌, ◌∙◌, ℕ, length, sym, subst}
use Rattle.std.proofs.lemmas.Result.{on_ok_weaker}
use Rattle.hq_model.specs.Meta.{meta_view}
use Rattle.hq_model.specs.Schema.{schema_of, schema_table}
use Rattle.hq_request_tree.specs.Root.{table_fields}
use Rattle.hq_translation.specs.Correct.{AreFew}
use Rattle.hq_translation.specs.Fields.{fields_numbers}
use Rattle.hq_translation.specs.GrantedTables.{GrantedTables}
use Rattle.hq_compile_tables.specs.Contexts.{granted_in}
use Rattle.hq_compile.proofs.Requests.{few_tables, numbered_long}
use Rattle.hq_compile.specs.Fields.{fields_view}
use Rattle.hq_compile.proofs.statement.asked.Goals as goal

pub statement-requires : goal.statement-requires
statement-requires c =
    let tables = c.args.catalog.now.tables in
    c.new-root.ensures ∙ c.len.ensures ∙ sym (numbered_long (schema_table (meta_view c.args.meta.now)) 0 tables)

pub returns-clause-held : goal.returns-clause-held
returns-clause-held c =
    let tables = c.args.catalog.now.tables in
    let s = schema_of tables (meta_view c.args.meta.now) in
    let fs = fields_view c.args.ask.now.fields.items in
    let given = granted_in c.in_ok-granted.granted in
    let root-is : c.new-root.result ≡ length s = c.new-root.ensures ∙ c.len.ensures ∙ sym (numbered_long (schema_table (meta_view c.args.meta.now)) 0 tables) in
    let few : AreFew fs s (length s) = subst (λ (r : ℕ). AreFew fs s r) root-is c.in_ok-count_fields.ensures in
    on_ok_weaker c.statement.result
    (λ numbers. (
      subst (λ (g : GrantedTables). 1 + fields_numbers (table_fields fs) s g (length s) ≤ 2 ^ 64) c.in_ok-granted.ensures
          (subst (λ (r : ℕ). 1 + fields_numbers (table_fields fs) s given r ≤ 2 ^ 64) root-is numbers),
      few_tables s (length s) fs few,
    ))
    c.statement.ensures.numbers
