-- What the checker says of a statement.
use Rattle.std.specs.Prelude.{◌≡◌, List, Option, Some, None, true}
use Rattle.hq_model.specs.Database.{Row, is_database}
use Rattle.hq_model.specs.Grants.{Grants}
use Rattle.hq_model.specs.Meta.{MetaTree}
use Rattle.hq_model.specs.Schema.{schema_of}
use Rattle.hq_model.specs.View.{Agree}
use Rattle.hq_model.specs.declared.table.Table.{Table}
use Rattle.hq_sql_tree.specs.Meaning.{meaning}
use Rattle.hq_sql_tree.specs.Tree.{SelectTree}
use Rattle.hq_confine_rules.specs.Uses.{Fault}
use Rattle.hq_confine.specs.declared.check.Verdict.{Verdict}
use Rattle.hq_confine.specs.declared.check.Verdict.TheVariants.{Yes, No}

-- the fault that a verdict tells; yes tells of none
abbrev pub told : Verdict → Option Fault
told Yes = None
told (No rule alias) = Some (record { rule = rule; alias = alias })

-- the statement means the same over each two databases of the catalog that agree for who is granted so much
abbrev pub ShowsTheView : List Table → MetaTree → Grants → SelectTree → Type 0
ShowsTheView tables meta g statement =
    (d e : List (List Row)) → is_database tables d ≡ true → is_database tables e ≡ true → Agree (schema_of tables meta) g d e
    → meaning statement (record { tables = tables; database = d }) ≡ meaning statement (record { tables = tables; database = e })

-- so it is where the verdict is yes
abbrev pub YesShowsTheView : Verdict → List Table → MetaTree → Grants → SelectTree → Type 0
YesShowsTheView Yes tables meta g statement = ShowsTheView tables meta g statement
YesShowsTheView (No rule alias) tables meta g statement = Unit {0}
