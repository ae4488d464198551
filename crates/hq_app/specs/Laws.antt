-- Two worlds (Hasura, Authorization: row and column permissions).
use Rattle.std.specs.Prelude.{◌≡◌, ℕ, List, true, Option, Some, IfSome}
use Rattle.hq_engine.specs.Asking.{Counts}
use Rattle.hq_engine.specs.Engines.{engine_agree}
use Rattle.hq_engine.specs.declared.engine.Engine.{Engine}
use Rattle.hq_model.specs.Catalog.{is_catalog}
use Rattle.hq_model.specs.Database.{Row}
use Rattle.hq_model.specs.Fits.{fits}
use Rattle.hq_model.specs.Grants.{grants_of}
use Rattle.hq_model.specs.Meta.{MetaTree}
use Rattle.hq_model.specs.Schema.{schema_of}
use Rattle.hq_model.specs.View.{Agree}
use Rattle.hq_model.specs.declared.session.Session.{Session}
use Rattle.hq_model.specs.declared.table.Table.{Table}
use Rattle.hq_command.specs.Ending.{Outcome}
use Rattle.hq_command.specs.Answers.{Answers}
use Rattle.hq_command.specs.Output.{request_output}

-- over two databases that a session cannot tell apart, the same output is due
abbrev pub OutputsAgree : List Table → MetaTree → Session → (text : List ℕ) → (d e : List (List Row)) → Type 0
OutputsAgree tables meta session text d e =
    is_catalog tables ≡ true → fits tables meta ≡ true → Agree (schema_of tables meta) (grants_of session tables meta) d e
    → request_output tables meta session (Some d) text ≡ request_output tables meta session (Some e) text

-- an answer is due over each database that the session cannot tell apart from the one that is told
abbrev pub AnswersAlike : Engine → Session → Option (List (List Row)) → (text : List ℕ) → (old new : Option (List ℕ)) → (before now : Counts) → Outcome → Type 0
AnswersAlike engine session database text old new before now answer =
    IfSome database (λ d. (e : List (List Row)) → engine_agree engine session d e → Answers engine session (Some e) text old new before now answer)
