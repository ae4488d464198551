use Rattle.std.proofs.Common.{ℕ, ◌∙◌, ◌+◌, ◌++◌, ◌∷◌, [], List, map, filter, drop, get_or, ap, sym}
use Rattle.std.proofs.lemmas.List.{drop_more, map-append}
use Rattle.hq_base.specs.Json.{member_view}
use Rattle.hq_base.proofs.Loops.{piece_more}
use Rattle.hq_copy_text.proofs.Steps.{place_passes, place_fails}
use Rattle.hq_laws_written.specs.Metadata.Written.{column_config, is_shown, shown_columns}
use Rattle.hq_model.specs.Meta.{tracked_view}
use Rattle.hq_model.specs.Schema.{no_column, numbered}
use Rattle.hq_model.specs.declared.table.Column.{Column}
use Rattle.hq_copy_text.proofs.metadata.shown_configs.Goals as goal
use Rattle.hq_copy_text.proofs.metadata.shown_configs.Goals.{then-is_shown+in_ok-column_config+in_ok-push, else-is_shown}

pub loop-at-preserved : goal.loop-at-preserved
loop-at-preserved c =
    let k = tracked_view c.args.tracked.now in
    let columns = c.args.columns.now in
    let f = column_config k columns in
    let configs = λ (place : ℕ) (cs : List Column). map f (filter (is_shown k) (numbered (λ (p : ℕ) (x : Column). p) place cs)) in
    let i = c.loop-at.at in
    let rest = drop (i + 1) columns in
    let before = map member_view c.loop-at.members.items in
    let after = map member_view c.if-is_shown.members.items in
    let split = ap (configs i) (drop_more columns i no_column c.loop-at-test.true) in
    let test = sym (ap (is_shown k) c.new-c.ensures) ∙ sym c.is_shown.ensures in
    elim c.if-is_shown.branch [
      | then-is_shown+in_ok-column_config+in_ok-push w ↦
          let grows = ap (λ v. map member_view v.items) w.members-is ∙ ap (map member_view) w.in_ok-push.ensures.items
          ∙ map-append member_view c.loop-at.members.items (w.in_ok-column_config.field-0 ∷ [])
          ∙ ap (λ v. before ++ v ∷ []) (w.in_ok-column_config.ensures ∙ ap f c.new-c.ensures) in
          piece_more before after (f i ∷ []) (configs (i + 1) rest) (configs i (drop i columns)) (map f (shown_columns k columns)) grows
          (split ∙ place_passes (is_shown k) f i (get_or columns i no_column) rest (test ∙ w.if-is_shown.true)) c.loop-at.invariant
      | else-is_shown w ↦
          ap (λ v. map member_view v.items ++ configs (i + 1) rest) w.members-is
          ∙ ap (λ xs. before ++ xs) (sym (split ∙ place_fails (is_shown k) f i (get_or columns i no_column) rest (test ∙ w.if-is_shown.false))) ∙ c.loop-at.invariant
    ]
