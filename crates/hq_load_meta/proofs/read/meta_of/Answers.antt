use Rattle.std.proofs.Common.{◌∙◌, sym, ap}
use Rattle.hq_base.specs.Json.{json_view}
use Rattle.hq_load_meta.specs.Sound.{Shallow}
use Rattle.hq_load_meta_tables.specs.Top.{table_entries}
use Rattle.hq_load_meta.proofs.Nesting.{ShallowEntries, table_entries-shallow, all_seen}
use Rattle.std.proofs.lemmas.Result.{IfOk-at_ok}
use Rattle.hq_load_meta.proofs.read.meta_of.Goals as goal

pub tracked_of-requires : goal.tracked_of-requires
tracked_of-requires c =
    all_seen Shallow json_view c.in_ok-version.entries.now
    (IfOk-at_ok ShallowEntries (ap table_entries (sym c.unwrapped-top.ensures) ∙ c.in_ok-version.ensures) (table_entries-shallow (json_view c.args.json.now) c.requires))
