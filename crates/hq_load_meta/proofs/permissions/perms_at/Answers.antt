use Rattle.std.specs.List.{AllByRecursion}
use Rattle.std.proofs.lemmas.Result.{IfOk-at_ok}
use Rattle.hq_base.specs.Json.{json_view}
use Rattle.hq_load_meta_tables.specs.declared.field.Field.TheVariants as field
use Rattle.hq_load_meta.specs.Sound.{Shallow}
use Rattle.hq_load_meta.proofs.Nesting.{entries_member-shallow, all_seen}
use Rattle.hq_load_meta.proofs.permissions.perms_at.Goals as goal

pub listed_perms-requires : goal.listed_perms-requires
listed_perms-requires c =
    all_seen Shallow json_view c.in_ok-list.list.now
    (IfOk-at_ok (AllByRecursion Shallow) c.in_ok-list.ensures (entries_member-shallow c.args.path.now (json_view c.args.entry.now) field.SelectPermissions c.requires))
