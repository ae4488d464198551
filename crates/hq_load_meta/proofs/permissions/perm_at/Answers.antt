use Rattle.std.proofs.lemmas.Result.{IfOk-at_ok}
use Rattle.hq_base.specs.Json.{json_view}
use Rattle.hq_load_meta_tables.specs.declared.field.Field.TheVariants as field
use Rattle.hq_load_meta.specs.Sound.{Shallow}
use Rattle.hq_load_meta.proofs.Nesting.{object_at-shallow, object_member-shallow}
use Rattle.hq_load_meta.proofs.permissions.perm_at.Goals as goal

pub permission_at-requires : goal.permission_at-requires
permission_at-requires c =
    let object = IfOk-at_ok Shallow c.in_ok-object.ensures (object_at-shallow c.args.path.now (json_view c.args.json.now) c.requires) in
    IfOk-at_ok Shallow c.in_ok-permission.ensures (object_member-shallow c.args.path.now (json_view c.in_ok-object.object.now) field.Permission object)
