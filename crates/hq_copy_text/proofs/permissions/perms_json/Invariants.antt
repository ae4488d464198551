use Rattle.std.proofs.Common.{◌≡◌, map, take}
use Rattle.hq_base.specs.Json.{json_view}
use Rattle.hq_model.specs.Meta.{perm_view}
use Rattle.hq_laws_written.specs.Metadata.Written.{perm_json}
use Rattle.hq_copy_text.proofs.permissions.perms_json.Given as goal

-- the permissions so far
abbrev pub invariant-loop-perm : goal.invariant-loop-perm
invariant-loop-perm l =
    map json_view l.all.items ≡ map (perm_json l.columns) (map perm_view (take l.perm-index l.perms))
