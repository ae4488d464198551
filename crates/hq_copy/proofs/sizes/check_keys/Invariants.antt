use Rattle.std.proofs.Common.{◌≡◌, drop, map}
use Rattle.hq_copy_definition.specs.Refusals.{first_of, masked_key_refusal}
use Rattle.hq_copy_tables.specs.Originals.{meta_in, role_in, schema_in}
use Rattle.hq_copy_tables.specs.Views.{source_view}
use Rattle.hq_copy.proofs.sizes.check_keys.Given as goal

-- none of the tables so far is refused
abbrev pub invariant-loop-source : goal.invariant-loop-source
invariant-loop-source l =
    let refused = first_of (masked_key_refusal (role_in l.original) (meta_in l.original) (schema_in l.original)) in
    refused (map source_view (drop l.source-index l.sources)) ≡ refused (map source_view l.sources)
