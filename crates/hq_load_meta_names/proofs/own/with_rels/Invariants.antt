use Rattle.std.proofs.Common.{◌≡◌, drop}
use Rattle.hq_model.specs.Meta.{meta_view}
use Rattle.hq_load_meta_names.specs.Repeats.{with_rels}
use Rattle.hq_load_meta_names.proofs.own.with_rels.Given as goal

-- what is left goes behind those so far
abbrev pub invariant-loop-place : goal.invariant-loop-place
invariant-loop-place l =
    with_rels (meta_view l.meta) l.path l.place l.own (drop l.place l.rels) ≡ with_rels (meta_view l.meta) l.path 0 l.initial.own l.rels
