use Rattle.std.proofs.Common.{◌≡◌, drop}
use Rattle.hq_load_meta_names.specs.Added.{added}
use Rattle.hq_load_meta_names.proofs.known.added.Given as goal

-- what is left goes behind those so far
abbrev pub invariant-loop-name : goal.invariant-loop-name
invariant-loop-name l = added l.path l.all (drop l.name-index l.names) ≡ added l.path l.initial.all l.names
