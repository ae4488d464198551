use Rattle.std.proofs.Common.{◌≡◌, drop}
use Rattle.std.specs.List.{list_all}
use Rattle.hq_laws_written.specs.Json.ReadBack.{is_clean}
use Rattle.hq_copy_text.proofs.clean.rels_are_clean.Given as goal

-- those that are left are clean, if all are
abbrev pub invariant-loop-rel : goal.invariant-loop-rel
invariant-loop-rel l =
    list_all (λ r. is_clean r.name) (drop l.rel-index l.rels) ≡ list_all (λ r. is_clean r.name) l.rels
