use Rattle.std.proofs.Common.{◌≡◌, drop, length}
use Rattle.std.specs.Prelude.{nat_lt}
use Rattle.hq_copy_definition.specs.Refusals.{first_of, refused_if}
use Rattle.hq_copy_definition.specs.declared.refusal.CopyRefusal.TheVariants.{TooWide}
use Rattle.hq_model.specs.Catalog.{full_name}
use Rattle.hq_copy.proofs.sizes.check_widths.Given as goal

-- none of the tables so far is refused
abbrev pub invariant-loop-table : goal.invariant-loop-table
invariant-loop-table l =
    let refused = first_of (λ t. refused_if (nat_lt 200 (length t.columns)) (TooWide (full_name t))) in
    refused (drop l.table-index l.tables) ≡ refused l.tables
