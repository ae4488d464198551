use Rattle.std.proofs.Common.{◌≡◌, ℕ, Bool, false, get_or, inl, inr, arith}
use Rattle.std.proofs.Math.ListN.{replicate, length-replicate}
use Rattle.std.proofs.lemmas.List.{get_or-replicate, get_or_past}
use Rattle.std.proofs.lemmas.Bool.{cases_lt}
use Rattle.hq_load_tables.proofs.table_set.TableSet.new.Goals as goal

-- a list of falses has no true, nor has what is past its end
all_false : (n u : ℕ) → get_or (replicate n false) u false ≡ false
all_false n u =
    elim (cases_lt u n) [
      | inl h ↦ get_or-replicate n u false false h
      | inr h ↦ get_or_past (replicate n false) u false (let e = length-replicate {A = Bool} n false in omega (arith, e, h))
    ]

pub returns : goal.returns
returns c = λ u. all_false 500 u
