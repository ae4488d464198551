-- How many sort keys a list has.
use Rattle.std.proofs.Common.{◌≡◌, ℕ, ◌+◌, ◌≤◌, List, [], ◌∷◌, length, refl, arith}
use Rattle.hq_model.specs.Schema.{Schema, table}
use Rattle.hq_model.specs.Selected.{ListArguments, SortKey, ascending, sorts_or, entries}
use Rattle.hq_translation.specs.Lists.{once, list_sorts}
use Rattle.hq_translation.specs.Looks.{add_all}
use Rattle.hq_translation.specs.Sorts.{Sort, shown_sorts, own_sorts}
use Rattle.hq_translation.proofs.Once.{length_once}

-- as many as there are entries, and those behind them
shown_sorts-length : (ks : List SortKey) (rest : List Sort) → length (shown_sorts ks rest) ≡ length ks + length rest
shown_sorts-length [] rest = omega arith
shown_sorts-length (k ∷ ks) rest = omega (arith, shown_sorts-length ks rest)

-- one for each column of a key
own_sorts-length : (cs : List ℕ) → length (own_sorts cs) ≡ length cs
own_sorts-length [] = refl
own_sorts-length (c ∷ cs) = omega (arith, own_sorts-length cs)

ascending-length : (cs : List ℕ) → length (ascending cs) ≡ length cs
ascending-length [] = refl
ascending-length (c ∷ cs) = omega (arith, ascending-length cs)

-- a column that is given twice is one entry
entries-fewer : (ks : List SortKey) (cs : List ℕ) → length (sorts_or ks (ascending (add_all cs []))) ≤ length (sorts_or ks (ascending cs))
entries-fewer [] cs = omega (arith, length_once cs, ascending-length cs, ascending-length (add_all cs []))
entries-fewer (k ∷ ks) cs = omega arith

-- at most as many as there are entries and columns of the table's key
pub list_sorts-length : (s : Schema) (t : ℕ) (a : ListArguments) → length (list_sorts s t a) ≤ length (entries a) + length (table s t).key
list_sorts-length s t a =
    omega (arith, shown_sorts-length (entries (once a)) (own_sorts (table s t).key), own_sorts-length (table s t).key, entries-fewer a.sorts a.distinct)
