-- Whether sorts begin with those by exactly some columns.
use Rattle.std.proofs.Common.{◌≡◌, ◌≢◌, ◌≤◌, ◌∙◌, refl, sym, ap, ℕ, List, [], ◌∷◌, length, take, ◌&&◌, ◌==◌, arith}
use Rattle.std.proofs.lemmas.Bool.{le-leb}
use Rattle.std.specs.Prelude.{nat_le}
use Rattle.hq_request_tree.specs.Conditions.{are_sorts_of, fits_distinct}
use Rattle.hq_base.specs.Lists.{firsts}
use Rattle.hq_model.specs.Selected.{SortKey}

-- how many columns differ
abbrev pub different_count : List ℕ → ℕ
different_count cs = length (firsts (λ c d. c == d) cs)

-- where there are sorts
fits_some : (cs : List ℕ) (ks : List SortKey) → length ks ≢ 0 → fits_distinct cs ks ≡ (nat_le (different_count cs) (length ks) && are_sorts_of cs (take (different_count cs) ks))
fits_some cs [] some = absurd (some refl)
fits_some cs (k ∷ ks) some = refl

-- and as many of them as columns differ
pub fits_by : (cs : List ℕ) (ks : List SortKey) (n : ℕ) → n ≡ different_count cs → length ks ≢ 0 → n ≤ length ks → are_sorts_of cs (take n ks) ≡ fits_distinct cs ks
fits_by cs ks n is some enough =
    let few : different_count cs ≤ length ks = omega arith in
    ap (λ k. are_sorts_of cs (take k ks)) is
    ∙ sym (fits_some cs ks some ∙ ap (λ b. b && are_sorts_of cs (take (different_count cs) ks)) (le-leb (different_count cs) (length ks) few))
