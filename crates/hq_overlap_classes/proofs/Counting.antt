-- Sets at fault that are counted one after the other.
use Rattle.std.proofs.Common.{◌≡◌, ℕ, zero, suc, ◌+◌, ◌<◌, ◌≤◌, List, [], ◌∷◌, ◌++◌, get_or, subst, arith}
use Rattle.std.specs.List.{All}
use Rattle.std.specs.List.Sorted.{IsStrictlyIncreasing}
use Rattle.std.proofs.lemmas.List.Elements.{All-nil, All-push, All-weaker}
use Rattle.std.proofs.lemmas.List.Sums.{sum_by_push}
use Rattle.hq_overlap_sets.specs.Sets.{SetTree}
use Rattle.hq_overlap_classes.specs.Classes.{AtFault, MoreAtFault, size_at}
use Rattle.hq_overlap_classes.specs.Noting.{AreFound}

pub none_found : (sets : List SetTree) → AreFound sets 0 0
none_found sets = record {
  found = [];
  ascending = λ k h. absurd (omega arith);
  at_fault = All-nil (AtFault sets);
  low = All-nil (λ (s : ℕ). s < 0);
  enough = omega arith;
}

-- nothing of this set counts
pub none_more : (sets : List SetTree) (n sum : ℕ) → AreFound sets n sum → AreFound sets (n + 1) sum
none_more sets n sum x = record {
  found = x.found;
  ascending = x.ascending;
  at_fault = x.at_fault;
  low = All-weaker (λ (s : ℕ). s < n) (λ (s : ℕ). s < n + 1) (λ s h. omega (arith, h)) x.found x.low;
  enough = x.enough;
}

-- numbers behind the first one
ascending_tail : (x : ℕ) (xs : List ℕ) → IsStrictlyIncreasing (x ∷ xs) → IsStrictlyIncreasing xs
ascending_tail x xs up k h =
    let e : suc k + 1 ≡ suc (k + 1) = omega arith in
    subst (λ (m : ℕ). get_or xs k 0 < get_or (x ∷ xs) m 0) e (up (suc k) (omega (arith, h)))

-- a greater number at the end
ascending_push : (xs : List ℕ) (n : ℕ) → All (λ s. s < n) xs → IsStrictlyIncreasing xs → IsStrictlyIncreasing (xs ++ (n ∷ []))
ascending_push [] n low up k h = absurd (omega arith)
ascending_push (x ∷ []) n low up zero h = let first : x < n = low 0 0 (omega arith) in first
ascending_push (x ∷ []) n low up (suc k) h = absurd (omega arith)
ascending_push (x ∷ (y ∷ xs)) n low up zero h = up 0 (omega arith)
ascending_push (x ∷ (y ∷ xs)) n low up (suc k) h =
    let all = (y ∷ xs) ++ (n ∷ []) in
    let e : suc (k + 1) ≡ suc k + 1 = omega arith in
    subst (λ (m : ℕ). get_or all k 0 < get_or (x ∷ all) m 0) e
    (ascending_push (y ∷ xs) n (λ i d m. low (suc i) d (omega (arith, m))) (ascending_tail x (y ∷ xs) up) k (omega (arith, h)))

-- this set counts
pub one_found : (sets : List SetTree) (n sum size new : ℕ) → AtFault sets n → size ≤ size_at sets n → new ≤ sum + size → AreFound sets n sum → AreFound sets (n + 1) new
one_found sets n sum size new fault small low x =
    let all = sum_by_push (size_at sets) x.found n in
    let before = x.enough in
    record {
      found = x.found ++ (n ∷ []);
      ascending = ascending_push x.found n x.low x.ascending;
      at_fault = All-push (AtFault sets) x.found n x.at_fault fault;
      low = All-push (λ (s : ℕ). s < n + 1) x.found n (All-weaker (λ (s : ℕ). s < n) (λ (s : ℕ). s < n + 1) (λ s h. omega (arith, h)) x.found x.low) (omega arith);
      enough = omega (arith, all, before, small, low);
    }

pub more_found : (sets : List SetTree) (n most sum : ℕ) → most < sum → AreFound sets n sum → MoreAtFault sets most
more_found sets n most sum h x = let enough = x.enough in (x.found, x.ascending, x.at_fault, omega (arith, h, enough))
