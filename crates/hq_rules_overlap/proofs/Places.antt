-- Places that are known, and those of conflicts.
use Rattle.std.proofs.Common.{◌≡◌, ◌∙◌, ℕ, List, Bool, true, Option, Some, None, ◌⊎◌, inl, inr, sym, refl, subst}
use Rattle.std.proofs.lemmas.Bool.{leb-true}
use Rattle.hq_gql_nodes.specs.Least.{earlier, at_if}
use Rattle.hq_overlap_sets.specs.Sets.{FieldTree, SetTree}
use Rattle.hq_overlap_sets.specs.Pairs.{AtMost, later}
use Rattle.hq_overlap_sets.specs.Places.{cannot_merge}
use Rattle.hq_overlap_sets.specs.Together.{AreConflicts}
use Rattle.hq_overlap_sets.proofs.FieldTests.{violates_by}
use Rattle.hq_overlap_sets.proofs.Least.{low_left, low_right, at_if_true, at_if_low}
use Rattle.hq_rules_overlap.specs.Groups.{IsMet, is_at_most}

-- no conflict was found yet
pub none_found : (sets : List SetTree) → AreConflicts sets None
none_found sets p h = absurd (cc)

pub known_low : (o : Option ℕ) (n : ℕ) → is_at_most o n ≡ true → AtMost o n
known_low None n h = absurd (cc)
known_low (Some p) n h = leb-true p n h

-- a place that is counted, and those that were
pub counted_low : (old new : Option ℕ) (n : ℕ) → new ≡ earlier old (Some n) → AtMost new n
counted_low old new n e = subst (λ (o : Option ℕ). AtMost o n) (sym e) (low_right old (Some n) n (at_if_low true n refl))

pub still_low : (old new : Option ℕ) (n m : ℕ) → new ≡ earlier old (Some n) → AtMost old m → AtMost new m
still_low old new n m e h = subst (λ (o : Option ℕ). AtMost o m) (sym e) (low_left old (Some n) m h)

pub or_lower : {P : Type 0} (old new : Option ℕ) (n : ℕ) → (AtMost old n → AtMost new n) → P ⊎ AtMost old n → P ⊎ AtMost new n
or_lower old new n f (inl p) = inl p
or_lower old new n f (inr h) = inr (f h)

-- the place of two fields that are met and cannot merge
pub met_conflict : (sets : List SetTree) (a b : FieldTree) (apart : Bool) → IsMet sets a b → a.key ≡ b.key → apart ≡ cannot_merge a b → AreConflicts sets (at_if apart (later a b))
met_conflict sets a b apart met key e p found =
    let held = at_if_true apart (later a b) p found in
    record {
      s = met.s;
      t = met.t;
      a = a;
      b = b;
      together = met.together;
      first = met.first;
      second = met.second;
      violates = violates_by a b key (sym e ∙ held.0);
      place = held.1;
    }
