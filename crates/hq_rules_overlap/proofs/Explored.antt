-- Steps of the search by groups.
use Rattle.std.proofs.Common.{◌≡◌, ◌∙◌, ℕ, zero, suc, ◌+◌, ◌<◌, ◌≤◌, List, [], ◌∷◌, ◌++◌, length, Bool, true, false, Option, Some, None, ◌⊎◌, inl, inr, sym, ap, subst, arith, append_assoc}
use Rattle.std.specs.Prelude.{slice_get}
use Rattle.hq_gql_nodes.specs.Reach.{graph_view}
use Rattle.std.specs.List.{All, Contains}
use Rattle.std.proofs.lemmas.Bool.{cases_lt}
use Rattle.std.proofs.lemmas.List.Elements.{All-contains, Contains-append_left}
use Rattle.std.proofs.lemmas.List.{length-append}
use Rattle.std.proofs.lemmas.Option.{slice_get_within, get_or_from_slice_get}
use Rattle.hq_overlap_sets.specs.Sets.{FieldTree, SetTree}
use Rattle.hq_overlap_sets.specs.Pairs.{fields_at, spreads_at, later, AtMost}
use Rattle.hq_overlap_sets.specs.Together as walk
use Rattle.hq_overlap_sets.specs.Together.{Together, AreConflicts}
use Rattle.hq_rules_overlap.proofs.Grouped.{each_explored}
use Rattle.hq_overlap_sets.proofs.Growing.{nothing_more}
use Rattle.hq_overlap_sets.proofs.Least.{same_some}
use Rattle.hq_overlap_sets.proofs.RowLemmas.{only_one}
use Rattle.hq_overlap_sets.proofs.Tests.{no_member, contains_cases}
use Rattle.hq_rules_overlap.specs.Groups.{HasAll, AreTogether, IsClosed, IsWithin, AreOf, AreCounted, InOne, HaveBelow, IsDone, IsExplored, AreExplored, IsCovered}
use Rattle.hq_rules_overlap.specs.declared.groups.Groups.{Groups}
use Rattle.hq_rules_overlap.specs.Walk.{IsEmpty}
use Rattle.hq_rules_overlap.specs.Exploring.{Continues, IsKept, is_marked, lists_of, Goes, IsSound, IsAtEnd, LookedAt, Explored}

pub goes_nowhere : (lists : List (List ℕ)) → Continues lists lists
goes_nowhere lists = ([], sym (nothing_more lists))

pub goes_on : (a b c : List (List ℕ)) → Continues a b → Continues b c → Continues a c
goes_on a b c p q = (p.0 ++ q.0, q.1 ∙ (ap (λ (ys : List (List ℕ)). ys ++ q.0) p.1 ∙ append_assoc a p.0 q.0))

pub still_there : (a b : List (List ℕ)) (list : List ℕ) → Continues a b → Contains a list → Contains b list
still_there a b list p h = subst (λ (ys : List (List ℕ)). Contains ys list) (sym p.1) (Contains-append_left a p.0 list h)

-- what is done stays so while lists are added and the least place falls
module _ (sets : List SetTree) (old new : List (List ℕ)) (least lower : Option ℕ) (more : Continues old new) (low : (n : ℕ) → AtMost least n → AtMost lower n) where
  in_one_kept : (s t : ℕ) → InOne old s t → InOne new s t
  in_one_kept s t x = record { list = x.list; of_lists = still_there old new x.list more x.of_lists; first = x.first; second = x.second }

  done_kept : (group : List ℕ) → IsDone sets old least group → IsDone sets new lower group
  done_kept group x = record {
    closed = x.closed;
    counted = λ a b p q v. low (later a b) (x.counted a b p q v);
    below = λ a b p q e. in_one_kept a.below b.below (x.below a b p q e);
  }

  pub explored_kept : (list : List ℕ) → IsExplored sets old least list → IsExplored sets new lower list
  explored_kept list x = record { group = x.group; done = done_kept x.group x.done; has = x.has }

  get_old : (xs ys : List (List ℕ)) (k : ℕ) (z : List ℕ) → k < length xs → slice_get (xs ++ ys) k ≡ Some z → slice_get xs k ≡ Some z
  get_old [] ys k z l h = absurd (omega arith)
  get_old (x ∷ xs) ys zero z l h = h
  get_old (x ∷ xs) ys (suc k) z l h = get_old xs ys k z (omega arith) h

  pub all_kept : (count : ℕ) → count ≤ length old → AreExplored sets old least count → AreExplored sets new lower count
  all_kept count inside before k list h e =
      let shorter : k < length old = omega arith in
      explored_kept list (before k list h (get_old old more.0 k list shorter (subst (λ (ys : List (List ℕ)). slice_get ys k ≡ Some list) more.1 e)))

  -- one more list is explored
  pub one_explored : (count : ℕ) (list : List ℕ) → slice_get old count ≡ Some list → AreExplored sets old least count → IsExplored sets new lower list → AreExplored sets new lower (count + 1)
  one_explored count list at before now k other h e =
      let inside : count < length old = slice_get_within old count list at in
      (elim (cases_lt k count) [
        | inl less ↦ let short : count ≤ length old = omega arith in all_kept count short before k other less e
        | inr more' ↦
            let same : k ≡ count = omega arith in
            let shorter : k < length old = omega arith in
            let there : slice_get old k ≡ Some other = get_old old more.0 k other shorter (subst (λ (ys : List (List ℕ)). slice_get ys k ≡ Some other) more.1 e) in
            subst (IsExplored sets new lower) (same_some list other (sym at ∙ subst (λ (n : ℕ). slice_get old n ≡ Some other) same there)) now
      ])

-- a set of a list that is explored is in a group
pub covered_of : (sets : List SetTree) (lists : List (List ℕ)) (least : Option ℕ) (list : List ℕ) (s : ℕ) → IsExplored sets lists least list → Contains list s → IsCovered sets lists least s
covered_of sets lists least list s x h = record {
  group = x.group;
  done = x.done;
  has = λ t m.
      (elim (contains_cases s [] t m) [
        | inl same ↦ subst (Contains x.group) same (x.has s h)
        | inr none ↦ absurd (no_member t none)
      ]);
}

-- a set alone is put together with itself
pub alone_together : (sets : List SetTree) (s : ℕ) → s < length sets → AreTogether sets (s ∷ [])
alone_together sets s h x y a b =
    (elim (contains_cases s [] x a) [
      | inr none ↦ absurd (no_member x none)
      | inl one ↦
          (elim (contains_cases s [] y b) [
            | inr none ↦ absurd (no_member y none)
            | inl two ↦ subst (λ (u : ℕ). Together sets u y) one (subst (λ (u : ℕ). Together sets s u) two (walk.alone h))
          ])
    ])

-- the rows that are kept list the sets below fields of one key
pub listed_below : (lists rows : List (List ℕ)) (fields : List FieldTree) → All (IsKept lists) rows → HaveBelow rows fields → HaveBelow lists fields
listed_below lists rows fields kept below a b p q e =
    let x = below a b p q e in
    record { list = x.list; of_lists = All-contains (IsKept lists) rows x.list kept x.of_lists a.below x.first; first = x.first; second = x.second }

-- a group whose fields were looked at is done
pub group_done : (sets : List SetTree) (lists : List (List ℕ)) (least : Option ℕ) (group : List ℕ) (fields : List FieldTree)
    → IsClosed sets group → AreOf sets group fields → AreCounted fields least → HaveBelow lists fields
    → IsDone sets lists least group
group_done sets lists least group fields closed of_group counted below = record {
  closed = closed;
  counted = λ a b p q v. counted a b (of_group.all a p) (of_group.all b q) v;
  below = λ a b p q e. below a b (of_group.all a p) (of_group.all b q) e;
}

-- a set that is covered stays so
pub covered_kept : (sets : List SetTree) (old new : List (List ℕ)) (least lower : Option ℕ) → Continues old new
    → ((n : ℕ) → AtMost least n → AtMost lower n) → (s : ℕ) → IsCovered sets old least s → IsCovered sets new lower s
covered_kept sets old new least lower more low s x = explored_kept sets old new least lower more low (s ∷ []) x

-- a list that is kept stays so
pub kept_longer : (old new : List (List ℕ)) (list : List ℕ) → Continues old new → IsKept old list → IsKept new list
kept_longer old new list more kept s h = still_there old new list more (kept s h)

-- a state of which only steps changed
pub sound_same : (sets : List SetTree) (p q : Groups) → q.lists ≡ p.lists → q.covered ≡ p.covered → q.found ≡ p.found → IsSound sets p → IsSound sets q
sound_same sets p q lists covered found sound =
    let same = ap (λ ls. graph_view ls.rows.items) lists in
    let least = ap (λ f. f.least) found in
    record {
      best = subst (λ f. AreConflicts sets f.best) (sym found) sound.best;
      together = subst (All (AreTogether sets)) (sym same) sound.together;
      covered = λ s m.
          subst (λ (ls : List (List ℕ)). IsCovered sets ls q.found.least s) (sym same)
          (subst (λ (o : Option ℕ). IsCovered sets (lists_of p) o s) (sym least) (sound.covered s (subst (λ marks. is_marked marks.items s ≡ true) covered m)));
    }

pub goes_same : (p q r : Groups) → q.lists ≡ p.lists → q.found ≡ p.found → Goes q r → Goes p r
goes_same p q r lists found g = record {
  lists = subst (λ ls. Continues (graph_view ls.rows.items) (lists_of r)) lists g.lists;
  lower = λ n h. g.lower n (subst (λ f. AtMost f.least n) (sym found) h);
}

pub looked_same : (sets : List SetTree) (p q r : Groups) (group : List ℕ) → q.lists ≡ p.lists → q.found ≡ p.found → LookedAt sets q r group → LookedAt sets p r group
looked_same sets p q r group lists found x = record { sound = x.sound; goes = goes_same p q r lists found x.goes; done = x.done }

pub goes_then : (p q r : Groups) → Goes p q → Goes q r → Goes p r
goes_then p q r a b = record { lists = goes_on (lists_of p) (lists_of q) (lists_of r) a.lists b.lists; lower = λ n h. b.lower n (a.lower n h) }

pub goes_still : (p : Groups) → Goes p p
goes_still p = record { lists = goes_nowhere (lists_of p); lower = λ n h. h }

-- a set without fields and spreads is a group that is done
empty_done : (sets : List SetTree) (lists : List (List ℕ)) (least : Option ℕ) (s : ℕ) → IsEmpty sets s → IsDone sets lists least (s ∷ [])
empty_done sets lists least s empty =
    let no_field =
    λ (a : FieldTree) (w : IsWithin sets (s ∷ []) a). no_member a
    (subst (λ (fs : List FieldTree). Contains fs a) (ap (fields_at sets) (sym (only_one s w.set w.of_group)) ∙ empty.fields) w.stands) in
    record {
      closed = λ t u h c. absurd (no_member u (subst (λ (us : List ℕ). Contains us u) (ap (spreads_at sets) (sym (only_one s t h)) ∙ empty.spreads) c));
      counted = λ a b p q v. absurd (no_field a p);
      below = λ a b p q e. absurd (no_field a p);
    }

pub empty_covered : (sets : List SetTree) (lists : List (List ℕ)) (least : Option ℕ) (s : ℕ) → IsEmpty sets s → IsCovered sets lists least s
empty_covered sets lists least s empty = record { group = s ∷ []; done = empty_done sets lists least s empty; has = λ t h. h }

-- a list that was looked at is explored, and its sets are marked
module _ (sets : List SetTree) (p q r : Groups) (list group : List ℕ) (has : HasAll group list) (looked : LookedAt sets p q group)
    (lists : r.lists ≡ q.lists) (found : r.found ≡ q.found)
    (marks : (s : ℕ) → is_marked r.covered.items s ≡ true → (is_marked q.covered.items s ≡ true) ⊎ Contains group s) where
  its_group : IsExplored sets (lists_of q) q.found.least group
  its_group = record { group = group; done = looked.done; has = λ s h. h }

  covered_by : (s : ℕ) → (is_marked q.covered.items s ≡ true) ⊎ Contains group s → IsCovered sets (lists_of q) q.found.least s
  covered_by s (inl old) = looked.sound.covered s old
  covered_by s (inr new) = covered_of sets (lists_of q) q.found.least group s its_group new

  at_r : (P : List (List ℕ) → Option ℕ → Type 0) → P (lists_of q) q.found.least → P (lists_of r) r.found.least
  at_r P h = subst (λ (ls : List (List ℕ)). P ls r.found.least) (sym (ap (λ ls. graph_view ls.rows.items) lists)) (subst (P (lists_of q)) (sym (ap (λ f. f.least) found)) h)

  pub marked_sound : IsSound sets r
  marked_sound = record {
    best = subst (λ f. AreConflicts sets f.best) (sym found) looked.sound.best;
    together = subst (λ ls. All (AreTogether sets) (graph_view ls.rows.items)) (sym lists) looked.sound.together;
    covered = λ s m. at_r (λ ls o. IsCovered sets ls o s) (covered_by s (marks s m));
  }

  pub marked_explored : Explored sets p r list
  marked_explored = record {
    sound = marked_sound;
    goes =
        record {
          lists = subst (λ ls. Continues (lists_of p) (graph_view ls.rows.items)) (sym lists) looked.goes.lists;
          lower = λ n h. subst (λ f. AtMost f.least n) (sym found) (looked.goes.lower n h);
        };
    explored = at_r (λ ls o. IsExplored sets ls o list) (record { group = group; done = looked.done; has = has });
  }

pub explored_from : (sets : List SetTree) (p q r : Groups) (list : List ℕ) → q.lists ≡ p.lists → q.found ≡ p.found → Explored sets q r list → Explored sets p r list
explored_from sets p q r list lists found x = record { sound = x.sound; goes = goes_same p q r lists found x.goes; explored = x.explored }

-- at the end each list is explored
pub all_explored : (sets : List SetTree) (q : Groups) → IsAtEnd sets q → (list : List ℕ) → Contains (lists_of q) list → IsExplored sets (lists_of q) q.found.least list
all_explored sets q end list h = let all = end.all in each_explored sets (lists_of q) q.found.least q.done (omega (arith, all)) end.explored list h

-- so a set of one of them is covered
pub end_covers : (sets : List SetTree) (q : Groups) (s : ℕ) → IsAtEnd sets q → Contains (lists_of q) (s ∷ []) → IsCovered sets (lists_of q) q.found.least s
end_covers sets q s end h = all_explored sets q end (s ∷ []) h

-- a state that has more lists
pub more_sound : (sets : List SetTree) (p q : Groups) → Continues (lists_of p) (lists_of q) → q.found ≡ p.found → q.covered ≡ p.covered
    → All (AreTogether sets) (lists_of q) → IsSound sets p → IsSound sets q
more_sound sets p q more found covered together sound = record {
  best = subst (λ f. AreConflicts sets f.best) (sym found) sound.best;
  together = together;
  covered = λ s m.
      subst (λ f. IsCovered sets (lists_of q) f.least s) (sym found)
      (covered_kept sets (lists_of p) (lists_of q) p.found.least p.found.least more (λ n h. h) s (sound.covered s (subst (λ marks. is_marked marks.items s ≡ true) covered m)));
}

pub more_explored : (sets : List SetTree) (p q : Groups) → Continues (lists_of p) (lists_of q) → q.found ≡ p.found → q.done ≡ p.done
    → length (lists_of p) ≡ p.done → AreExplored sets (lists_of p) p.found.least p.done
    → AreExplored sets (lists_of q) q.found.least q.done
more_explored sets p q more found done all explored =
    subst (λ (n : ℕ). AreExplored sets (lists_of q) q.found.least n) (sym done)
    (subst (λ f. AreExplored sets (lists_of q) f.least p.done) (sym found) (all_kept sets (lists_of p) (lists_of q) p.found.least p.found.least more (λ n h. h) p.done (omega (arith, all)) explored))

-- a list that goes on is longer
longer : (old new : List (List ℕ)) → Continues old new → length old ≤ length new
longer old new more = let e = ap length more.1 ∙ length-append old more.0 in omega (arith, e)

pub more_inside : (old new : List (List ℕ)) (done : ℕ) → Continues old new → length old ≡ done → done ≤ length new
more_inside old new done more all = let long = longer old new more in omega (arith, long, all)

pub one_inside : (old new : List (List ℕ)) (at : ℕ) (list : List ℕ) → slice_get old at ≡ Some list → Continues old new → at + 1 ≤ length new
one_inside old new at list h more =
    let inside = slice_get_within old at list h in
    let long = longer old new more in
    omega (arith, inside, long)

pub goes_more : (p q : Groups) → Continues (lists_of p) (lists_of q) → q.found ≡ p.found → Goes p q
goes_more p q more found = record { lists = more; lower = λ n h. subst (λ f. AtMost f.least n) (sym found) h }

-- the sets of a list that stands at a place
pub got_together : (sets : List SetTree) (lists : List (List ℕ)) (at : ℕ) (list : List ℕ) → slice_get lists at ≡ Some list → All (AreTogether sets) lists → AreTogether sets list
got_together sets lists at list h all = All-contains (AreTogether sets) lists list all (at, slice_get_within lists at list h, get_or_from_slice_get lists at list list h)

-- where no list is left, all are explored
none_left : (lists : List (List ℕ)) (at : ℕ) → slice_get lists at ≡ None → length lists ≤ at
none_left [] at h = omega arith
none_left (x ∷ xs) zero h = absurd (cc)
none_left (x ∷ xs) (suc at) h = let r = none_left xs at h in omega (arith, r)

pub at_end : (sets : List SetTree) (q : Groups) (at : ℕ) → IsSound sets q → AreExplored sets (lists_of q) q.found.least at
    → at ≤ length (lists_of q) → slice_get (lists_of q) at ≡ None → IsAtEnd sets (record q { done = at })
at_end sets q at sound explored inside none =
    let long = none_left (lists_of q) at none in
    record {
      sound = record { best = sound.best; together = sound.together; covered = sound.covered };
      explored = explored;
      all = omega (arith, long, inside);
    }

pub goes_done : (p q : Groups) (at : ℕ) → Goes p q → Goes p (record q { done = at })
goes_done p q at g = record { lists = g.lists; lower = g.lower }

-- the sets so far are covered
pub covered_more : (sets : List SetTree) (p q : Groups) (passed : List Bool) (n : ℕ) → Goes p q → ((s : ℕ) → s < n → is_marked passed s ≡ false → IsCovered sets (lists_of p) p.found.least s)
    → (is_marked passed n ≡ false → IsCovered sets (lists_of q) q.found.least n) → (s : ℕ) → s < n + 1 → is_marked passed s ≡ false → IsCovered sets (lists_of q) q.found.least s
covered_more sets p q passed n goes before now s h unmarked =
    (elim (cases_lt s n) [
      | inl less ↦ covered_kept sets (lists_of p) (lists_of q) p.found.least q.found.least goes.lists goes.lower s (before s less unmarked)
      | inr more ↦
          let e : n ≡ s = omega (arith, h, more) in
          subst (IsCovered sets (lists_of q) q.found.least) e (now (subst (λ (m : ℕ). is_marked passed m ≡ false) (sym e) unmarked))
    ])
