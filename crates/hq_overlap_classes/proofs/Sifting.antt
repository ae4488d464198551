-- Sets without the fields that are in no dispute and lead to none have the same answer.
use Rattle.std.proofs.Common.{◌≡◌, ◌∙◌, ℕ, zero, suc, ◌+◌, ◌++◌, ◌<◌, ◌≤◌, ◌⊎◌, map, List, [], ◌∷◌, length, Bool, true, false, cond, ◌||◌, Option, Some, None, ap, sym, refl, subst, inl, inr, arith}
use Rattle.std.specs.Prelude.{MatchOption, ⊤, filter, slice_get, option_map, not}
use Rattle.std.specs.List.{All, Contains}
use Rattle.hq_schema.specs.Schema.{SchemaTree}
use Rattle.hq_overlap_classes.specs.declared.disputes.Disputes.{Disputes}
use Rattle.hq_overlap_sets.specs.declared.sets.Arena.{Arena}
use Rattle.hq_overlap_sets.specs.declared.sets.Entry.{Entry}
use Rattle.hq_overlap_sets.specs.declared.sets.Set.{Set}
use Rattle.std.proofs.lemmas.Bool.{both_ways, cases_lt, or_left, or_right}
use Rattle.hq_overlap_classes.specs.Classes.{size_at}
use Rattle.hq_overlap_classes.specs.Disputes.{Noted, IsSettled, IsTrueOf, IsTrueAt, IsTrueOfAll, keeps, kept_set, IsKeptBelow, AreKept, class_of, first_of, is_concerned, is_disputed, key_number, keeps_entry, noted_in}
use Rattle.hq_overlap_sets.specs.Pairs.{fields_in, spreads_in, fields_at, spreads_at, here, Reached, SameLabel, Violates, later, IsFirst}
use Rattle.hq_overlap_sets.specs.Sets.{FieldTree, SetTree, entry_view, set_view, set_in, arena_view}
use Rattle.hq_overlap_sets.specs.Together as walk
use Rattle.hq_overlap_sets.specs.Together.{Together, AreConflicts}
use Rattle.hq_overlap_sets.proofs.Tests.{no_member, contains_cases, contains_first, contains_later}
use Rattle.hq_overlap_sets.proofs.Least.{same_some}
use Rattle.std.proofs.lemmas.List.{length-map}
use Rattle.std.proofs.lemmas.List.Elements.{All-contains}
use Rattle.hq_overlap_sets.proofs.Reaching.{from_together, in_sets, found_from, label_turned, label_joined}
use Rattle.hq_overlap_sets.proofs.Together.{set_of_field, set_of_spread}

-- what stands in a list of which some elements are kept
one_from : {X : Type 0} (b : Bool) (y : X) (ys zs : List X) (x : X) → Contains (cond b (y ∷ zs) zs) x → (Contains zs x → Contains ys x) → Contains (y ∷ ys) x
one_from true y ys zs x h f =
    (elim (contains_cases y zs x h) [
      | inl same ↦ subst (Contains (y ∷ ys)) same (contains_first y ys)
      | inr behind ↦ contains_later y ys x (f behind)
    ])
one_from false y ys zs x h f = contains_later y ys x (f h)

pub filter_from : {X : Type 0} (p : X → Bool) (xs : List X) (x : X) → Contains (filter p xs) x → Contains xs x
filter_from p [] x h = h
filter_from p (y ∷ ys) x h = one_from (p y) y ys (filter p ys) x h (filter_from p ys x)

put_first : {X : Type 0} (b : Bool) (y : X) (zs : List X) → b ≡ true → Contains (cond b (y ∷ zs) zs) y
put_first true y zs e = contains_first y zs
put_first false y zs e = absurd (cc)

put_behind : {X : Type 0} (b : Bool) (y : X) (zs : List X) (x : X) → Contains zs x → Contains (cond b (y ∷ zs) zs) x
put_behind true y zs x h = contains_later y zs x h
put_behind false y zs x h = h

filter_has : {X : Type 0} (p : X → Bool) (xs : List X) (x : X) → p x ≡ true → Contains xs x → Contains (filter p xs) x
filter_has p [] x e h = h
filter_has p (y ∷ ys) x e h =
    (elim (contains_cases y ys x h) [
      | inl same ↦ subst (Contains (filter p (y ∷ ys))) same (put_first (p y) y (filter p ys) (ap p same ∙ e))
      | inr behind ↦ put_behind (p y) y (filter p ys) x (filter_has p ys x e behind)
    ])

-- nothing stands beyond a list
get_beyond : {X : Type 0} (xs : List X) (i : ℕ) → length xs ≤ i → slice_get xs i ≡ None
get_beyond [] i h = refl
get_beyond (x ∷ xs) zero h = absurd (omega arith)
get_beyond (x ∷ xs) (suc i) h = get_beyond xs i (omega arith)

module _ (n : Noted) (sets : List SetTree) (known : IsTrueOfAll n sets) where
  spread_known : (s u : ℕ) → Contains (spreads_at sets s) u → n.class u ≡ n.class s
  spread_known s u h = All-contains (λ x. n.class x ≡ n.class s) (spreads_at sets s) u (known s (set_of_spread sets s u h)).spreads h

  field_known : (s : ℕ) (a : FieldTree) → Contains (fields_at sets s) a → IsTrueOf n (n.class s) a
  field_known s a h = All-contains (IsTrueOf n (n.class s)) (fields_at sets s) a (known s (set_of_field sets s a h)).fields h

  -- two fields of one key and class
  in_class : (s t : ℕ) (b : FieldTree) → n.class s ≡ n.class t → Contains (fields_at sets t) b → IsTrueOf n (n.class s) b
  in_class s t b e second = subst (λ c. IsTrueOf n c b) (sym e) (field_known t b second)

  one_first : (c : ℕ) (a b : FieldTree) → a.key ≡ b.key → (x : IsTrueOf n c a) → (y : IsTrueOf n c b) → x.first ≡ y.first
  one_first c a b key x y = same_some x.first y.first (sym x.stands ∙ (ap (n.first c) key ∙ y.stands))

  below_same : (c : ℕ) (a b : FieldTree) → a.key ≡ b.key → IsTrueOf n c a → IsTrueOf n c b → n.class a.below ≡ n.class b.below
  below_same c a b key x y = sym x.below ∙ (ap (λ (f : FieldTree). n.class f.below) (one_first c a b key x y) ∙ y.below)

  pub same_class : {s t : ℕ} → Together sets s t → n.class s ≡ n.class t
  same_class (walk.alone h) = refl
  same_class (walk.left {s} {t} {u} g c) = spread_known s u c ∙ same_class g
  same_class (walk.right {s} {t} {u} g c) = same_class g ∙ sym (spread_known t u c)
  same_class (walk.below {s} {t} {a} {b} g first second e) =
      below_same (n.class s) a b e (field_known s a first) (in_class s t b (same_class g) second)

  one_label : (c : ℕ) (a b : FieldTree) (f g : FieldTree) → a.key ≡ b.key → a.parent ≡ b.parent → (x : IsSettled n c f a) → (y : IsSettled n c g b) → x.label ≡ y.label
  one_label c a b f g key parent x y = same_some x.label y.label (sym x.noted ∙ (ap (λ k. n.label c k a.parent) key ∙ (ap (n.label c b.key) parent ∙ y.noted)))

  -- two fields of a key that is in no dispute merge
  no_dispute : (c : ℕ) (a b : FieldTree) → IsTrueOf n c a → IsTrueOf n c b → n.disputed c a.key ≡ false → Violates a b → ⊥
  no_dispute c a b x y none v =
      let p = x.settled none in
      let q = y.settled (ap (n.disputed c) (sym v.0) ∙ none) in
      (elim v.1 [
        | inl shape ↦ shape (sym p.shape ∙ (ap (λ (f : FieldTree). f.shape) (one_first c a b v.0 x y) ∙ q.shape))
        | inr two ↦
            let one = one_label c a b x.first y.first v.0 two.0 p q in
            two.1 (label_joined a.label p.label.label b.label (label_turned p.label.label a.label p.same) (subst (λ (f : FieldTree). SameLabel f.label b.label) (sym one) q.same))
      ])

  -- a class that leads to a concerned one is concerned
  above : (b : Bool) (c : ℕ) (a : FieldTree) → n.concerned c ≡ b → IsTrueOf n c a → n.concerned (n.class a.below) ≡ true → n.concerned c ≡ true
  above true c a e x h = e
  above false c a e x h = absurd (both_ways (n.concerned (n.class a.below)) (x.told e).1 h)

  -- two fields that cannot merge are kept
  disputed_by : (b : Bool) (c : ℕ) (x y : FieldTree) → n.disputed c x.key ≡ b → IsTrueOf n c x → IsTrueOf n c y → Violates x y → n.disputed c x.key ≡ true
  disputed_by true c x y e p q v = e
  disputed_by false c x y e p q v = absurd (no_dispute c x y p q e v)

  concerned_by : (b : Bool) (c : ℕ) (x : FieldTree) → n.concerned c ≡ b → IsTrueOf n c x → n.disputed c x.key ≡ true → n.concerned c ≡ true
  concerned_by true c x e p h = e
  concerned_by false c x e p h = absurd (both_ways (n.disputed c x.key) (p.told e).0 h)

  -- where no class is concerned, no two fields are in conflict
  pub none_concerned : ((c : ℕ) → n.concerned c ≡ false) → IsFirst sets None
  none_concerned none = record {
    found = tt;
    least = λ a b reached v.
        let x = in_sets sets reached in
        let p = field_known x.0 a x.3 in
        absurd (no_dispute (n.class x.0) a b p (in_class x.0 x.1 b (same_class x.2) x.4) (p.told (none (n.class x.0))).0 v);
  }

module _ (n : Noted) (sets kept : List SetTree) (are_kept : AreKept n sets kept) where
  kept_by : (s : ℕ) → ((s < length sets) ⊎ (length sets ≤ s)) → slice_get kept s ≡ option_map (kept_set n s) (slice_get sets s)
  kept_by s (inl h) = are_kept.each s h
  kept_by s (inr h) =
      let long : length kept ≤ s = omega (arith, are_kept.as_long) in
      get_beyond kept s long ∙ sym (ap (option_map (kept_set n s)) (get_beyond sets s h))

  kept_get : (s : ℕ) → slice_get kept s ≡ option_map (kept_set n s) (slice_get sets s)
  kept_get s = kept_by s (cases_lt s (length sets))

  abbrev IsConcerned : ℕ → Type 0
  IsConcerned s = n.concerned (n.class s) ≡ true

  -- fields and spreads of a set that is kept, where its class is concerned
  fields_by : (b : Bool) (s : ℕ) (x : SetTree) (a : FieldTree) → n.concerned (n.class s) ≡ b
      → Contains (cond {A = SetTree} b (record { fields = filter (keeps n (n.class s)) x.fields; spreads = x.spreads }) (record { fields = []; spreads = [] })).fields a → Contains x.fields a
  fields_by true s x a e h = filter_from (keeps n (n.class s)) x.fields a h
  fields_by false s x a e h = absurd (no_member a h)

  fields_from : (o : Option SetTree) (s : ℕ) (a : FieldTree) → Contains (fields_in (option_map (kept_set n s) o)) a → Contains (fields_in o) a
  fields_from None s a h = h
  fields_from (Some x) s a h = fields_by (n.concerned (n.class s)) s x a refl h

  field_from : (s : ℕ) (a : FieldTree) → Contains (fields_at kept s) a → Contains (fields_at sets s) a
  field_from s a h = fields_from (slice_get sets s) s a (subst (λ o. Contains (fields_in o) a) (kept_get s) h)

  spreads_by : (b : Bool) (s : ℕ) (x : SetTree) (u : ℕ) → n.concerned (n.class s) ≡ b
      → Contains (cond {A = SetTree} b (record { fields = filter (keeps n (n.class s)) x.fields; spreads = x.spreads }) (record { fields = []; spreads = [] })).spreads u → Contains x.spreads u
  spreads_by true s x u e h = h
  spreads_by false s x u e h = absurd (no_member u h)

  spreads_from : (o : Option SetTree) (s u : ℕ) → Contains (spreads_in (option_map (kept_set n s) o)) u → Contains (spreads_in o) u
  spreads_from None s u h = h
  spreads_from (Some x) s u h = spreads_by (n.concerned (n.class s)) s x u refl h

  spread_from : (s u : ℕ) → Contains (spreads_at kept s) u → Contains (spreads_at sets s) u
  spread_from s u h = spreads_from (slice_get sets s) s u (subst (λ o. Contains (spreads_in o) u) (kept_get s) h)

  has_fields : (o : Option SetTree) (s : ℕ) (a : FieldTree) → IsConcerned s → keeps n (n.class s) a ≡ true → Contains (fields_in o) a → Contains (fields_in (option_map (kept_set n s) o)) a
  has_fields None s a e k h = h
  has_fields (Some x) s a e k h = rw e (filter_has (keeps n (n.class s)) x.fields a k h)

  field_kept : (s : ℕ) (a : FieldTree) → IsConcerned s → keeps n (n.class s) a ≡ true → Contains (fields_at sets s) a → Contains (fields_at kept s) a
  field_kept s a e k h = subst (λ o. Contains (fields_in o) a) (sym (kept_get s)) (has_fields (slice_get sets s) s a e k h)

  has_spreads : (o : Option SetTree) (s u : ℕ) → IsConcerned s → Contains (spreads_in o) u → Contains (spreads_in (option_map (kept_set n s) o)) u
  has_spreads None s u e h = h
  has_spreads (Some x) s u e h = rw e h

  spread_kept : (s u : ℕ) → IsConcerned s → Contains (spreads_at sets s) u → Contains (spreads_at kept s) u
  spread_kept s u e h = subst (λ o. Contains (spreads_in o) u) (sym (kept_get s)) (has_spreads (slice_get sets s) s u e h)

  -- what is put together there is put together
  from_kept : {s t : ℕ} → Together kept s t → Together sets s t
  from_kept (walk.alone {s} h) = walk.alone (subst (λ (m : ℕ). s < m) are_kept.as_long h)
  from_kept (walk.left {s} {t} {u} g c) = walk.left (from_kept g) (spread_from s u c)
  from_kept (walk.right {s} {t} {u} g c) = walk.right (from_kept g) (spread_from t u c)
  from_kept (walk.below {s} {t} {a} {b} g first second e) = walk.below (from_kept g) (field_from s a first) (field_from t b second) e

  module _ (known : IsTrueOfAll n sets) where
    pub together_kept : {s t : ℕ} → Together sets s t → IsConcerned s → Together kept s t
    together_kept (walk.alone {s} h) e = walk.alone (subst (λ (m : ℕ). s < m) (sym are_kept.as_long) h)
    together_kept (walk.left {s} {t} {u} g c) e =
        let held : IsConcerned s = ap n.concerned (sym (spread_known n sets known s u c)) ∙ e in
        walk.left (together_kept g held) (spread_kept s u held c)
    together_kept (walk.right {s} {t} {u} g c) e =
        let held : IsConcerned t = ap n.concerned (sym (same_class n sets known g)) ∙ e in
        walk.right (together_kept g e) (spread_kept t u held c)
    together_kept (walk.below {s} {t} {a} {b} g first second k) e =
        let x = field_known n sets known s a first in
        let y = in_class n sets known s t b (same_class n sets known g) second in
        let held : IsConcerned s = above n sets known (n.concerned (n.class s)) (n.class s) a refl x e in
        let other : IsConcerned t = ap n.concerned (sym (same_class n sets known g)) ∙ held in
        let lower : n.concerned (n.class b.below) ≡ true = ap n.concerned (sym (below_same n sets known (n.class s) a b k x y)) ∙ e in
        walk.below (together_kept g held)
        (field_kept s a held (or_right (n.disputed (n.class s) a.key) (n.concerned (n.class a.below)) e) first)
        (field_kept t b other (or_right (n.disputed (n.class t) b.key) (n.concerned (n.class b.below)) lower) second) k

    reached_kept : (s t : ℕ) (a b : FieldTree) → Together sets s t → Contains (fields_at sets s) a → Contains (fields_at sets t) b → Violates a b → Reached kept a b
    reached_kept s t a b g first second v =
        let c = n.class s in
        let same = same_class n sets known g in
        let x = field_known n sets known s a first in
        let y = in_class n sets known s t b same second in
        let one : n.disputed c a.key ≡ true = disputed_by n sets known (n.disputed c a.key) c a b refl x y v in
        let other : n.disputed (n.class t) b.key ≡ true = ap (λ m. n.disputed m b.key) (sym same) ∙ (ap (n.disputed c) (sym v.0) ∙ one) in
        let held : IsConcerned s = concerned_by n sets known (n.concerned c) c a refl x one in
        from_together kept (together_kept g held) a b
        (here (field_kept s a held (or_left (n.disputed c a.key) (n.concerned (n.class a.below)) one) first))
        (here (field_kept t b (ap n.concerned (sym same) ∙ held) (or_left (n.disputed (n.class t) b.key) (n.concerned (n.class b.below)) other) second))

  -- what is found there is a conflict
  conflict_from : (r : Option ℕ) → MatchOption r ⊤ (λ p. (a : FieldTree) × (b : FieldTree) × Reached kept a b × Violates a b × (later a b ≡ p)) → AreConflicts sets r
  conflict_from None h p e = absurd (cc)
  conflict_from (Some q) h p e =
      let x = in_sets kept h.2 in
      record { s = x.0; t = x.1; a = h.0; b = h.1; together = from_kept x.2; first = field_from x.0 h.0 x.3; second = field_from x.1 h.1 x.4; violates = h.3; place = h.4 ∙ same_some q p e }

  -- the answer is the same
  pub first_still : IsTrueOfAll n sets → (r : Option ℕ) → IsFirst kept r → IsFirst sets r
  first_still known r first = record {
    found = found_from sets r (conflict_from r first.found);
    least = λ a b reached v. let x = in_sets sets reached in first.least a b (reached_kept known x.0 x.1 a b x.2 x.3 x.4 v) v;
  }

-- what the tests of a set tell
pub true_at : (n : Noted) (sets : List SetTree) (s : ℕ) (x : SetTree) (class : ℕ) (spreads : List ℕ) (fields : List FieldTree) → slice_get sets s ≡ Some x → class ≡ n.class s
    → spreads ≡ x.spreads → fields ≡ x.fields → All (λ u. n.class u ≡ class) spreads → All (IsTrueOf n class) fields → IsTrueAt n sets s
true_at n sets s x class spreads fields stands same e f of_spreads of_fields = record {
  spreads = subst (All (λ u. n.class u ≡ n.class s)) (e ∙ sym (ap spreads_in stands)) (subst (λ c. All (λ u. n.class u ≡ c) spreads) same of_spreads);
  fields = subst (All (IsTrueOf n (n.class s))) (f ∙ sym (ap fields_in stands)) (subst (λ c. All (IsTrueOf n c) fields) same of_fields);
}

pub told_by : (p q r : Bool) → p || not (q || r) ≡ true → p ≡ false → (q ≡ false) × (r ≡ false)
told_by true q r h e = absurd (cc)
told_by false true r h e = absurd (cc)
told_by false false true h e = absurd (cc)
told_by false false false h e = (refl, refl)

-- what is kept in memory is what is kept
map_if : {X Y : Type 0} (v : X → Y) (b : Bool) (x : X) (xs : List X) (ys : List Y) → map v xs ≡ ys → map v (cond b (x ∷ xs) xs) ≡ cond b (v x ∷ ys) ys
map_if v true x xs ys e = ap (λ zs. v x ∷ zs) e
map_if v false x xs ys e = e

filter_map : {X Y : Type 0} (v : X → Y) (p : Y → Bool) (xs : List X) → map v (filter (λ x. p (v x)) xs) ≡ filter p (map v xs)
filter_map v p [] = refl
filter_map v p (x ∷ xs) = map_if v (p (v x)) x (filter (λ y. p (v y)) xs) (filter p (map v xs)) (filter_map v p xs)

set_by : (fs gs : List FieldTree) (ss us : List ℕ) → fs ≡ gs → ss ≡ us → ◌≡◌ {A = SetTree} (record { fields = fs; spreads = ss }) (record { fields = gs; spreads = us })
set_by fs gs ss us e g =
    let one : ◌≡◌ {A = SetTree} (record { fields = fs; spreads = ss }) (record { fields = gs; spreads = ss }) = ap (λ (f : List FieldTree). record { fields = f; spreads = ss }) e in
    let two : ◌≡◌ {A = SetTree} (record { fields = gs; spreads = ss }) (record { fields = gs; spreads = us }) = ap (λ (u : List ℕ). record { fields = gs; spreads = u }) g in
    one ∙ two

module _ (s : SchemaTree) (d : Disputes) (k : ℕ) (x y : Set) where
  abbrev its_class : ℕ
  its_class = class_of d.classes.sets k

  abbrev whole : SetTree
  whole = record { fields = filter (keeps (noted_in s d) its_class) (map (entry_view s) x.entries.items); spreads = x.spreads.items }

  abbrev nothing : SetTree
  nothing = record { fields = []; spreads = [] }

  view_by : (b : Bool) → is_concerned d its_class ≡ b → y.entries.items ≡ cond b (filter (keeps_entry d its_class) x.entries.items) []
      → y.spreads.items ≡ cond b x.spreads.items [] → set_view s y ≡ cond {A = SetTree} b whole nothing
  view_by true e f g =
      set_by (map (entry_view s) y.entries.items) whole.fields y.spreads.items x.spreads.items
      (ap (map (entry_view s)) f ∙ filter_map (entry_view s) (keeps (noted_in s d) its_class) x.entries.items) g
  view_by false e f g = set_by (map (entry_view s) y.entries.items) [] y.spreads.items [] (ap (map (entry_view s)) f) g

  pub kept_view : y.entries.items ≡ cond (is_concerned d its_class) (filter (keeps_entry d its_class) x.entries.items) [] → y.spreads.items ≡ cond (is_concerned d its_class) x.spreads.items []
      → set_view s y ≡ kept_set (noted_in s d) k (set_view s x)
  kept_view f g = view_by (is_concerned d its_class) refl f g

-- one more set is kept
get_front : {X Y : Type 0} (v : X → Y) (xs : List X) (y : X) (i : ℕ) → i < length xs → slice_get (map v (xs ++ (y ∷ []))) i ≡ slice_get (map v xs) i
get_front v [] y i h = absurd (omega arith)
get_front v (x ∷ xs) y zero h = refl
get_front v (x ∷ xs) y (suc i) h = get_front v xs y i (omega arith)

get_last : {X Y : Type 0} (v : X → Y) (xs : List X) (y : X) → slice_get (map v (xs ++ (y ∷ []))) (length xs) ≡ Some (v y)
get_last v [] y = refl
get_last v (x ∷ xs) y = get_last v xs y

pub kept_more : (n : Noted) (sets : List SetTree) (v : Set → SetTree) (items new : List Set) (y : Set) (i : ℕ) → length items ≡ i → new ≡ items ++ (y ∷ [])
    → option_map (kept_set n i) (slice_get sets i) ≡ Some (v y) → IsKeptBelow n sets (map v items) i → IsKeptBelow n sets (map v new) (i + 1)
kept_more n sets v items new y i long grown seen before s h =
    let at = λ (k : ℕ) (xs : List Set). slice_get (map v xs) k ≡ option_map (kept_set n k) (slice_get sets k) in
    subst (at s) (sym grown)
    (elim (cases_lt s i) [
      | inl less ↦ get_front v items y s (omega (arith, long)) ∙ before s less
      | inr more ↦
          let e : i ≡ s = omega arith in
          subst (λ (k : ℕ). at k (items ++ (y ∷ []))) e (subst (λ (k : ℕ). slice_get (map v (items ++ (y ∷ []))) k ≡ Some (v y)) long (get_last v items y) ∙ sym seen)
    ])

pub kept_one : {X : Type 0} (b : Bool) (x : X) (zs : List X) → cond b (x ∷ []) [] ++ zs ≡ cond b (x ∷ zs) zs
kept_one true x zs = refl
kept_one false x zs = refl

-- what the tests of a field tell
module _ (s : SchemaTree) (d : Disputes) (c k : ℕ) (first e : Entry) where
  pub true_first : k ≡ key_number d (entry_view s e).key → first_of d.classes c k ≡ Some first → class_of d.classes.sets first.below ≡ class_of d.classes.sets e.below
      → is_concerned d c || not (is_disputed d c k || is_concerned d (class_of d.classes.sets e.below)) ≡ true
      → (is_disputed d c k ≡ false → IsSettled (noted_in s d) c (entry_view s first) (entry_view s e)) → IsTrueOf (noted_in s d) c (entry_view s e)
  true_first key stands below told settled =
      let known : is_disputed d c k ≡ is_disputed d c (key_number d (entry_view s e).key) = ap (is_disputed d c) key in
      record {
        first = entry_view s first;
        stands = ap (option_map (entry_view s)) (ap (first_of d.classes c) (sym key) ∙ stands);
        below = below;
        settled = λ h. settled (known ∙ h);
        told = λ h. let two = told_by (is_concerned d c) (is_disputed d c k) (is_concerned d (class_of d.classes.sets e.below)) told h in (sym known ∙ two.0, two.1);
      }

-- what is kept counts no more
short_by : {X : Type 0} (b : Bool) (x : X) (ys : List X) (n : ℕ) → length ys ≤ n → length (cond b (x ∷ ys) ys) ≤ suc n
short_by true x ys n h = omega (arith, h)
short_by false x ys n h = omega (arith, h)

filter_short : {X : Type 0} (p : X → Bool) (xs : List X) → length (filter p xs) ≤ length xs
filter_short p [] = omega arith
filter_short p (x ∷ xs) = short_by (p x) x (filter p xs) (length xs) (filter_short p xs)

smaller_by : (b : Bool) (n : Noted) (s : ℕ) (x : SetTree) → n.concerned (n.class s) ≡ b
    → (length (kept_set n s x).fields ≤ length x.fields) × (length (kept_set n s x).spreads ≤ length x.spreads)
smaller_by true n s x e = rw e (filter_short (keeps n (n.class s)) x.fields, omega arith)
smaller_by false n s x e = rw e (omega arith, omega arith)

smaller_in : (n : Noted) (s : ℕ) (o : Option SetTree)
    → (length (fields_in (option_map (kept_set n s) o)) ≤ length (fields_in o))
    × (length (spreads_in (option_map (kept_set n s) o)) ≤ length (spreads_in o))
smaller_in n s None = (omega arith, omega arith)
smaller_in n s (Some x) = smaller_by (n.concerned (n.class s)) n s x refl

pub kept_smaller : (n : Noted) (sets kept : List SetTree) → AreKept n sets kept → (s : ℕ) → size_at kept s ≤ size_at sets s
kept_smaller n sets kept are_kept s =
    let e = kept_get n sets kept are_kept s in
    let fields = ap (λ o. length (fields_in o)) e in
    let spreads = ap (λ o. length (spreads_in o)) e in
    let low = smaller_in n s (slice_get sets s) in
    omega (arith, fields, spreads, low.0, low.1)

-- all sets are kept
pub all_kept : (n : Noted) (a : Arena) (items : List Set) (count : ℕ) → length a.sets.items ≤ count → length items ≡ count
    → IsKeptBelow n (arena_view a) (map (set_in a) items) count → count ≤ length a.sets.items
    → AreKept n (arena_view a) (map (set_in a) items)
all_kept n a items count all long each inside =
    let sets = length-map a.sets.items (set_in a) in
    let kept = length-map items (set_in a) in
    record { as_long = omega (arith, sets, kept, long, all, inside); each = λ s h. each s (omega (arith, h, sets, all)) }
