-- Sets of one class, and classes at fault.
use Rattle.std.proofs.Common.{◌≡◌, ◌∙◌, ℕ, zero, suc, ◌+◌, List, [], ◌∷◌, ◌++◌, length, get_or, set, Bool, true, false, cond, Option, Some, None, ◌⊎◌, inl, inr, sym, refl, ap, subst, arith}
use Rattle.std.specs.Prelude.{slice_get, unwrap_or, is_some, not, replicate, Vec}
use Rattle.std.specs.declared.alloc.Global.{Global}
use Rattle.std.specs.HashMap.{HashMap}
use Rattle.std.specs.HashMap as hash
use Rattle.std.specs.List.{All, Contains}
use Rattle.std.proofs.lemmas.Bool.{both_ways, not-true}
use Rattle.std.proofs.lemmas.List.{length-append, length-map}
use Rattle.std.proofs.lemmas.List.Elements.{All-contains, All-pop}
use Rattle.hq_gql_nodes.specs.Reach.{graph_view}
use Rattle.hq_overlap_sets.specs.Rows.{row_at}
use Rattle.hq_overlap_sets.specs.Sets.{FieldTree, SetTree}
use Rattle.hq_overlap_sets.specs.Pairs.{fields_at}
use Rattle.hq_overlap_sets.specs.Shapes.{ShapeTree, same_shape}
use Rattle.hq_overlap_sets.proofs.ShapeLemmas.{true_shape}
use Rattle.hq_overlap_sets.proofs.Least.{same_some}
use Rattle.hq_overlap_sets.proofs.Stepping.{all_from}
use Rattle.hq_overlap_sets.proofs.Tests.{no_member, contains_cases}
use Rattle.hq_overlap_sets.specs.declared.sets.Pair.{Pair}
use Rattle.hq_overlap_classes.specs.Disputes.{class_of}
use Rattle.hq_overlap_classes.specs.Classes as class
use Rattle.hq_overlap_classes.specs.Classes.{Joined, IsOfClass, AtFault}
use Rattle.hq_overlap_classes.specs.declared.partition.Partition.{Partition}
use Rattle.hq_overlap_classes.specs.Noting.{AreClasses, AreMembers, IsPartition, AreToJoin, AreEdges, AreMarked}

-- the class of a set is one with it
joined_by : (sets : List SetTree) (classes : List ℕ) (s : ℕ) (o : Option ℕ) → AreClasses sets classes → slice_get classes s ≡ o → Joined sets (unwrap_or o s) s
joined_by sets classes s None are e = class.itself
joined_by sets classes s (Some c) are e = are s c e

pub joined_class : (sets : List SetTree) (classes : List ℕ) (s : ℕ) → AreClasses sets classes → Joined sets (unwrap_or (slice_get classes s) s) s
joined_class sets classes s are = joined_by sets classes s (slice_get classes s) are refl

-- the same class under a field's set
pub of_joined : (sets : List SetTree) (c d : ℕ) (a : FieldTree) → Joined sets d c → IsOfClass sets c a → IsOfClass sets d a
of_joined sets c d a j x = record { set = x.set; joined = class.through j x.joined; stands = x.stands }

pub fault_joined : (sets : List SetTree) (c d : ℕ) → Joined sets d c → AtFault sets c → AtFault sets d
fault_joined sets c d j (class.differ {c = e} {a} {b} x y v) = class.differ (of_joined sets c d a j x) (of_joined sets c d b j y) v
fault_joined sets c d j (class.leads {c = e} {a} x f) = class.leads (of_joined sets c d a j x) f

-- one more class at the end, and another one in the list
get_push : (xs : List ℕ) (x k y : ℕ) → slice_get (xs ++ (x ∷ [])) k ≡ Some y → (slice_get xs k ≡ Some y) ⊎ ((length xs ≡ k) × (x ≡ y))
get_push [] x zero y h = inr (refl, same_some x y h)
get_push [] x (suc k) y h = absurd (cc)
get_push (z ∷ xs) x zero y h = inl h
get_push (z ∷ xs) x (suc k) y h =
    (elim (get_push xs x k y h) [
      | inl old ↦ inl old
      | inr new ↦ let e : length (z ∷ xs) ≡ suc k = omega (arith, new.0) in inr (e, new.1)
    ])

pub classes_push : (sets : List SetTree) (classes : List ℕ) (n : ℕ) → length classes ≡ n → AreClasses sets classes → AreClasses sets (classes ++ (n ∷ []))
classes_push sets classes n long are s c h =
    (elim (get_push classes n s c h) [
      | inl old ↦ are s c old
      | inr new ↦ let e : c ≡ s = sym new.1 ∙ (sym long ∙ new.0) in subst (λ (m : ℕ). Joined sets m s) (sym e) class.itself
    ])

pub no_classes : (sets : List SetTree) → AreClasses sets []
no_classes sets s c h = absurd (cc)

-- one more row with one number
rows_push : (rows : List (List ℕ)) (n c s : ℕ) → Contains (get_or (rows ++ ((n ∷ []) ∷ [])) c []) s → Contains (get_or rows c []) s ⊎ ((length rows ≡ c) × (n ≡ s))
rows_push [] n zero s h =
    (elim (contains_cases n [] s h) [
      | inl same ↦ inr (refl, same)
      | inr none ↦ absurd (no_member s none)
    ])
rows_push [] n (suc c) s h = inl h
rows_push (row ∷ rows) n zero s h = inl h
rows_push (row ∷ rows) n (suc c) s h =
    (elim (rows_push rows n c s h) [
      | inl old ↦ inl old
      | inr new ↦ let e : length (row ∷ rows) ≡ suc c = omega (arith, new.0) in inr (e, new.1)
    ])

pub members_push : (sets : List SetTree) (old new : List (Vec ℕ Global)) (n : ℕ) → length (graph_view old) ≡ n
    → graph_view new ≡ graph_view old ++ ((n ∷ []) ∷ []) → AreMembers sets old → AreMembers sets new
members_push sets old new n long grown are c s h =
    (elim (rows_push (graph_view old) n c s (subst (λ (rows : List (List ℕ)). Contains (get_or rows c []) s) grown h)) [
      | inl before ↦ are c s before
      | inr one ↦ let e : c ≡ s = sym one.0 ∙ (long ∙ one.1) in subst (λ (m : ℕ). Joined sets m s) (sym e) class.itself
    ])

pub no_members : (sets : List SetTree) (rows : List (Vec ℕ Global)) → rows ≡ [] → AreMembers sets rows
no_members sets rows e c s h = absurd (no_member s (subst (λ (rs : List (Vec ℕ Global)). Contains (row_at rs c) s) e h))

pub no_partition : (sets : List SetTree) (p : Partition) → p.classes.items ≡ [] → p.members.items ≡ [] → IsPartition sets p
no_partition sets p e f = record { classes = subst (AreClasses sets) (sym e) (no_classes sets); members = no_members sets p.members.items f }

-- the next set alone in its class
pub record Pushed (sets : List SetTree) (q : Partition) (n : ℕ) : Type 0 where
  pub sound : IsPartition sets q
  pub classes : length q.classes.items ≡ n
  pub members : length q.members.items ≡ n

one_longer : {X : Type 0} (xs ys : List X) (x : X) (n : ℕ) → length xs ≡ n → ys ≡ xs ++ (x ∷ []) → length ys ≡ n + 1
one_longer xs ys x n long e = ap length e ∙ (length-append xs (x ∷ []) ∙ ap (λ (m : ℕ). m + 1) long)

pub partition_push : (sets : List SetTree) (p q : Partition) (n : ℕ) → length p.classes.items ≡ n → length p.members.items ≡ n → q.classes.items ≡ p.classes.items ++ (n ∷ [])
    → graph_view q.members.items ≡ graph_view p.members.items ++ ((n ∷ []) ∷ []) → IsPartition sets p → Pushed sets q (n + 1)
partition_push sets p q n classes members e f sound =
    let long : length (graph_view p.members.items) ≡ n = length-map p.members.items (λ row. row.items) ∙ members in
    record {
      sound = record {
        classes = subst (AreClasses sets) (sym e) (classes_push sets p.classes.items n classes sound.classes);
        members = members_push sets p.members.items q.members.items n long f sound.members;
      };
      classes = one_longer p.classes.items q.classes.items n n classes e;
      members = sym (length-map q.members.items (λ row. row.items)) ∙ one_longer (graph_view p.members.items) (graph_view q.members.items) (n ∷ []) n long f;
    }

-- a set that is given to a class
get_set : (xs : List ℕ) (i x k y : ℕ) → slice_get (set xs i x) k ≡ Some y → (slice_get xs k ≡ Some y) ⊎ ((i ≡ k) × (x ≡ y))
get_set [] i x k y h = inl h
get_set (z ∷ xs) zero x zero y h = inr (refl, same_some x y h)
get_set (z ∷ xs) zero x (suc k) y h = inl h
get_set (z ∷ xs) (suc i) x zero y h = inl h
get_set (z ∷ xs) (suc i) x (suc k) y h =
    (elim (get_set xs i x k y h) [
      | inl old ↦ inl old
      | inr new ↦ inr (ap suc new.0, new.1)
    ])

pub classes_set : (sets : List SetTree) (classes : List ℕ) (s c : ℕ) → Joined sets c s → AreClasses sets classes → AreClasses sets (set classes s c)
classes_set sets classes s c joined are t d h =
    (elim (get_set classes s c t d h) [
      | inl old ↦ are t d old
      | inr new ↦ subst (λ (m : ℕ). Joined sets m t) new.1 (subst (λ (m : ℕ). Joined sets c m) new.0 joined)
    ])

-- the members of a class that are given to another one
pub members_moved : (sets : List SetTree) (old more new : List (Vec ℕ Global)) (into : ℕ) (moved : List ℕ)
    → ((c s : ℕ) → Contains (row_at more c) s → Contains (row_at old c) s ⊎ ((into ≡ c) × Contains moved s))
    → ((c s : ℕ) → Contains (row_at new c) s → Contains (row_at more c) s) → All (λ s. Joined sets into s) moved → AreMembers sets old → AreMembers sets new
members_moved sets old more new into moved grown cleared joined are c s h =
    (elim (grown c s (cleared c s h)) [
      | inl before ↦ are c s before
      | inr now ↦ subst (λ (m : ℕ). Joined sets m s) now.0 (All-contains (λ t. Joined sets into t) moved s joined now.1)
    ])

pub members_joined : (sets : List SetTree) (p : Partition) (from into : ℕ) (moved : List ℕ) → IsPartition sets p → Joined sets into from
    → moved ≡ row_at p.members.items from → All (λ s. Joined sets into s) moved
members_joined sets p from into moved sound joined e =
    all_from (λ s. Joined sets into s) moved (λ s h. class.through joined (sound.members from s (subst (λ (xs : List ℕ). Contains xs s) e h)))

-- what a map has after one more entry
pub some_by : {X : Type 0} (b : Bool) (x e : X) (o : Option X) → cond b (Some x) o ≡ Some e → ((b ≡ true) × (x ≡ e)) ⊎ (o ≡ Some e)
some_by true x e o h = inl (refl, same_some x e h)
some_by false x e o h = inr h

pub mark_by : {X : Type 0} (b : Bool) (x : X) (o : Option X) → is_some (cond b (Some x) o) ≡ true → (b ≡ true) ⊎ (is_some o ≡ true)
mark_by true x o h = inl refl
mark_by false x o h = inr h

-- an empty map has nothing
pub nothing_noted : {K X S : Type 0} (m : HashMap K X S) (eq : K → K → Bool) (k : K) (x : X) → m.entries ≡ [] → hash.get eq m k ≡ Some x → ⊥
nothing_noted m eq k x e h = let found = rw e at h in cc

pub nothing_marked : {K X S : Type 0} (m : HashMap K X S) (eq : K → K → Bool) (k : K) → m.entries ≡ [] → is_some (hash.get eq m k) ≡ true → ⊥
nothing_marked m eq k e h = let found = rw e at h in cc

-- a field of a set stands in its class
pub stands_in_class : (sets : List SetTree) (p : Partition) (c s : ℕ) (a : FieldTree) → IsPartition sets p → c ≡ class_of p s → Contains (fields_at sets s) a → IsOfClass sets c a
stands_in_class sets p c s a sound e h = record { set = s; joined = subst (λ (m : ℕ). Joined sets m s) (sym e) (joined_class sets p.classes.items s sound.classes); stands = h }

-- the classes of two sets of one class
pub classes_joined : (sets : List SetTree) (p : Partition) (left right first second : ℕ) → IsPartition sets p → first ≡ class_of p left
    → second ≡ class_of p right → Joined sets left right → Joined sets first second
classes_joined sets p left right first second sound e f joined =
    let one : Joined sets first left = subst (λ (m : ℕ). Joined sets m left) (sym e) (joined_class sets p.classes.items left sound.classes) in
    let two : Joined sets second right = subst (λ (m : ℕ). Joined sets m right) (sym f) (joined_class sets p.classes.items right sound.classes) in
    class.through one (class.through joined (class.turned two))

-- the sets below two fields of one class and key
pub below_joined : (sets : List SetTree) (c : ℕ) (a b : FieldTree) → IsOfClass sets c a → IsOfClass sets c b → a.key ≡ b.key → Joined sets a.below b.below
below_joined sets c a b x y key = class.below (class.through (class.turned x.joined) y.joined) x.stands y.stands key

-- the last pair is taken off
pub popped : (sets : List SetTree) (old new : List Pair) (p : Pair) → AreToJoin sets old → old ≡ new ++ (p ∷ []) → AreToJoin sets new × Joined sets p.left p.right
popped sets old new p are e =
    let both = All-pop (λ (q : Pair). Joined sets q.left q.right) old new (Some p) e are in
    (both.0, both.1)

-- one more edge
pub edges_more : (sets : List SetTree) (p : Partition) (old new : List (Vec ℕ Global)) (at c : ℕ) (a : FieldTree) → IsPartition sets p → at ≡ class_of p a.below → IsOfClass sets c a
    → ((d t : ℕ) → Contains (row_at new d) t → Contains (row_at old d) t ⊎ ((at ≡ d) × (c ≡ t))) → AreEdges sets old → AreEdges sets new
edges_more sets p old new at c a sound e stands only before d t h fault =
    (elim (only d t h) [
      | inl earlier ↦ before d t earlier fault
      | inr one ↦
          let from : AtFault sets at = subst (AtFault sets) (sym one.0) fault in
          let below : Joined sets (class_of p a.below) a.below = joined_class sets p.classes.items a.below sound.classes in
          let lower : AtFault sets a.below = fault_joined sets at a.below (class.turned (subst (λ (m : ℕ). Joined sets m a.below) (sym e) below)) from in
          subst (AtFault sets) one.1 (class.leads stands lower)
    ])

pub no_edges : (sets : List SetTree) (rows : List (Vec ℕ Global)) → ((c s : ℕ) → Contains (row_at rows c) s → ⊥) → AreEdges sets rows
no_edges sets rows none c t h = absurd (none c t h)

-- one more mark
get_mark : (marks : List Bool) (n k : ℕ) → slice_get (set marks n true) k ≡ Some true → (slice_get marks k ≡ Some true) ⊎ (n ≡ k)
get_mark [] n k h = inl h
get_mark (m ∷ marks) zero zero h = inr refl
get_mark (m ∷ marks) zero (suc k) h = inl h
get_mark (m ∷ marks) (suc n) zero h = inl h
get_mark (m ∷ marks) (suc n) (suc k) h =
    (elim (get_mark marks n k h) [
      | inl old ↦ inl old
      | inr new ↦ inr (ap suc new)
    ])

pub marked_more : (sets : List SetTree) (marks : List Bool) (n : ℕ) → AtFault sets n → AreMarked sets marks → AreMarked sets (set marks n true)
marked_more sets marks n fault are c h =
    (elim (get_mark marks n c h) [
      | inl old ↦ are c old
      | inr new ↦ subst (AtFault sets) new fault
    ])

none_at : (n k : ℕ) → slice_get (replicate n false) k ≡ Some true → ⊥
none_at zero k h = absurd (cc)
none_at (suc n) zero h = absurd (cc)
none_at (suc n) (suc k) h = none_at n k h

pub none_marked : (sets : List SetTree) (marks : List Bool) (n : ℕ) → marks ≡ replicate n false → AreMarked sets marks
none_marked sets marks n e c h = absurd (none_at n c (subst (λ (ms : List Bool). slice_get ms c ≡ Some true) e h))

-- shapes that the test tells apart
pub shape_apart : (l r : ShapeTree) (b : Bool) → b ≡ same_shape l r → not b ≡ true → l ≡ r → ⊥
shape_apart l r b e h same = both_ways b (not-true b h) (e ∙ true_shape l r same)

pub fault_of_class : (sets : List SetTree) (p : Partition) (c s : ℕ) → IsPartition sets p → c ≡ class_of p s → AtFault sets c → AtFault sets s
fault_of_class sets p c s sound e fault = fault_joined sets c s (class.turned (subst (λ (m : ℕ). Joined sets m s) (sym e) (joined_class sets p.classes.items s sound.classes))) fault
