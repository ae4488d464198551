-- Lists of steps that the same texts meet.
use Rattle.std.proofs.Common.{◌≡◌, ◌∙◌, refl, sym, ap, ap₂, ℕ, List, [], ◌∷◌, ◌++◌, map, Bool, true, false, ◌&&◌, ◌||◌, ◌==◌, Option, Some, None, option_map, append-nil}
use Rattle.std.specs.Option.{option_map_or}
use Rattle.std.specs.Str.{chars}
use Rattle.hq_base.specs.Patterns.{meets, some_end, first_then, like, steps_of}
use Rattle.hq_base.specs.declared.pattern.Step.{Step}
use Rattle.hq_base.specs.declared.pattern.Step.TheVariants.{Any, One, This}
use Rattle.hq_like.specs.Reading.{read}
use Rattle.hq_like.specs.Signs.{MeansSame, Adds, lowered, sign_view, signs_view}
use Rattle.hq_like.specs.declared.signs.Sign.{Sign}
use Rattle.hq_like.specs.declared.signs.Sign.TheVariants as mark
use Rattle.hq_like.proofs.AsRead.{meets_read}

-- tests that agree find the same end
pub ends_same : (p q : List ℕ → Bool) → ((cs : List ℕ) → p cs ≡ q cs) → (cs : List ℕ) → some_end p cs ≡ some_end q cs
ends_same p q same [] = same []
ends_same p q same (c ∷ cs) = ap₂ (λ a b. a || b) (same (c ∷ cs)) (ends_same p q same cs)

-- steps in front of either of two lists
pub behind_steps : (front a b : List Step) → MeansSame a b → MeansSame (front ++ a) (front ++ b)
behind_steps [] a b h = h
behind_steps (Any ∷ front) a b h = record { same = ends_same (meets false (front ++ a)) (meets false (front ++ b)) (behind_steps front a b h).same }
behind_steps (One ∷ front) a b h =
    let later = behind_steps front a b h in
    record { same = elim [ [] ↦ refl | c ∷ cs ↦ later.same cs ] }
behind_steps (This d ∷ front) a b h =
    let later = behind_steps front a b h in
    record { same = elim [ [] ↦ refl | c ∷ cs ↦ ap (λ m. (d == c) && m) (later.same cs) ] }

or_same : (b : Bool) → (b || b) ≡ b
or_same true = refl
or_same false = refl

or_twice : (a b : Bool) → ((a || b) || b) ≡ (a || b)
or_twice true b = refl
or_twice false b = or_same b

-- an end of an end is an end
ends_twice : (p : List ℕ → Bool) (cs : List ℕ) → some_end (some_end p) cs ≡ some_end p cs
ends_twice p [] = refl
ends_twice p (c ∷ cs) = ap (λ b. (p (c ∷ cs) || some_end p cs) || b) (ends_twice p cs) ∙ or_twice (p (c ∷ cs)) (some_end p cs)

-- a % behind a % asks for nothing more
pub any_any : (more : List Step) → MeansSame (Any ∷ more) (Any ∷ Any ∷ more)
any_any more = record { same = λ cs. sym (ends_twice (meets false more) cs) }

or_false : (b : Bool) → b ≡ (b || false)
or_false true = refl
or_false false = refl

-- one character and then some end, or some end without its first character
one_first : (p : List ℕ → Bool) (cs : List ℕ) → first_then (λ c. true) (some_end p) cs ≡ some_end (first_then (λ c. true) p) cs
one_first p [] = refl
one_first p (c ∷ []) = or_false (p [])
one_first p (c ∷ d ∷ ds) = ap (λ b. p (d ∷ ds) || b) (one_first p (d ∷ ds))

-- _ may stand before a % in place of behind it
pub one_any : (more : List Step) → MeansSame (One ∷ Any ∷ more) (Any ∷ One ∷ more)
one_any more = record { same = one_first (meets false more) }

-- ---- signs

means_equal : (a b : List Step) → a ≡ b → MeansSame a b
means_equal a b is = record { same = λ cs. ap (λ l. meets false l cs) is }

-- signs with one behind them
signs_then : (xs : List Sign) (sign : Sign) (more : List Step) → signs_view (xs ++ sign ∷ []) ++ more ≡ signs_view xs ++ sign_view sign ∷ more
signs_then [] sign more = refl
signs_then (x ∷ xs) sign more = ap (λ l. sign_view x ∷ l) (signs_then xs sign more)

-- a sign behind the others
pub added_more : (before after : List Sign) (sign : Sign) → after ≡ before ++ sign ∷ [] → Adds before sign after
added_more before after sign is =
    record { same = λ more. means_equal (signs_view after ++ more) (signs_view before ++ sign_view sign ∷ more) (ap (λ l. signs_view l ++ more) is ∙ signs_then before sign more) }

-- a % behind a %
pub added_any : (xs before after : List Sign) → before ≡ xs ++ mark.Any ∷ [] → after ≡ xs ++ mark.Any ∷ [] → Adds before mark.Any after
added_any xs before after was is =
    record {
      same = λ more.
          let first : signs_view after ++ more ≡ signs_view xs ++ Any ∷ more = ap (λ l. signs_view l ++ more) is ∙ signs_then xs mark.Any more in
          let second : signs_view before ++ Any ∷ more ≡ signs_view xs ++ Any ∷ Any ∷ more = ap (λ l. signs_view l ++ Any ∷ more) was ∙ signs_then xs mark.Any (Any ∷ more) in
          record { same = λ cs. ap (λ l. meets false l cs) first ∙ (behind_steps (signs_view xs) (Any ∷ more) (Any ∷ Any ∷ more) (any_any more)).same cs ∙ sym (ap (λ l. meets false l cs) second) };
    }

-- a _ behind a %
pub added_one : (xs before middle after : List Sign) → before ≡ xs ++ mark.Any ∷ [] → middle ≡ xs ++ mark.One ∷ [] → after ≡ middle ++ mark.Any ∷ [] → Adds before mark.One after
added_one xs before middle after was between is =
    record {
      same = λ more.
          let first : signs_view after ++ more ≡ signs_view xs ++ One ∷ Any ∷ more =
          ap (λ l. signs_view l ++ more) (is ∙ ap (λ l. l ++ mark.Any ∷ []) between) ∙ signs_then (xs ++ mark.One ∷ []) mark.Any more ∙ signs_then xs mark.One (Any ∷ more) in
          let second : signs_view before ++ One ∷ more ≡ signs_view xs ++ Any ∷ One ∷ more = ap (λ l. signs_view l ++ One ∷ more) was ∙ signs_then xs mark.Any (One ∷ more) in
          record {
            same = λ cs. ap (λ l. meets false l cs) first
                ∙ (behind_steps (signs_view xs) (One ∷ Any ∷ more) (Any ∷ One ∷ more) (one_any more)).same cs
                ∙ sym (ap (λ l. meets false l cs) second);
          };
    }

-- ---- what is left of a pattern

-- the front of mapped steps
pub mapped_front : (fold : Bool) (s t : Step) (o : Option (List Step)) → lowered fold s ≡ t
    → option_map (map (lowered fold)) (option_map (λ steps. s ∷ steps) o)
    ≡ option_map (λ steps. t ∷ steps) (option_map (map (lowered fold)) o)
mapped_front fold s t None is = refl
mapped_front fold s t (Some steps) is = ap (λ x. Some (x ∷ map (lowered fold) steps)) is

onward : (test : List Step → Bool) (low : List Step → List Step) (s : Step) (o p : Option (List Step))
    → option_map low o ≡ option_map (λ steps. s ∷ steps) (option_map low p)
    → option_map_or (λ steps. test (low steps)) o false ≡ option_map_or (λ steps. test (s ∷ low steps)) p false
onward test low s None None is = refl
onward test low s None (Some y) is = cc
onward test low s (Some x) None is = cc
onward test low s (Some x) (Some y) is = let same : low x ≡ s ∷ low y = cc in ap test same

same_tests : (p q : List Step → Bool) → ((x : List Step) → p x ≡ q x) → (o : Option (List Step)) → option_map_or p o false ≡ option_map_or q o false
same_tests p q same None = refl
same_tests p q same (Some x) = same x

-- one sign more is read of a pattern
pub sign_read : (fold : Bool) (before after : List Sign) (sign : Sign) (o p : Option (List Step)) (cs : List ℕ)
    → option_map (map (lowered fold)) o ≡ option_map (λ steps. sign_view sign ∷ steps) (option_map (map (lowered fold)) p)
    → Adds before sign after
    → option_map_or (λ steps. meets false (signs_view before ++ map (lowered fold) steps) cs) o false ≡ option_map_or (λ steps. meets false (signs_view after ++ map (lowered fold) steps) cs) p false
sign_read fold before after sign o p cs is adds =
    onward (λ l. meets false (signs_view before ++ l) cs) (map (lowered fold)) (sign_view sign) o p is
    ∙ same_tests (λ l. meets false (signs_view before ++ sign_view sign ∷ map (lowered fold) l) cs)
    (λ l. meets false (signs_view after ++ map (lowered fold) l) cs) (λ l. sym ((adds.same (map (lowered fold) l)).same cs)) p

-- all is read
pub signs_whole : (fold : Bool) (signs : List Sign) (o : Option (List Step)) (cs : List ℕ) → o ≡ Some []
    → option_map_or (λ steps. meets false (signs_view signs ++ map (lowered fold) steps) cs) o false ≡ meets false (signs_view signs) cs
signs_whole fold signs o cs is =
    ap (λ p. option_map_or (λ steps. meets false (signs_view signs ++ map (lowered fold) steps) cs) p false) is ∙ ap (λ l. meets false l cs) (append-nil (signs_view signs))

-- a text is like a pattern where its characters, as they are compared, meet its steps
pub like_read : (fold : Bool) (pattern text : List ℕ) → like fold pattern text ≡ option_map_or (λ steps. meets false (map (lowered fold) steps) (read fold text)) (steps_of (chars pattern)) false
like_read fold pattern text =
    same_tests (λ steps. meets fold steps (chars text)) (λ steps. meets false (map (lowered fold) steps) (read fold text)) (λ steps. meets_read fold steps (chars text)) (steps_of (chars pattern))
