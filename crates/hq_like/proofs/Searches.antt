-- Where a part of a pattern is first met in a text.
use Rattle.std.proofs.Common.{◌≡◌, ◌≢◌, ◌∙◌, refl, sym, ap, subst, ℕ, zero, suc, ◌+◌, ◌-◌, ◌<◌, ◌≤◌, List, [], ◌∷◌, ◌++◌, length, length-append, append_assoc, take, drop, map, Bool, true, false, ◌&&◌, ◌||◌, ◌==◌, if◌then◌else◌, Option, Some, None, eq-eqb, arith}
use Rattle.std.specs.Option.{option_map_or}
use Rattle.std.specs.Str.{chars}
use Rattle.std.proofs.lemmas.List.{length-map, drop-map}
use Rattle.hq_base.specs.Patterns.{meets, some_end, is_empty}
use Rattle.hq_like.specs.Reading.{read, read_letter}
use Rattle.hq_base.specs.Fronts.{Reach, misfit, up_to_any, front}
use Rattle.hq_base.specs.declared.pattern.Step.{Step}
use Rattle.hq_base.specs.declared.pattern.Step.TheVariants as step
use Rattle.hq_base.proofs.Matching.{up_to_any_finds}
use Rattle.hq_like.specs.Backs.{Reads, IsBack, letters_then}
use Rattle.hq_like.specs.Places.{after_places, places_view}
use Rattle.hq_like.specs.Segments.{tail_then}
use Rattle.hq_like.specs.declared.places.Place.{Place}
use Rattle.hq_like.specs.declared.places.Place.TheVariants.{One, This}
use Rattle.hq_like.proofs.Letters.{letters_first, first_fails, ends_too_short}

-- ---- what is behind places

-- a test of what is behind places, where the first one is met
tested : (f : List ℕ → Bool) (b m : Bool) (o : Option (List ℕ)) → m ≡ option_map_or f o false → (b && m) ≡ option_map_or f (if b then o else None) false
tested f true m o h = h
tested f false m o h = refl

-- places and then other steps
pub places_then : (ps : List Place) (more : List Step) (cs : List ℕ) → meets false (places_view ps ++ more) cs ≡ option_map_or (meets false more) (after_places ps cs) false
places_then [] more cs = refl
places_then (One ∷ ps) more [] = refl
places_then (One ∷ ps) more (c ∷ cs) = places_then ps more cs
places_then (This d ∷ ps) more [] = refl
places_then (This d ∷ ps) more (c ∷ cs) = tested (meets false more) (d == c) (meets false (places_view ps ++ more) cs) (after_places ps cs) (places_then ps more cs)

-- and nothing more
pub places_alone : (ps : List Place) (cs : List ℕ) → meets false (places_view ps) cs ≡ option_map_or is_empty (after_places ps cs) false
places_alone [] cs = refl
places_alone (One ∷ ps) [] = refl
places_alone (One ∷ ps) (c ∷ cs) = places_alone ps cs
places_alone (This d ∷ ps) [] = refl
places_alone (This d ∷ ps) (c ∷ cs) = tested is_empty (d == c) (meets false (places_view ps) cs) (after_places ps cs) (places_alone ps cs)

picked : (b : Bool) (o : Option (List ℕ)) (r : Reach) (later : List Step) (rest : List ℕ) → (if b then o else None) ≡ Some rest
    → (o ≡ Some rest → r ≡ up_to_any later rest) → (if b then r else misfit) ≡ up_to_any later rest
picked true o r later rest h f = f h
picked false o r later rest h f = cc

-- where a text begins with places, the steps go up to the %
front_places : (ps : List Place) (later : List Step) (cs rest : List ℕ) → after_places ps cs ≡ Some rest → front false (tail_then ps later) cs ≡ up_to_any later rest
front_places [] later cs rest h = let same : cs ≡ rest = cc in ap (up_to_any later) same
front_places (One ∷ ps) later [] rest h = cc
front_places (One ∷ ps) later (c ∷ cs) rest h = front_places ps later cs rest h
front_places (This d ∷ ps) later [] rest h = cc
front_places (This d ∷ ps) later (c ∷ cs) rest h = picked (d == c) (after_places ps cs) (front false (tail_then ps later) cs) later rest h (front_places ps later cs rest)

-- taking the first place at which places are met loses nothing
pub places_met : (ps : List Place) (later : List Step) (cs rest : List ℕ) → after_places ps cs ≡ Some rest → some_end (meets false (tail_then ps later)) cs ≡ some_end (meets false later) rest
places_met ps later cs rest h = up_to_any_finds false (tail_then ps later) later cs rest (some_end (meets false later) rest) (front_places ps later cs rest h) refl

-- a text that does not begin with places
pub places_missed : (ps : List Place) (later : List Step) (cs : List ℕ) → after_places ps cs ≡ None → meets false (tail_then ps later) cs ≡ false
places_missed ps later cs h = places_then ps (step.Any ∷ later) cs ∙ ap (λ o. option_map_or (meets false (step.Any ∷ later)) o false) h

pub missed_first : (ps : List Place) (later : List Step) (text : List ℕ) (c : ℕ) (cs : List ℕ) → text ≡ c ∷ cs → after_places ps text ≡ None
    → some_end (meets false (tail_then ps later)) text ≡ some_end (meets false (tail_then ps later)) cs
missed_first ps later text c cs is h =
    let test = meets false (tail_then ps later) in
    let fails : test (c ∷ cs) ≡ false = places_missed ps later (c ∷ cs) (ap (after_places ps) (sym is) ∙ h) in
    ap (some_end test) is ∙ ap (λ b. b || some_end test cs) fails

pub missed_end : (ps : List Place) (later : List Step) (text : List ℕ) → text ≡ [] → after_places ps text ≡ None → some_end (meets false (tail_then ps later)) text ≡ false
missed_end ps later text is h =
    ap (some_end (meets false (tail_then ps later))) is ∙ places_missed ps later [] (ap (after_places ps) (sym is) ∙ h)

-- no place is met where nothing is left
pub after_none : (ps : List Place) (n : ℕ) (cs : List ℕ) → n < length ps → cs ≡ [] → after_places (drop n ps) cs ≡ None
after_none [] n cs lt is = absurd (omega (arith, lt))
after_none (p ∷ ps) zero cs lt is = ap (after_places (p ∷ ps)) is
after_none (p ∷ ps) (suc n) cs lt is = after_none ps n cs (omega (arith, lt)) is

-- ---- letters and then places

front_letters : (letters : List ℕ) (more : List Step) (cs : List ℕ) → front false (letters_then letters more) (letters ++ cs) ≡ front false more cs
front_letters [] more cs = refl
front_letters (d ∷ ds) more cs = rw (eq-eqb d d refl) (front_letters ds more cs)

take_whole : (xs : List ℕ) (n : ℕ) → n ≡ length xs → take n xs ≡ xs
take_whole [] n is = rw is refl
take_whole (x ∷ xs) n is = rw is (ap (λ l. x ∷ l) (take_whole xs (length xs) refl))

-- the segment is met where all letters are read
pub letters_met : (letters : List ℕ) (ps : List Place) (later : List Step) (state : ℕ) (cs rest : List ℕ) → state ≡ length letters → after_places ps cs ≡ Some rest
    → some_end (meets false (letters_then letters (tail_then ps later))) (take state letters ++ cs) ≡ some_end (meets false later) rest
letters_met letters ps later state cs rest all h =
    ap (λ l. some_end (meets false (letters_then letters (tail_then ps later))) (l ++ cs)) (take_whole letters state all)
    ∙ up_to_any_finds false (letters_then letters (tail_then ps later)) later (letters ++ cs) rest (some_end (meets false later) rest)
    (front_letters letters (tail_then ps later) cs ∙ front_places ps later cs rest h) refl

-- where it is not, fewer letters count
pub letters_missed : (letters : List ℕ) (ps : List Place) (later : List Step) (state back : ℕ) (cs : List ℕ) → state ≡ length letters
    → 0 < length letters → IsBack letters state back → after_places ps cs ≡ None
    → some_end (meets false (letters_then letters (tail_then ps later))) (take state letters ++ cs) ≡ some_end (meets false (letters_then letters (tail_then ps later))) (take back letters ++ cs)
letters_missed letters ps later state back cs all some is h =
    let test = meets false (letters_then letters (tail_then ps later)) in
    let whole = take_whole letters state all in
    let long : 0 < length (take state letters) = subst (λ l. 0 < length l) (sym whole) some in
    let fails : test (take state letters ++ cs) ≡ false = ap (λ l. test (l ++ cs)) whole ∙ letters_first letters (tail_then ps later) cs ∙ places_missed ps later cs h in
    first_fails test (take state letters) cs long fails ∙ is.reads.same (tail_then ps later) cs

-- one more letter is read
pub letter_read : (letters : List ℕ) (more : List Step) (state next c : ℕ) (left later : List ℕ) → left ≡ c ∷ later → Reads letters (take state letters ++ c ∷ []) next
    → some_end (meets false (letters_then letters more)) (take state letters ++ left) ≡ some_end (meets false (letters_then letters more)) (take next letters ++ later)
letter_read letters more state next c left later is reads =
    let test = meets false (letters_then letters more) in
    ap (λ l. some_end test (take state letters ++ l)) is ∙ ap (some_end test) (sym (append_assoc (take state letters) (c ∷ []) later)) ∙ reads.same more later

length_taken : (state : ℕ) (letters : List ℕ) → length (take state letters) ≤ state
length_taken zero letters = omega arith
length_taken (suc state) [] = omega arith
length_taken (suc state) (x ∷ xs) = let later = length_taken state xs in omega (arith, later)

-- none is left
pub letters_end : (letters : List ℕ) (more : List Step) (state : ℕ) (left : List ℕ) → left ≡ [] → state < length letters
    → some_end (meets false (letters_then letters more)) (take state letters ++ left) ≡ false
letters_end letters more state left is lt =
    let short = length_taken state letters in
    ap (λ l. some_end (meets false (letters_then letters more)) (take state letters ++ l)) is
    ∙ ends_too_short letters more (take state letters ++ []) (omega (arith, lt, short, length-append (take state letters) []))

-- ---- the end of a text

and_false : (b m : Bool) → m ≡ false → (b && m) ≡ false
and_false true m h = h
and_false false m h = refl

-- places ask for as many characters
other_length : (ps : List Place) (cs : List ℕ) → length cs ≢ length ps → meets false (places_view ps) cs ≡ false
other_length [] [] h = absurd (h refl)
other_length [] (c ∷ cs) h = refl
other_length (One ∷ ps) [] h = refl
other_length (One ∷ ps) (c ∷ cs) h = other_length ps cs (λ e. h (ap suc e))
other_length (This d ∷ ps) [] h = refl
other_length (This d ∷ ps) (c ∷ cs) h = and_false (d == c) (meets false (places_view ps) cs) (other_length ps cs (λ e. h (ap suc e)))

pub ends_short : (ps : List Place) (cs : List ℕ) → length cs < length ps → some_end (meets false (places_view ps)) cs ≡ false
ends_short ps [] lt = other_length ps [] (λ e. absurd (omega (arith, lt, e)))
ends_short ps (c ∷ cs) lt =
    let none = other_length ps (c ∷ cs) (λ e. absurd (omega (arith, lt, e))) in
    rw none (ends_short ps cs (omega (arith, lt)))

or_false : (b : Bool) → (b || false) ≡ b
or_false true = refl
or_false false = refl

end_alone : (ps : List Place) (cs : List ℕ) → length cs ≡ length ps → some_end (meets false (places_view ps)) cs ≡ meets false (places_view ps) cs
end_alone ps [] long = refl
end_alone ps (c ∷ cs) long = ap (λ b. meets false (places_view ps) (c ∷ cs) || b) (ends_short ps cs (omega (arith, long))) ∙ or_false (meets false (places_view ps) (c ∷ cs))

-- so many characters stand before the only end that is long enough
pub end_behind : (ps : List Place) (before : ℕ) (cs : List ℕ) → length cs ≡ before + length ps → some_end (meets false (places_view ps)) cs ≡ meets false (places_view ps) (drop before cs)
end_behind ps zero cs long = end_alone ps cs (omega (arith, long))
end_behind ps (suc before) [] long = absurd (omega (arith, long))
end_behind ps (suc before) (c ∷ cs) long =
    let none = other_length ps (c ∷ cs) (λ e. absurd (omega (arith, long, e))) in
    rw none (end_behind ps before cs (omega (arith, long)))

long_read : (fold : Bool) (text : List ℕ) (n : ℕ) → n ≡ length (chars text) → length (read fold text) ≡ n
long_read fold text n is = length-map (chars text) (read_letter fold) ∙ sym is

-- a text that has fewer characters than places ends with none of them
pub text_short : (fold : Bool) (text : List ℕ) (ps : List Place) (n : ℕ) → n ≡ length (chars text) → n < length ps → some_end (meets false (places_view ps)) (read fold text) ≡ false
text_short fold text ps n is lt = let long = long_read fold text n is in ends_short ps (read fold text) (omega (arith, lt, long))

-- else its last characters are to be looked at
pub text_end : (fold : Bool) (text later : List ℕ) (ps : List Place) (n : ℕ) (o : Option (List ℕ)) → n ≡ length (chars text) → length ps ≤ n
    → chars later ≡ drop (n - length ps) (chars text) → after_places ps (read fold later) ≡ o
    → some_end (meets false (places_view ps)) (read fold text) ≡ option_map_or is_empty o false
text_end fold text later ps n o is le behind found =
    let long = long_read fold text n is in
    end_behind ps (n - length ps) (read fold text) (omega (arith, long, le))
    ∙ ap (meets false (places_view ps)) (drop-map (read_letter fold) (n - length ps) (chars text) ∙ ap (map (read_letter fold)) (sym behind))
    ∙ places_alone ps (read fold later) ∙ ap (λ p. option_map_or is_empty p false) found
