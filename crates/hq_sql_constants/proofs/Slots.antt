-- The slots of constants.
use Rattle.std.proofs.Common.{◌≡◌, ◌∙◌, ◌<◌, ◌≤◌, ◌+◌, ◌*◌, ◌%◌, ℕ, List, [], ◌∷◌, ◌++◌, map, length, get_or, take, drop, Bool, false, sym, ap, add-one, arith}
use Rattle.std.specs.Prelude.{◌==◌}
use Rattle.std.specs.List.{list_any}
use Rattle.std.proofs.Math.Seq.{take-suc}
use Rattle.std.proofs.lemmas.List.{at_drop_more, map-append}
use Rattle.hq_base.specs.declared.value.Val.{Val}
use Rattle.hq_base.specs.declared.value.Val.TheVariants as val
use Rattle.hq_sql_constants.proofs.Sieving.{drop_past}
use Rattle.hq_sql_constants.specs.Sifted.{AreTaken, slot_of, text_slot}

-- a byte more
pub slot_more : (bs : List ℕ) (i slot b : ℕ) → i < length bs → b ≡ get_or bs i b → text_slot slot (drop i bs) ≡ text_slot 0 bs
    → text_slot ((slot * 31 + b) % 65536) (drop (i + 1) bs) ≡ text_slot 0 bs
slot_more bs i slot b lt is so_far =
    ap (λ k. text_slot ((slot * 31 + k) % 65536) (drop (i + 1) bs)) is ∙ sym (at_drop_more (text_slot slot) bs i b lt) ∙ so_far

pub slot_end : (bs : List ℕ) (i slot : ℕ) → length bs ≤ i → text_slot slot (drop i bs) ≡ text_slot 0 bs → slot ≡ text_slot 0 bs
slot_end bs i slot le so_far = ap (text_slot slot) (sym (drop_past bs i le)) ∙ so_far

-- a value more
pub slots_more : (vs : List Val) (i : ℕ) (v : Val) (slots more : List ℕ) → i < length vs → v ≡ get_or vs i v → slots ≡ map slot_of (take i vs)
    → more ≡ slots ++ slot_of v ∷ [] → more ≡ map slot_of (take (i + 1) vs)
slots_more vs i v slots more lt is so_far grown =
    let longer : take (i + 1) vs ≡ take i vs ++ v ∷ [] = ap (λ n. take n vs) (add-one i) ∙ take-suc vs i v lt ∙ ap (λ d. take i vs ++ d ∷ []) (sym is) in
    grown ∙ ap (λ l. l ++ slot_of v ∷ []) so_far ∙ sym (map-append slot_of (take i vs) (v ∷ [])) ∙ ap (map slot_of) (sym longer)

text_below : (h : ℕ) (bs : List ℕ) → h < 65536 → text_slot h bs < 65536
text_below h [] lt = lt
text_below h (b ∷ bs) lt = text_below ((h * 31 + b) % 65536) bs (omega arith)

slot_below : (x : Val) → slot_of x < 65536
slot_below (val.Text t) = text_below 0 t (omega arith)
slot_below val.Null = omega arith
slot_below (val.Int n) = omega arith
slot_below (val.Bool b) = omega arith

-- marks of the slots of values
pub taken_are : (vs : List Val) (slots : List ℕ) (taken : List Bool) → slots ≡ map slot_of vs
    → ((t : ℕ) → t < 65536 → get_or taken t false ≡ list_any (λ u. u == t) slots) → AreTaken vs taken
taken_are vs slots taken is set =
    record { none = λ x out. ap (list_any (λ u. u == slot_of x)) (sym is) ∙ sym (set (slot_of x) (slot_below x)) ∙ out }
