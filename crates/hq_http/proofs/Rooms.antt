-- What lies in a room, from a start to an end.
use Rattle.std.proofs.Common.{◌≡◌, ◌≤◌, ◌<◌, ◌+◌, ◌-◌, ℕ, suc, List, [], ◌∷◌, ◌++◌, length, take, drop, get_or, sym, ap, ◌∙◌, subst, arith, length-take, length-drop}
use Rattle.std.proofs.Math.ListN.{set}
use Rattle.std.proofs.Math.Seq.{take-add, take-suc}
use Rattle.std.proofs.lemmas.List.{drop-take, take_more_set, drop-set-lt, get_or-drop, take_all, take-append-le, drop-drop}
use Rattle.std.specs.Prelude.{Result, Ok, Err, OnErr}
use Rattle.std.specs.declared.option.Option.{Option}
use Rattle.std.specs.Io.KnownBytes.{Consumes, IsAtEnd}
use Rattle.hq_http.specs.Pending.{Fills}

-- a byte further
pub moved_front : (room old : List ℕ) (start i : ℕ) → start + i < length old → length room ≡ length old → i < length room
    → take i room ≡ take i (drop start old) → drop i room ≡ drop i old
    → take (i + 1) (set room i (get_or room (start + i) 0)) ≡ take (i + 1) (drop start old)
moved_front room old start i lt len lt' front back =
    let v : get_or room (start + i) 0 ≡ get_or (drop start old) i 0 =
    ap (λ k. get_or room k 0) (let e : start + i ≡ i + start = omega arith in e) ∙ sym (get_or-drop i room start 0) ∙ ap (λ l. get_or l start 0) back ∙ get_or-drop i old start 0
    ∙ ap (λ k. get_or old k 0) (let e : i + start ≡ start + i = omega arith in e) ∙ sym (get_or-drop start old i 0) in
    let in_range : i < length (drop start old) = omega (arith, length-drop {A = ℕ}) in
    take_more_set room i _ lt' ∙ ap (λ l. l ++ get_or room (start + i) 0 ∷ []) front ∙ ap (λ x. take i (drop start old) ++ x ∷ []) v
    ∙ sym (ap (λ k. take k (drop start old)) (let e : i + 1 ≡ suc i = omega arith in e) ∙ take-suc (drop start old) i 0 in_range)

drop_one : (i : ℕ) (l : List ℕ) → drop (i + 1) l ≡ drop 1 (drop i l)
drop_one i l = sym (drop-drop 1 i l)

pub moved_back : (room old : List ℕ) (i v : ℕ) → drop i room ≡ drop i old → drop (i + 1) (set room i v) ≡ drop (i + 1) old
moved_back room old i v back =
    drop-set-lt (i + 1) room i v (omega arith) ∙ drop_one i room ∙ ap (drop 1) back ∙ sym (drop_one i old)

-- what a slice of a vector is after a write to the whole of it
pub written_whole : (room items : List ℕ) (len : ℕ) → length room ≡ len → take len (room ++ drop (length room) items) ≡ room
written_whole room items len e = take-append-le len room _ (omega arith) ∙ take_all len room (omega arith)

-- what was read behind the end
pub filled : (left left' : Option (List ℕ)) (at_hand room room' : List ℕ) (end n : ℕ)
    → take end room ≡ at_hand → take end room' ≡ take end room → end + n ≤ length room'
    → Consumes left left' (take n (drop end room')) → (n ≡ 0 → IsAtEnd left')
    → Fills left left' at_hand (take (end + n) room') n
filled left left' at_hand room room' end n e f fits consumed over =
    record {
      piece = take n (drop end room');
      long = omega (arith, length-take n (drop end room'), length-drop end room');
      added = take-add end n room' ∙ ap (λ l. l ++ take n (drop end room')) (f ∙ e);
      consumed = consumed;
      over = over;
    }

-- the same where the room is a vector, written twice
pub filled_room : (left left' : Option (List ℕ)) (at_hand items room room' : List ℕ) (len end n : ℕ)
    → length room ≡ len → length room' ≡ len
    → take end room ≡ at_hand → take end room' ≡ take end room → end + n ≤ length room'
    → Consumes left left' (take n (drop end room')) → (n ≡ 0 → IsAtEnd left')
    → Fills left left' at_hand (take (end + n) (take len (room' ++ drop (length room') (take len (room ++ drop (length room) items))))) n
filled_room left left' at_hand items room room' len end n l l' e f fits consumed over =
    subst (λ (x : List ℕ). Fills left left' at_hand (take (end + n) x) n) (sym (written_whole room' _ len l')) (filled left left' at_hand room room' end n e f fits consumed over)

-- what is at hand stays where a read failed behind it
pub kept_room : {T E : Type 0} (r : Result T E) (at_hand items room room' : List ℕ) (len end : ℕ) → length room' ≡ len → take end room ≡ at_hand → take end room' ≡ take end room
    → OnErr r (take end (take len (room' ++ drop (length room') (take len (room ++ drop (length room) items)))) ≡ at_hand)
kept_room (Ok x) at_hand items room room' len end l' e f = tt
kept_room (Err x) at_hand items room room' len end l' e f = ap (take end) (written_whole room' _ len l') ∙ f ∙ e

pub slid : (room old : List ℕ) (start end i : ℕ) → start ≤ end → start + i ≤ end → end ≤ start + i → take i room ≡ take i (drop start old) → take (end - start) room ≡ drop start (take end old)
slid room old start end i le under over front =
    let e : end - start ≡ i = omega arith in
    let e' : end ≡ start + i = omega arith in
    ap (λ k. take k room) e ∙ front ∙ sym (ap (λ k. drop start (take k old)) e' ∙ drop-take start i old)
