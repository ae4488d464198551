-- The next of the steps that are left.
use Rattle.std.proofs.Common.{◌≡◌, ◌<◌, ◌+◌, ◌-◌, ◌∙◌, ℕ, List, [], ◌∷◌, suc, zero, Option, Some, length, refl, ap, sym, arith}
use Rattle.std.specs.Prelude.{Bool, option_and_then}
use Rattle.std.specs.Option.{option_map_or}
use Rattle.csv.specs.declared.parser.State.TheVariants as st
use Rattle.hq_explain_places.specs.Nodes.{Entry, Node, behind_comma, child, entries, entry_at, node, taken, unblanked}
use Rattle.hq_explain_places.specs.Records.{behind_byte, behind_field, from_field, from_next, from_record}

one_less : (number done : ℕ) → done < number → number - done ≡ suc (number - (done + 1))
one_less number done h = omega arith

-- the next record
pub record_next : (number done : ℕ) (rest next all : List ℕ) → done < number
    → from_record (number - done) rest ≡ all → next ≡ from_next rest
    → from_record (number - (done + 1)) next ≡ all
record_next number done rest next all h led is =
    ap (from_record (number - (done + 1))) is ∙ (sym (ap (λ n. from_record n rest) (one_less number done h)) ∙ led)

-- no record is left of nothing
nothing : (number : ℕ) → from_record number [] ≡ []
nothing zero = refl
nothing (suc number) = nothing number

pub record_none : (number : ℕ) (rest all : List ℕ) → length rest ≡ 0 → from_record number rest ≡ all → rest ≡ all
record_none number [] all none led = sym (nothing number) ∙ led
record_none number (c ∷ cs) all none led = absurd (omega (arith, none))

-- the next field
pub field_next : (number done : ℕ) (rest next : List ℕ) (all : Option (List ℕ)) → done < number
    → from_field (number - done) rest ≡ all → Some next ≡ behind_byte 44 (behind_field st.StartField rest)
    → from_field (number - (done + 1)) next ≡ all
field_next number done rest next all h led is =
    ap (option_and_then (from_field (number - (done + 1)))) is ∙ (sym (ap (λ n. from_field n rest) (one_less number done h)) ∙ led)

-- what an entry leads on to
abbrev entry_led : (most : ℕ) (is_list : Bool) (path : List ℕ) (number : ℕ) (found : Option Node) → Option Entry → Option Node
entry_led most is_list path number found here =
    option_map_or (λ e. option_map_or (λ later. entries most is_list path (number + 1) later (taken found e)) (behind_comma e.0) (taken found e)) here found

-- the next entry
pub entries_next : (size number : ℕ) (is_list : Bool) (path rest later : List ℕ) (found next all : Option Node) (e : Entry) → number < size
    → entries (size - number) is_list path number rest found ≡ all
    → entry_at is_list path number (unblanked rest) ≡ Some e → behind_comma e.0 ≡ Some later → next ≡ taken found e
    → entries (size - (number + 1)) is_list path (number + 1) later next ≡ all
entries_next size number is_list path rest later found next all e h led here comma is =
    ap (entries (size - (number + 1)) is_list path (number + 1) later) is
    ∙ (sym (ap (entry_led (size - (number + 1)) is_list path number found) here
    ∙ ap (λ c. option_map_or (λ l. entries (size - (number + 1)) is_list path (number + 1) l (taken found e)) c (taken found e)) comma)
    ∙ (sym (ap (λ n. entries n is_list path number rest found) (one_less size number h)) ∙ led))

-- the next step on the way
pub node_next : (size done : ℕ) (here next all : Node) → done < size → node (size - done) here ≡ all → child here.0 here.1 ≡ Some next → node (size - (done + 1)) next ≡ all
node_next size done here next all h led found =
    sym (ap (λ c. option_map_or (node (size - (done + 1))) c here) found) ∙ (sym (ap (λ n. node n here) (one_less size done h)) ∙ led)
