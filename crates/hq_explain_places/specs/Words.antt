-- Words that are told: a text to which pieces are added, or None once memory was wanting.
use Rattle.std.specs.Prelude.{ℕ, ◌-◌, ◌≡◌, ◌⊎◌, ◌||◌, ◌&&◌, Bool, List, [], ◌∷◌, ◌++◌, nat_eq, nat_lt, if◌then◌else◌, codes, decimal, Option, None, option_map}
use Rattle.hq_explain_places.specs.Lines.{begins_character}

-- a piece is added at the end, or memory is wanting
pub record Adds (old new : Option (List ℕ)) (piece : List ℕ) : Type 0 where
  pub added : (new ≡ None) ⊎ (new ≡ option_map (λ text. text ++ piece) old)

-- a byte as it is shown: a blank for one that would move what is shown behind it
abbrev pub shown_byte : ℕ → ℕ
shown_byte b = if nat_lt b 32 || nat_eq b 127 then 32 else b

-- these bytes as they are shown, cut before the first character behind so many bytes
abbrev pub is_cut : (left byte : ℕ) → Bool
is_cut left byte = nat_eq left 0 && begins_character byte

abbrev pub shown : (most : ℕ) → List ℕ → List ℕ
shown most [] = []
shown most (b ∷ bs) = if is_cut most b then codes ".." else (shown_byte b ∷ shown (most - 1) bs)

-- a part of a text in quotes, of which 60 bytes are shown
abbrev pub quoted : List ℕ → List ℕ
quoted text = codes "\"" ++ (shown 60 text ++ codes "\"")

-- a line and a column
abbrev pub place_text : (line column : ℕ) → List ℕ
place_text line column = decimal line ++ (codes ":" ++ decimal column)
