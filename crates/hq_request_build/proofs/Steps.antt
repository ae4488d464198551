-- Four steps in a row, and their first refusal.
use Rattle.std.proofs.Common.{◌≡◌, ◌∙◌, ap, Result, Ok, Err}
use Rattle.hq_base.specs.Due.{◌>>=◌}

module _ {A B C D R E : Type 0} (one : Result A E) (two : A → Result B E) (three : B → Result C E) (four : C → Result D E) (last : C → D → R) where
  abbrev pub way : Result A E → Result R E
  way r = r >>= λ a. two a >>= λ b. three b >>= λ c. four c >>= λ d. Ok (last c d)

  pub first_stops : (e : E) → one ≡ Err e → way one ≡ Err e
  first_stops e h = ap way h

  pub second_stops : (a : A) (e : E) → one ≡ Ok a → two a ≡ Err e → way one ≡ Err e
  second_stops a e g h = ap way g ∙ ap (λ r. r >>= λ b. three b >>= λ c. four c >>= λ d. Ok (last c d)) h

  pub third_stops : (a : A) (b : B) (e : E) → one ≡ Ok a → two a ≡ Ok b → three b ≡ Err e → way one ≡ Err e
  third_stops a b e f g h =
      ap way f ∙ ap (λ r. r >>= λ b. three b >>= λ c. four c >>= λ d. Ok (last c d)) g ∙ ap (λ r. r >>= λ c. four c >>= λ d. Ok (last c d)) h

  pub fourth_stops : (a : A) (b : B) (c : C) (e : E) → one ≡ Ok a → two a ≡ Ok b → three b ≡ Ok c → four c ≡ Err e → way one ≡ Err e
  fourth_stops a b c e f g h i =
      ap way f ∙ ap (λ r. r >>= λ b. three b >>= λ c. four c >>= λ d. Ok (last c d)) g ∙ ap (λ r. r >>= λ c. four c >>= λ d. Ok (last c d)) h
      ∙ ap (λ r. r >>= λ d. Ok (last c d)) i

  pub all_given : (a : A) (b : B) (c : C) (d : D) → one ≡ Ok a → two a ≡ Ok b → three b ≡ Ok c → four c ≡ Ok d → way one ≡ Ok (last c d)
  all_given a b c d f g h i =
      ap way f ∙ ap (λ r. r >>= λ b. three b >>= λ c. four c >>= λ d. Ok (last c d)) g ∙ ap (λ r. r >>= λ c. four c >>= λ d. Ok (last c d)) h
      ∙ ap (λ r. r >>= λ d. Ok (last c d)) i
