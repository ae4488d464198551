-- A page gives its piece back.
use Rattle.std.proofs.Common.{◌≡◌, ◌∙◌, ℕ, zero, suc, ◌+◌, ◌-◌, ◌≤◌, ◌&&◌, true, cond, List, ◌++◌, take, drop, length, Some, None, nat_eq, refl, sym, ap, arith, append_assoc, length-append}
use Rattle.std.specs.Prelude.{replicate}
use Rattle.std.specs.Str.{bytes_eq}
use Rattle.std.specs.List.{list_all}
use Rattle.std.specs.Cmp.Lexicographic.{bytes_decides}
use Rattle.std.proofs.lemmas.List.{take_at, drop_at}
use Rattle.hq_load_pages.specs.Pages.{bytes_of_header, page_of, piece_of}
use Rattle.hq_load_pages.specs.declared.header.Header.{Header}

-- so many zeros
zeros : (n : ℕ) → list_all (λ b. nat_eq b 0) (replicate n 0) ≡ true
zeros zero = refl
zeros (suc n) = zeros n

zeros_long : (n : ℕ) → length {A = ℕ} (replicate n 0) ≡ n
zeros_long zero = refl
zeros_long (suc n) = ap suc (zeros_long n)

-- what stands behind a header and a piece
behind : (h p z : List ℕ) (n : ℕ) → length h ≡ 10 → length p ≡ n → drop (10 + n) (h ++ (p ++ z)) ≡ z
behind h p z n long few = ap (drop (10 + n)) (sym (append_assoc h p z)) ∙ drop_at (h ++ p) z (10 + n) (omega (arith, length-append h p, long, few))

-- a header, a piece and zeros
parts_back : (h p z : List ℕ) (n : ℕ) → length h ≡ 10 → length p ≡ n → length (h ++ (p ++ z)) ≡ 4096 → list_all (λ b. nat_eq b 0) z ≡ true
    → cond
    (nat_eq (length (h ++ (p ++ z))) 4096 && bytes_eq (take 10 (h ++ (p ++ z))) h
    && list_all (λ b. nat_eq b 0) (drop (10 + n) (h ++ (p ++ z))))
    (Some (take n (drop 10 (h ++ (p ++ z))))) None
    ≡ Some p
parts_back h p z n long few whole free =
    rw (whole, take_at h (p ++ z) 10 long, (bytes_decides h h).1 refl, behind h p z n long few, free, drop_at h (p ++ z) 10 long, take_at p z n few) refl

-- the bytes of a page
page_long : (d : Header) (p : List ℕ) → length p ≤ 4086 → length (page_of d p) ≡ 4096
page_long d p few = omega (arith, length-append (bytes_of_header d) (p ++ replicate (4086 - length p) 0), length-append p (replicate (4086 - length p) 0), zeros_long (4086 - length p), few)

-- a page gives its piece back
pub page_back : (d : Header) (p : List ℕ) → length p ≡ d.length → length p ≤ 4086 → piece_of d (page_of d p) ≡ Some p
page_back d p few within = parts_back (bytes_of_header d) p (replicate (4086 - length p) 0) d.length refl few (page_long d p within) (zeros (4086 - length p))
