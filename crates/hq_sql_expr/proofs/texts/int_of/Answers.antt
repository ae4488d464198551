use Rattle.std.proofs.Common.{◌≡◌, List, ℕ, ℤ, true, false, Some, sym, ap, subst, ◌∙◌, w64, to_z, of_z}
use Rattle.std.proofs.Math.Facts.{to_z-of_z}
use Rattle.std.specs.Int.RustNames.{FitsSigned}
use Rattle.std.specs.Prelude.{bytes_eq}
use Rattle.std.specs.Fmt.{signed_decimal}
use Rattle.hq_sql_expr.proofs.Ints.{Parsed, Unparsed, none_parsed, none_shortest, some_parsed, differ, agree}
use Rattle.hq_sql_expr.proofs.texts.int_of.Goals as goal

pub returns-in_default : goal.returns-in_default
returns-in_default c = none_parsed c.args.digits.now (subst Unparsed c.as_str.ensures c.in_default.ensures.value.0)

same_number : (digits : List ℕ) (n : ℤ) → Parsed digits n → to_z w64 (of_z w64 n) ≡ n
same_number digits n parsed = to_z-of_z (subst (FitsSigned w64) (sym parsed.1) parsed.0.1)

pub returns-then-ne : goal.returns-then-ne
returns-then-ne c =
    let n = c.in-Ok.n in
    let digits : List ℕ = c.args.digits.now in
    let shortest : List ℕ = c.as_bytes.result.now in
    let parsed : Parsed digits n = subst (λ (t : List ℕ). Parsed t n) c.as_str.ensures c.in-Ok.ensures.value.0 in
    let written : shortest ≡ signed_decimal n = c.as_bytes.ensures.value ∙ c.in_ok-shortest.ensures.ok ∙ ap signed_decimal (same_number digits n parsed) in
    let other : bytes_eq shortest digits ≡ false = subst (λ (t : List ℕ). bytes_eq shortest t ≡ false) c.as_bytes-2.ensures (differ shortest c.as_bytes-2.result.now c.if-ne.ensures) in
    none_shortest digits shortest n parsed written other

pub returns : goal.returns
returns c =
    let n = c.in-Ok.n in
    let digits : List ℕ = c.args.digits.now in
    let shortest : List ℕ = c.as_bytes.result.now in
    let parsed : Parsed digits n = subst (λ (t : List ℕ). Parsed t n) c.as_str.ensures c.in-Ok.ensures.value.0 in
    let written : shortest ≡ signed_decimal n = c.as_bytes.ensures.value ∙ c.in_ok-shortest.ensures.ok ∙ ap signed_decimal (same_number digits n parsed) in
    let equal : bytes_eq shortest digits ≡ true = subst (λ (t : List ℕ). bytes_eq shortest t ≡ true) c.as_bytes-2.ensures (agree shortest c.as_bytes-2.result.now c.if-ne.ensures) in
    some_parsed digits shortest n parsed written equal ∙ ap (λ (m : ℤ). Some m) (sym (same_number digits n parsed))
