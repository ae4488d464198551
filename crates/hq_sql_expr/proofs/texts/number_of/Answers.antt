use Rattle.std.proofs.Common.{◌≡◌, List, ℕ, ◌<◌, ◌^◌, true, false, sym, subst, ◌∙◌}
use Rattle.std.specs.Prelude.{bytes_eq}
use Rattle.std.specs.Fmt.{decimal}
use Rattle.hq_sql_expr.proofs.Ints.{differ, agree}
use Rattle.hq_sql_expr.proofs.Numbers.{Parsed, Unparsed, none_parsed, none_shortest, some_parsed}
use Rattle.hq_sql_expr.proofs.texts.number_of.Goals as goal

pub returns-in_default : goal.returns-in_default
returns-in_default c = none_parsed c.args.digits.now (subst Unparsed c.as_str.ensures c.in_default.ensures.value.0)

pub returns-then-ne : goal.returns-then-ne
returns-then-ne c =
    let n = c.in-Ok.n in
    let digits : List ℕ = c.args.digits.now in
    let shortest : List ℕ = c.as_bytes.result.now in
    let parsed : Parsed digits n = subst (λ (t : List ℕ). Parsed t n) c.as_str.ensures c.in-Ok.ensures.value.0 in
    let written : shortest ≡ decimal n = c.as_bytes.ensures.value ∙ c.in_ok-shortest.ensures.ok in
    let other : bytes_eq shortest digits ≡ false = subst (λ (t : List ℕ). bytes_eq shortest t ≡ false) c.as_bytes-2.ensures (differ shortest c.as_bytes-2.result.now c.if-ne.ensures) in
    none_shortest digits shortest n parsed written other

pub returns : goal.returns
returns c =
    let n = c.in-Ok.n in
    let digits : List ℕ = c.args.digits.now in
    let shortest : List ℕ = c.as_bytes.result.now in
    let parsed : Parsed digits n = subst (λ (t : List ℕ). Parsed t n) c.as_str.ensures c.in-Ok.ensures.value.0 in
    let lt : n < 2 ^ 64 = subst (λ (m : ℕ). m < 2 ^ 64) (sym parsed.1) parsed.0.1 in
    let written : shortest ≡ decimal n = c.as_bytes.ensures.value ∙ c.in_ok-shortest.ensures.ok in
    let equal : bytes_eq shortest digits ≡ true = subst (λ (t : List ℕ). bytes_eq shortest t ≡ true) c.as_bytes-2.ensures (agree shortest c.as_bytes-2.result.now c.if-ne.ensures) in
    some_parsed digits shortest n lt parsed written equal
