use Rattle.std.proofs.Common.{◌∙◌}
use Rattle.hq_gql_lexer.proofs.EscapeLemmas.{pair_character}
use Rattle.hq_gql_lexer.proofs.UnitLemmas.{in_range, out_of_range, lone_unit, no_second_unit, two_units}
use Rattle.hq_gql_lexer.proofs.escape.unicode_escape.Goals as goal

-- one unit is a character
pub returns-then-not-contains-clause-value : goal.returns-then-not-contains-clause-value
returns-then-not-contains-clause-value c =
    let high = c.in_ok-high.high in
    lone_unit c.args.bytes.now high c.in_ok-from_u32.field-0 c.in_ok-high.ensures.value
    (out_of_range 0xD800 0xDC00 high c.if-not-contains.ensures.value) c.if-high-eq0.false c.in_ok-from_u32.ensures.value.0
    c.in_ok-from_u32.ensures.value.1

-- no unit stands behind a high surrogate
pub returns-in_err-low-clause-value : goal.returns-in_err-low-clause-value
returns-in_err-low-clause-value c =
    let high = c.in_ok-high.high in
    c.from_residual-in_err-low.ensures ∙ no_second_unit c.args.bytes.now high c.in_ok-high.ensures.value (in_range 0xD800 0xDC00 high c.if-not-contains.ensures.value) c.in_err-low.ensures.value

-- a pair is a character
pub returns-in_err-from_u32-2-clause-value : goal.returns-in_err-from_u32-2-clause-value
returns-in_err-from_u32-2-clause-value c =
    let high = c.in_ok-high.high in
    let low = c.in_ok-low.low in
    absurd
    (c.in_err-from_u32-2.ensures.value
    (pair_character high low (in_range 0xD800 0xDC00 high c.if-not-contains.ensures.value) (in_range 0xDC00 0xE000 low c.if-not-contains-2.ensures.value)).is_scalar)

-- the character of a pair
pub returns-clause-value : goal.returns-clause-value
returns-clause-value c =
    let high = c.in_ok-high.high in
    let low = c.in_ok-low.low in
    two_units c.args.bytes.now high low c.in_ok-from_u32-2.field-0 c.in_ok-high.ensures.value (in_range 0xD800 0xDC00 high c.if-not-contains.ensures.value)
    c.in_ok-low.ensures.value (in_range 0xDC00 0xE000 low c.if-not-contains-2.ensures.value) c.in_ok-from_u32-2.ensures.value.1
