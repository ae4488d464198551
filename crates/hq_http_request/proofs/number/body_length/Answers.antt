use Rattle.std.proofs.Common.{◌+◌, ◌*◌, ◌-◌, drop, get_or, arith}
use Rattle.std.proofs.lemmas.Grind.{common_steps}
use Rattle.hq_http_request.proofs.Numbers.{number_grows}
use Rattle.hq_http_request.proofs.number.body_length.Goals as goal

pub returns-then-sum-gt-BODY_LIMIT : goal.returns-then-sum-gt-BODY_LIMIT
returns-then-sum-gt-BODY_LIMIT c =
    let i = c.loop-digit.digit-index in
    let grows = number_grows (c.loop-digit.sum * 10 + (get_or c.args.digits.now i 0 - 48)) (drop (i + 1) c.args.digits.now) in
    grind (arith, common_steps, grows)
