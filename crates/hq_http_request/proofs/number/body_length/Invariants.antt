use Rattle.std.proofs.Common.{◌≡◌, ◌≤◌, true, drop}
use Rattle.std.specs.List.{list_all}
use Rattle.std.specs.Char.{is_ascii_digit}
use Rattle.hq_http_request.specs.Requests.{number}
use Rattle.hq_http_request.proofs.number.body_length.Given as goal

abbrev pub invariant-loop-digit : goal.invariant-loop-digit
invariant-loop-digit l = record {
  sum : number l.sum (drop l.digit-index l.digits) ≡ number 0 l.digits;
  small : l.sum ≤ 1048576;
  digits : list_all is_ascii_digit (drop l.digit-index l.digits) ≡ true;
}
