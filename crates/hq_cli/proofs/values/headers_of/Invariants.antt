use Rattle.std.proofs.Common.{◌≡◌, ◌≤◌, ◌++◌, length, map, drop}
use Rattle.std.specs.Prelude.{option_map}
use Rattle.hq_cli.specs.Asked.{headers_in}
use Rattle.hq_cli.proofs.values.headers_of.Given as goal

-- the headers so far, before those of the words that are left; there is one for each word, and at most 64
abbrev pub invariant-loop-word : goal.invariant-loop-word
invariant-loop-word l = record {
  count : length l.headers ≡ l.word-index;
  few : length l.headers ≤ 64;
  so_far : option_map (λ headers. l.headers ++ headers) (headers_in (map (λ w. w.now) (drop l.word-index l.words))) ≡ headers_in (map (λ w. w.now) l.words);
}
