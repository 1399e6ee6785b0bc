use Rattle.std.proofs.Common.{◌≡◌, ◌<◌, ◌≤◌, ◌++◌, ℕ, List, All, length, map, take}
use Rattle.std.specs.Fmt.{decimal}
use Rattle.std.specs.List.{join_with_byte}
use Rattle.certificate.proofs.CallLaws.{Ahead}
use Rattle.certificate.proofs.JoinLaws.{marked}
use Rattle.certificate.proofs.line_reading.prices_at.Given as goal

abbrev pub invariant-loop-i : goal.invariant-loop-i
invariant-loop-i l = record {
  few : l.i ≤ 14;
  all : length l.prices ≡ 15;
  small : All (λ n. n < 256) (take l.i l.prices);
  whole : l.words ≡ marked 32 (map decimal (take l.i l.prices)) ++ l.rest;
  ahead : (numbers : List ℕ) → length numbers ≡ 15 → All (λ n. n < 256) numbers → l.words ≡ join_with_byte 32 (map decimal numbers) → Ahead 32 decimal numbers (take l.i l.prices) l.rest;
}
