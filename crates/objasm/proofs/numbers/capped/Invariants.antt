use Rattle.std.proofs.Common.{◌≡◌, ◌^◌, ◌≤◌, drop}
use Rattle.std.specs.Prelude.{min}
use Rattle.std.specs.List.{list_all}
use Rattle.std.specs.Char.{is_digit}
use Rattle.std.specs.Str.Parse.{digits_value, digits_value_after}
use Rattle.objasm.proofs.numbers.capped.Given as goal

abbrev pub invariant-loop-byte : goal.invariant-loop-byte
invariant-loop-byte l = record {
  small : l.value ≤ 2 ^ 32;
  value : min (digits_value_after l.radix l.value (drop l.byte-index l.text)) (2 ^ 32) ≡ min (digits_value l.radix l.text) (2 ^ 32);
  digits : list_all (λ c. is_digit c l.radix) (drop l.byte-index l.text) ≡ list_all (λ c. is_digit c l.radix) l.text;
}
