-- How many bytes the registers of a list take.
use Rattle.std.proofs.Common.{◌≡◌, ℕ, zero, suc, ◌+◌, ◌-◌, ◌*◌, ◌%◌, ◌^◌, ◌<◌, ◌≤◌, Bool, true, false, cond, ◌==◌, List, [], ◌++◌, length, refl, ap, subst, add-one, length-append, arith}
use Rattle.std.specs.Prelude.{codes}
use Rattle.std.proofs.lemmas.Bool.{lt-ltb}
use Rattle.arm2_decode.specs.Bits.{bit_of_word}
use Rattle.assembler.specs.ShownLines.{follows, listed, listed_below, numbered}
use Rattle.assembler.proofs.ShownLaws.{numbered_short}

-- what the registers below take over 8/3 of a byte for each, by whether the last and the next are of the list
abbrev slack : Bool → Bool → ℕ
slack false here = 0
slack true true = 4
slack true false = 8

-- a register takes up to 4 bytes where it begins a run or ends one
abbrev most : Bool → Bool → Bool → ℕ
most before here next = cond here (cond before (cond next 0 4) 4) 0

grown : (before here next : Bool) (l g n : ℕ) → 3 * l ≤ 8 * n + slack before here → g ≤ most before here next → 3 * (l + g) ≤ 8 * (n + 1) + slack here next
grown false false next l g n h k = omega arith
grown false true false l g n h k = omega arith
grown false true true l g n h k = omega arith
grown true false next l g n h k = omega arith
grown true true false l g n h k = omega arith
grown true true true l g n h k = omega arith

added : (before here next lowest : Bool) (text : List ℕ) → length text ≤ 3
    → length (cond here (cond before (cond next [] (codes "-" ++ text)) (cond lowest [] (codes ",") ++ text)) []) ≤ most before here next
added before false next lowest text h = omega arith
added false true next true text h = omega arith
added false true next false text h = omega arith
added true true true lowest text h = omega arith
added true true false lowest text h = omega arith

listed_most : (list n : ℕ) → n < 16 → length (listed list n) ≤ most (follows list n) (bit_of_word list n) (bit_of_word list (n + 1))
listed_most list n lt = added (follows list n) (bit_of_word list n) (bit_of_word list (n + 1)) (list % 2 ^ n == 0) (numbered n) (numbered_short n lt)

follows_next : (list n : ℕ) → follows list (n + 1) ≡ bit_of_word list n
follows_next list n =
    let back : n + 1 - 1 ≡ n = omega arith in
    rw (lt-ltb 0 (n + 1) (omega arith), back) refl

below_slack : (list n : ℕ) → n ≤ 16 → 3 * length (listed_below list n) ≤ 8 * n + slack (follows list n) (bit_of_word list n)
below_slack list zero le = omega arith
below_slack list (suc n) le =
    let more = grown (follows list n) (bit_of_word list n) (bit_of_word list (n + 1)) (length (listed_below list n)) (length (listed list n)) n (below_slack list n (omega arith)) (listed_most list n (omega arith)) in
    let next : 3 * length (listed_below list (suc n)) ≤ 8 * (n + 1) + slack (follows list (n + 1)) (bit_of_word list (n + 1)) = rw (length-append (listed_below list n) (listed list n), follows_next list n) more in
    subst (λ (m : ℕ). 3 * length (listed_below list (suc n)) ≤ 8 * m + slack (follows list m) (bit_of_word list m)) (add-one n) next

slack_most : (before here : Bool) → slack before here ≤ 8
slack_most false here = omega arith
slack_most true true = omega arith
slack_most true false = omega arith

pub below_room : (list n : ℕ) → n ≤ 16 → length (listed_below list n) ≤ 45
below_room list n le = omega (arith, below_slack list n le, slack_most (follows list n) (bit_of_word list n))

pub listed_room : (list n : ℕ) → n < 16 → length (listed_below list n) + length (listed list n) ≤ 45
listed_room list n lt = omega (arith, length-append (listed_below list n) (listed list n), below_room list (suc n) (omega arith))

pub listed_next : (list n : ℕ) → listed_below list (n + 1) ≡ listed_below list n ++ listed list n
listed_next list n = ap (listed_below list) (add-one n)
