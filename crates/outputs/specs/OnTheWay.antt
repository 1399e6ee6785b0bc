-- Bytes on their way to an output: a page holds some of them back.
use Rattle.std.specs.Prelude.{◌≡◌, ℕ, List, ◌++◌, Bool, true, false, Option}
use Rattle.std.specs.Io.KnownBytes.{Appends}
use Rattle.outputs.specs.Output.{FailsSince, TakesFront}

-- what a page holds back, and whether the output failed since it was made
pub record Held : Type 0 where
  pub bytes : List ℕ
  pub failed : Bool

-- the output took the text, but for what is held back
pub record IsSent (old new : Option (List ℕ)) (held text : List ℕ) : Type 0 where
  pub sent : List ℕ
  pub took : Appends old new sent
  pub whole : text ≡ sent ++ held

module _ {O : Type 0} (taken : O → Option (List ℕ)) (failures : O → ℕ) where
  -- since the output was `start`, the text was sent but for what the page holds back; or the output took a
  -- front of it, and failed
  pub record IsOnTheWay (start now : O) (page : Held) (text : List ℕ) : Type 0 where
    pub going : page.failed ≡ false
        → IsSent (taken start) (taken now) page.bytes text × (failures now ≡ failures start)
    pub stopped : page.failed ≡ true
        → TakesFront (taken start) (taken now) text × FailsSince (failures start) (failures now)

  -- whatever was on its way, now it is that with these bytes after it
  abbrev pub Adds : (old : O) (before : Held) (new : O) (after : Held) → List ℕ → Type 0
  Adds old before new after bytes =
      (start : O) (text : List ℕ) → IsOnTheWay start old before text
      → IsOnTheWay start new after (text ++ bytes)
