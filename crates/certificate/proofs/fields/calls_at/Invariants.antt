use Rattle.std.proofs.Common.{◌≡◌, ◌<◌, ◌^◌, ◌++◌, ℕ, List, All, length, map}
use Rattle.asm_text.specs.Hex.{hex}
use Rattle.certificate.specs.Words.{AreCalls, list_words}
use Rattle.certificate.proofs.CallLaws.{Ahead}
use Rattle.certificate.proofs.JoinLaws.{marked}
use Rattle.certificate.proofs.fields.calls_at.Given as goal

abbrev pub invariant-loop-first : goal.invariant-loop-first
invariant-loop-first l = record {
  small : All (λ c. c < 2 ^ 26) l.calls;
  whole : l.fn.word ≡ marked 47 (map hex l.calls) ++ l.rest;
  ahead : (calls : List ℕ) → AreCalls calls → l.fn.word ≡ list_words calls → Ahead 47 hex calls l.calls l.rest;
}

abbrev pub decreases-loop-first : goal.decreases-loop-first
decreases-loop-first l = length l.rest
