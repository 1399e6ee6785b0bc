use Rattle.std.proofs.Common.{◌≤◌, ◌*◌, ◌^◌, ℕ, List, drop, map}
use Rattle.sources.specs.Source.{Says}
use Rattle.response_reports.proofs.HeldBackLemmas.{IsSoFar}
use Rattle.response_reports.proofs.held_back.stretches_ticks.Given as goal
use Rattle.sources.specs.File.{File}

abbrev pub invariant-loop-statement : goal.invariant-loop-statement
invariant-loop-statement l = record {
  so_far : (source : File) → Says source l.said → IsSoFar source l.profile l.said (map (λ v. v.items) l.statements) (map (λ v. v.items) (drop l.statement-index l.statements)) l.total;
  small : l.total ≤ l.statement-index * 2 ^ 64;
}
