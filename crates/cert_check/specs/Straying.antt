-- Where the lines of a certificate's walk cannot be followed.
use Rattle.std.specs.Prelude.{ℕ, ◌+◌, ◌<◌, List, length, take}
use Rattle.control_flow.specs.Flow.{Flow}
use Rattle.numbered_walks.specs.declared.span.Span.{Span}
use Rattle.loop_bounds.specs.Tree.{Tree}
use Rattle.certificate.specs.declared.walk.CertItem.{CertItem}
use Rattle.cert_check.specs.declared.index.Index.{Index}
use Rattle.cert_check.specs.declared.walker.Walker.{Walker}
use Rattle.cert_check.specs.Followed.{followed}
use Rattle.cert_check.specs.Walking.{IsRefused, IsTaken}

-- the lines before this one were followed, and with this one there is no such walk
pub record StraysAt (flow : Flow) (tree : Tree) (index : Index) (within : Span) (levels : ℕ)
    (lines : List CertItem) (old : Walker) (number : ℕ) : Type 0 where
  pub inside : number < length lines
  pub here : Walker
  pub taken : IsTaken flow tree index within levels (length (take number lines))
      (followed flow (take number lines)) old here
  pub refused : IsRefused flow tree within levels (followed flow (take (number + 1) lines)) old.number
