use Rattle.std.proofs.Common.{◌≡◌, sym, subst, rules}
use Rattle.std.specs.Str.{IsUtf8}
use Rattle.certificate.specs.Walk.{step_of}
use Rattle.certificate.specs.Words.{edge_words, ended}
use Rattle.certificate.proofs.AsciiLaws.{edge_utf8}
use Rattle.certificate.proofs.writing.write_edge.Goals as goal

pub unreachable-requires : goal.unreachable-requires
unreachable-requires c =
    let is : c.bytes.result.now ≡ ended (edge_words (step_of c.args.edge.now)) = search rules in
    c.in_default.ensures.cases.0 (subst IsUtf8 (sym is) (edge_utf8 (step_of c.args.edge.now)))
