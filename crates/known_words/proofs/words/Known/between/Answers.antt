use Rattle.std.proofs.Common.{◌-◌, arith}
use Rattle.known_words.proofs.words.Known.between.Goals as goal

pub returns : goal.returns
returns c = λ entry turns word from upto.
    let fits = c.ranges.high.fits in
    let width = c.saturating_sub.ensures in (
      record {
        more = word - c.args.low;
        within = omega (arith, from, upto, width);
        is = omega (arith, from, upto, fits);
      },
      (from, upto),
    )
