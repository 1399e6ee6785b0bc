use Rattle.std.proofs.Common.{arith, below_more, refl, subst}
use Rattle.std.proofs.lemmas.Bool.{both_ways}
use Rattle.bus_ticks.specs.Worst.{IsOf}
use Rattle.kept_runs.proofs.transfers.other_word.Goals as goal

pub returns-then-not-is_of : goal.returns-then-not-is_of
returns-then-not-is_of c = record {
  number = c.loop-word.word;
  below = c.loop-word-test.true;
  address_is = c.word_address-address.ensures.address;
  store = refl;
  before = c.loop-word.invariant;
  other = λ is. both_ways c.is_of.result c.if-not-is_of.true (c.is_of.ensures.1 is);
}

pub loop-word-preserved : goal.loop-word-preserved
loop-word-preserved c =
    below_more _ _ c.loop-word.invariant
    (subst (IsOf c.args.class) c.word_address-address.ensures.address (c.is_of.ensures.0 c.if-not-is_of.false))

pub returns : goal.returns
returns c i h = c.loop-word.invariant i (omega (arith, c.loop-word-test.false))
