use Rattle.known_places.proofs.around.turns_along.Goals as goal

pub returns : goal.returns
returns c = λ exit edges walk order has.
    record {
      outermost = c.in-Some.ensures exit edges walk order has;
      second = c.in-Some-turning.ensures exit edges walk order has;
      third = c.in-Some-turning-2.ensures exit edges walk order has;
      fourth = c.in-Some-turning-3.ensures exit edges walk order has;
    }
