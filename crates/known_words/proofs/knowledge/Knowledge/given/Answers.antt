use Rattle.std.proofs.lemmas.List.Elements.{Contains-get_or}
use Rattle.known_words.proofs.knowledge.Knowledge.given.Goals as goal

pub loop-number-preserved : goal.loop-number-preserved
loop-number-preserved c = λ entry turns words are.
    let fact = are _ (Contains-get_or c.args.facts.now c.loop-number.number _ c.loop-number-test.true) in
    c.with_fact-known.ensures entry turns words fact.0 fact.1 (c.loop-number.invariant entry turns words are)

pub loop-number-init : goal.loop-number-init
loop-number-init c = λ entry turns words are. c.at_entry-known.ensures entry turns words
