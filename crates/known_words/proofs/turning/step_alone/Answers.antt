use Rattle.known_words.proofs.turning.step_alone.Goals as goal

pub returns-in-Outermost : goal.returns-in-Outermost
returns-in-Outermost c = rw c.in-Outermost.is c.outermost_alone.ensures

pub returns-in-Second : goal.returns-in-Second
returns-in-Second c = rw c.in-Second.is c.second_alone.ensures

pub returns-in-Third : goal.returns-in-Third
returns-in-Third c = rw c.in-Third.is c.third_alone.ensures

pub returns-in-Fourth : goal.returns-in-Fourth
returns-in-Fourth c = rw c.in-Fourth.is c.fourth_alone.ensures
