use Rattle.known_places.proofs.table.carries.Goals as goal

pub returns-in-Some : goal.returns-in-Some
returns-in-Some c = λ seen entry turns regs port bus m action long at is labelled obeys plain holds.
    c.implies.ensures seen entry turns m.regs
    (c.in-Some.ensures entry turns regs port bus m action long at is labelled obeys plain holds)
