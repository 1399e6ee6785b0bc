use Rattle.assembler.proofs.disassembly.assembles_back.Goals as goal

pub returns-in-None-clause-no : goal.returns-in-None-clause-no
returns-in-None-clause-no c may back = let none = c.in-None.ensures.only c.args.word may back in absurd cc
