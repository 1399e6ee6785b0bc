use Rattle.known_places.proofs.destination.jumps_to.Goals as goal

pub returns-in-DataRegister : goal.returns-in-DataRegister
returns-in-DataRegister c = rw c.in-DataRegister.is c.register_jumps.ensures

pub returns-in-DataImmediate : goal.returns-in-DataImmediate
returns-in-DataImmediate c = rw c.in-DataImmediate.is c.immediate_jumps.ensures
