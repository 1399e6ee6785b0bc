-- A run that keeps a statement: of a handler of one word in ROM, SUBS PC,R14,#4, in IRQ mode.
use Rattle.std.proofs.Common.{◌≡◌, ◌++◌, ℕ, List, [], ◌∷◌, None, Some, replicate, refl, ap}
use Rattle.bus_ticks.specs.declared.profile.Profile.{Profile}
use Rattle.image.specs.Image.{Words, word_of}
use Rattle.memc.specs.Memory.{control_of}
use Rattle.ioc.specs.Interrupts as ioc
use Rattle.vidc.specs.Video as vidc
use Rattle.arm2_transfer.specs.declared.bus.Bus.{Bus}
use Rattle.arm2_exec.specs.Run.{at_rest, counted, why_stopped}
use Rattle.arm2_exec.specs.State.{State}
use Rattle.handlers.specs.Keeping.{HasKeptRun}
use Rattle.arcwcet.proofs.OneWord as one
use Rattle.arcwcet.proofs.OneWord.{goes_before, quiet}

abbrev entry : ℕ
entry = 0x3800000

words : Words
words = (entry, one.word) ∷ []

word_there : word_of words entry ≡ Some one.word
unfolding words
word_there = refl

-- as the machine is made, but for one word in ROM
bus : Bus
bus = record {
  memc = record { shift = 12; paged = record { words = []; pages = [] }; control = control_of 0; rom = (entry, one.word) ∷ [] };
  ioc = ioc.fresh;
  vidc = vidc.fresh;
}

-- R14 of IRQ mode is 8; R15 is the entry, with I and F set and IRQ mode
regs : List ℕ
regs = replicate 23 0 ++ 8 ∷ 0 ∷ 0 ∷ 0x0F800002 ∷ []

module _ (profile : Profile) where
  start : State
  start = record { regs = regs; bus = bus; profile = profile }

  ready : one.IsAtWord entry profile start quiet
  unfolding start bus regs
  ready = record { registers = refl; at = refl; prices = refl; fetches = refl; none_due = refl }

  pub kept : HasKeptRun profile
  kept = record {
    words = words;
    stated = one.stated words entry word_there profile;
    flow = one.flow words entry word_there profile;
    graph_is = one.graph_is words entry word_there profile;
    s = start;
    inputs = quiet ∷ [];
    keeps = record {
      walk = one.edge words entry word_there profile ∷ [];
      complete = one.complete words entry word_there profile;
      kept = one.keeps_bounds words entry word_there profile;
      follows = one.follows words entry word_there profile start quiet ready;
    };
    ran = counted start.profile.burst quiet (one.stepped words entry word_there profile start quiet ready) (at_rest None);
    after = one.after words entry word_there profile start quiet ready;
    runs =
        goes_before start quiet [] (one.stepped words entry word_there profile start quiet ready)
        (one.after words entry word_there profile start quiet ready) (at_rest None)
        (one.after words entry word_there profile start quiet ready)
        (one.step words entry word_there profile start quiet ready)
        (ap why_stopped (one.plain words entry word_there profile start quiet ready)) (refl, refl);
  }
