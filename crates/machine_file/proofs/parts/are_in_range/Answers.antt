use Rattle.std.proofs.Common.{rules, ◌≡◌, ℕ, List, sym, subst, arith, true, All, IsTrue}
use Rattle.std.specs.List.{list_all}
use Rattle.image.specs.Image.{may_hold}
use Rattle.memc.specs.Memory.{shift_of_size}
use Rattle.bus_ticks.specs.Prices.{is_word_address}
use Rattle.machine_file.specs.MachineFile.{is_mappable}
use Rattle.machine_file.proofs.parts.are_in_range.Goals as goal

abbrev AreHeld : List (ℕ × ℕ) → Type 0
AreHeld words = All (λ w. IsTrue (may_hold w.0)) words

pub returns : goal.returns
returns c =
    let pc : IsTrue (is_word_address c.args.parts.now.processor.pc) = search rules in
    let mappable : list_all (is_mappable (shift_of_size c.args.parts.now.controller.size)) c.args.parts.now.controller.pages.items ≡ true = search rules in (
      λ h. record {
        pc = pc;
        low_rom = omega arith;
        high_rom = omega arith;
        mappable = mappable;
        steps = omega arith;
        held = subst AreHeld c.deref-2.ensures.value (c.are_held.ensures.0 h);
      },
      λ r. c.are_held.ensures.1 (subst AreHeld (sym c.deref-2.ensures.value) r.held),
    )
