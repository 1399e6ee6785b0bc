use Rattle.std.proofs.Common.{◌∙◌, ◌++◌, ℕ, List, ap, codes, map}
use Rattle.memc.specs.Memory.{Memory}
use Rattle.json_trace.specs.Json.{ended}
use Rattle.test_vectors.specs.Vector.{register_members}
use Rattle.test_vectors.specs.Writing.{place_addresses, ram_text, shown_at}
use Rattle.test_vectors.specs.declared.shown_words.ShownWord.{ShownWord}
use Rattle.test_vectors.proofs.TextLaws.{state_is}
use Rattle.test_vectors.proofs.ChainLaws.{as_text, two}
use Rattle.test_vectors.proofs.vectors.put_state.Goals as goal

pub returns : goal.returns
returns g c =
    let s = c.args.machine.now in
    let xs = place_addresses c.args.place in
    let words = c.deref.ensures.0 ∙ c.shown_words-words.ensures ∙ ap (λ (m : Memory). map (shown_at m) xs) c.memc.ensures in
    as_text g.O.Output.taken g.O.Output.failures (two g.O.Output.taken g.O.Output.failures c.put_registers.ensures c.put_ram.ensures)
    (ap (λ (r : List ℕ). (codes "{" ++ ended (register_members r)) ++ ram_text c.deref.result.now) c.registers.ensures
    ∙ ap (λ (ws : List ShownWord). (codes "{" ++ ended (register_members s.regs)) ++ ram_text ws) words
    ∙ state_is s.regs s.bus.memc xs)
