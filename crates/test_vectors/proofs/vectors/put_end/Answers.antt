use Rattle.std.proofs.Common.{◌≡◌, ◌∙◌, ◌++◌, ℕ, List, ap, codes, map, sym}
use Rattle.memc.specs.Memory.{Memory}
use Rattle.json_trace.specs.Json.{array}
use Rattle.test_vectors.specs.Shape.{shape}
use Rattle.test_vectors.specs.Vector.{access_value, state_value}
use Rattle.test_vectors.specs.Writing.{place_addresses, ram_text, shown_at}
use Rattle.test_vectors.specs.declared.shown_words.ShownWord.{ShownWord}
use Rattle.test_vectors.proofs.ChainLaws.{as_text, two}
use Rattle.test_vectors.proofs.vectors.put_end.Goals as goal

pub returns : goal.returns
returns g c = λ m kept ahead initial.
    let s = c.args.machine.now in
    let place = c.args.place in
    let cycles = c.put_cycles.ensures m ahead (λ other. c.memc.ensures ∙ kept other) in
    let middle = state_value s.regs s.bus.memc (place_addresses place) in
    let last : Memory → List ℕ = λ (x : Memory). array (map (access_value m x) (shape place.done place.at place.to)) in
    as_text g.O.Output.taken g.O.Output.failures
    (two g.O.Output.taken g.O.Output.failures c.put_ram.ensures (two g.O.Output.taken g.O.Output.failures c.put.ensures (two g.O.Output.taken g.O.Output.failures c.put_state.ensures (two g.O.Output.taken g.O.Output.failures c.put-2.ensures (two g.O.Output.taken g.O.Output.failures cycles c.put-3.ensures)))))
    (ap (λ (ws : List ShownWord). ram_text ws ++ (codes ",\"final\":" ++ (middle ++ (codes ",\"cycles\":" ++ (last c.memc.result.now ++ codes "}"))))) initial
    ∙ ap (λ (x : Memory). ram_text (map (shown_at m) (place_addresses place)) ++ (codes ",\"final\":" ++ (middle ++ (codes ",\"cycles\":" ++ (last x ++ codes "}"))))) c.memc.ensures)
