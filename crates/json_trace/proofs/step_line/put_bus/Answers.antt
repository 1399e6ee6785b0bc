use Rattle.std.proofs.Common.{◌≡◌, ◌∙◌, ◌++◌, ℕ, Bool, List, ap, codes, map, string_bytes, subst}
use Rattle.ioc.specs.Interrupts.{fiq_of, irq_of}
use Rattle.memc.specs.Memory.{Memory}
use Rattle.json_trace.specs.Json.{array, ended}
use Rattle.json_trace.specs.Planned.{moved_words}
use Rattle.json_trace.specs.StepLine.{Transfer, line_members, transfer_value}
use Rattle.json_trace.proofs.JsonLaws.{value_and_rest}
use Rattle.json_trace.proofs.step_line.put_bus.Goals as goal

pub returns : goal.returns
returns c =
    let word = c.args.step.now.traced.word in
    let put = string_bytes c.put_transfers.new.out in
    let named = string_bytes c.push_str.new.self in
    let at_memory : put ≡ named ++ array (map (transfer_value word c.args.machine.now.bus.memc) (moved_words c.carried.result)) =
    subst (λ (m : Memory). put ≡ named ++ array (map (transfer_value word m) (moved_words c.carried.result)))
    c.memc.ensures c.in_ok-put_transfers.ensures in
    let moved =
    subst (λ (ws : List Transfer). put ≡ named ++ array (map (transfer_value word c.args.machine.now.bus.memc) ws))
    c.carried.ensures at_memory in
    let new = string_bytes c.put_lines.new.out in
    let lines = c.bits.result in
    let fiq =
    subst (λ (b : Bool). new ≡ put ++ (codes "," ++ ended (line_members lines b c.asserted.result.irq)))
    (c.asserted.ensures.fiq ∙ ap fiq_of c.ioc.ensures) c.in_ok-put_lines.ensures in
    let asserted =
    subst (λ (b : Bool). new ≡ put ++ (codes "," ++ ended (line_members lines (fiq_of c.args.machine.now.bus.ioc) b)))
    (c.asserted.ensures.irq ∙ ap irq_of c.ioc.ensures) fiq in
    let by_lines =
    subst
    (λ (n : ℕ). new
    ≡ put
    ++ (codes "," ++ ended (line_members n (fiq_of c.args.machine.now.bus.ioc) (irq_of c.args.machine.now.bus.ioc))))
    (c.bits.ensures tt) asserted in
    value_and_rest _ _ _ _ _ _ _ c.in_ok-push_str.ensures.bytes moved by_lines
