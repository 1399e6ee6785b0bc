use Rattle.std.proofs.Common.{◌≡◌, ◌∙◌, ◌*◌, ◌-◌, ℕ, List, drop, length, ap, arith, rules}
use Rattle.std.proofs.lemmas.List.{take_all, length-drop}
use Rattle.byteorder.specs.Endian.{little_number}
use Rattle.image.proofs.SegmentLemmas.{can_stand, none_put, not_refused, put_next}
use Rattle.image.proofs.image.Image.put_segment.Goals as goal

pub loop-next-init : goal.loop-next-init
loop-next-init c = none_put c.args.self.now c.args.head.address c.args.head.count c.args.bytes.now (can_stand _ _ _ c.requires.allowed)

pub unreachable-requires : goal.unreachable-requires
unreachable-requires c =
    not_refused c.args.self.now c.loop-next.self c.args.head.address c.args.head.count c.loop-next.next c.read_u32-word.result c.args.bytes.now c.in-Err-OutOfRange.field-0 c.requires.allowed c.requires.room (search rules)
    c.whole.ensures c.loop-next.invariant (λ memory. absurd (cc (memory, c.in-Err-OutOfRange.field-0-is))) c.in-Err-OutOfRange.ensures.fault

pub unreachable-requires-in-Err-TooLong : goal.unreachable-requires-in-Err-TooLong
unreachable-requires-in-Err-TooLong c =
    not_refused c.args.self.now c.loop-next.self c.args.head.address c.args.head.count c.loop-next.next c.read_u32-word.result c.args.bytes.now c.in-Err-TooLong.field-0 c.requires.allowed c.requires.room (search rules)
    c.whole.ensures c.loop-next.invariant (λ memory. absurd (cc (memory, c.in-Err-TooLong.field-0-is))) c.in-Err-TooLong.ensures.fault

pub loop-next-preserved : goal.loop-next-preserved
loop-next-preserved c =
    let can = can_stand c.args.self.now c.args.head.address c.args.head.count c.requires.allowed in
    let at = 4 * c.loop-next.next in
    let word : c.read_u32-word.result ≡ little_number 4 (drop at c.args.bytes.now) =
    c.read_u32-word.ensures ∙ ap (λ (bs : List ℕ). little_number 4 bs) (take_all (length c.args.bytes.now - at) (drop at c.args.bytes.now) (let l = length-drop at c.args.bytes.now in omega (arith, l))) in
    put_next c.args.self.now c.loop-next.self c.put.new.self c.args.head.address c.args.head.count c.loop-next.next c.read_u32-word.result c.args.bytes.now can (search rules) c.whole.ensures c.loop-next.invariant word c.in-Ok.ensures.ok.0
