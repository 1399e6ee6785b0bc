use Rattle.std.proofs.Common.{◌∙◌, ◌++◌, ap, codes, decimal}
use Rattle.std.proofs.lemmas.Result.{on_ok_weaker}
use Rattle.std.specs.BTreeMap.{get}
use Rattle.std.specs.Ordering.{nat_cmp}
use Rattle.assembler.proofs.PutLaws.{three}
use Rattle.text_draft.specs.DraftText.{class_text, register_text, spot_text}
use Rattle.text_draft.proofs.statement_text.Sheet.put_rule.Goals as goal

pub returns : goal.returns
returns c =
    let r = c.args.rule.now in
    let a = codes "  {register = \"" in
    let b = register_text r.register in
    let d = codes "\"" in
    let e = class_text r.class r.basis in
    let f = codes "  # " in
    let g = decimal r.count in
    let h = codes " loads and stores, the first " in
    let s = spot_text (get nat_cmp c.args.self.now.lines.now r.first) r.first in
    let z = codes "\n" in
    on_ok_weaker c.put-5.result
    (λ last. three c.args.out.now.items a b (d ++ (e ++ (f ++ (g ++ (h ++ (s ++ z)))))) c.in_ok-put.ensures c.in_ok-put_register.ensures
    (three c.put_register.new.out.items d e (f ++ (g ++ (h ++ (s ++ z)))) c.in_ok-put-2.ensures c.in_ok-put_class.ensures
    (three c.put_class.new.out.items f g (h ++ (s ++ z)) c.in_ok-put-3.ensures c.in_ok-put_decimal.ensures
    (three c.put_decimal.new.out.items h s z c.in_ok-put-4.ensures (c.in_ok-put_spot.ensures ∙ ap (λ l. c.put-4.new.out.items ++ spot_text l r.first) c.line.ensures) last))))
    c.put-5.ensures
