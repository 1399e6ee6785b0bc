use Rattle.std.proofs.Common.{◌∙◌, ◌++◌, ℕ, List, ap, codes}
use Rattle.std.proofs.lemmas.Result.{on_ok_weaker}
use Rattle.response_reports.specs.RespondText.{interrupt_name}
use Rattle.response_reports.proofs.TextLemmas.{five}
use Rattle.response_reports.proofs.texts.put_heading.Goals as goal

pub returns : goal.returns
returns c =
    on_ok_weaker c.put-5.result
    (λ last. five c.args.out.now.items (codes "arcwcet respond\n") (interrupt_name c.args.interrupt) (codes " to ") c.args.label.now (codes "\n")
    c.put.new.out.items c.put-2.new.out.items c.put-3.new.out.items c.put-4.new.out.items c.put-5.new.out.items
    c.in_ok-put.ensures (c.in_ok-put-2.ensures ∙ ap (λ (t : List ℕ). c.put.new.out.items ++ t) c.interrupt_name.ensures) c.in_ok-put-3.ensures c.in_ok-put-4.ensures last)
    c.put-5.ensures
