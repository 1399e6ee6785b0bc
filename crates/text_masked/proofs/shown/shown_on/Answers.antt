use Rattle.std.proofs.Common.{◌∙◌, sym}
use Rattle.text_masked.proofs.ShownLemmas.{no_instr, shown_of}
use Rattle.text_masked.proofs.shown.shown_on.Goals as goal

pub returns-in-Some : goal.returns-in-Some
returns-in-Some c =
    shown_of c.args.image.now c.args.mask c.args.edge.now c.address.result c.address.ensures (sym c.is_done.ensures ∙ c.if-not-is_done.false) c.in-Some.instr c.in-Some.ensures.some c.in-Some.ensures.only c.shown_by.result
    c.shown_by.ensures

pub returns-in-None : goal.returns-in-None
returns-in-None c = no_instr c.args.image.now c.args.mask c.args.edge.now c.address.result c.address.ensures c.in-None.ensures.only
