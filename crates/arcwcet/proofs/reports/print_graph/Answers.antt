use Rattle.std.proofs.Common.{Bool, subst, sym}
use Rattle.handlers.specs.Refusal.{fault_only}
use Rattle.handlers.specs.Report.{IsRefused}
use Rattle.arcwcet.specs.Kept.{inputs_lent}
use Rattle.arcwcet.specs.Reports.{IsDrawn, extent_of, priced}
use Rattle.arcwcet.specs.Run.{PrintsReport}
use Rattle.arcwcet.proofs.reports.print_graph.Goals as goal

pub returns-then-html : goal.returns-then-html
returns-then-html g c =
    let i = inputs_lent c.args.inputs in
    subst (λ (b : Bool). PrintsReport g.O.Output.taken g.O.Output.failures (priced i.profile (IsDrawn b i.source i.second (extent_of c.args.path)) (IsRefused i.source i.second)) c.args.out.now c.print_page.new.out (fault_only c.print_page.result))
    (sym c.if-html.true) c.print_page.ensures

pub returns : goal.returns
returns g c =
    let i = inputs_lent c.args.inputs in
    subst (λ (b : Bool). PrintsReport g.O.Output.taken g.O.Output.failures (priced i.profile (IsDrawn b i.source i.second (extent_of c.args.path)) (IsRefused i.source i.second)) c.args.out.now c.print_drawing.new.out (fault_only c.print_drawing.result))
    (sym c.if-html.false) c.print_drawing.ensures
