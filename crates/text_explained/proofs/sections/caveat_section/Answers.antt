use Rattle.std.proofs.Common.{List, ℕ, subst, sym}
use Rattle.std.proofs.lemmas.Result.{IfOk-weaker}
use Rattle.text_explained.specs.Assumed.{AreSubjectTo}
use Rattle.text_explained.proofs.sections.caveat_section.Goals as goal

pub returns : goal.returns
returns c =
    let Named : List ℕ → Type 0 = AreSubjectTo c.args.handler.now.image.now c.args.handler.now.statement c.args.handler.now.graph c.args.caveat in
    IfOk-weaker c.section_of.result _ _
    (λ text is. record {
      named = c.deref.result.now;
      rows = is.0;
      are_named = subst Named (sym c.deref.ensures.value) c.in_ok-named.ensures.named;
      are_rows = is.1;
      text_is = is.2;
    })
    c.section_of.ensures
