use Rattle.std.proofs.Common.{◌≡◌, ◌∙◌, [], sym, append-nil, rules, false, refl, take}
use Rattle.outputs.proofs.PageLaws.{adds_written}
use Rattle.outputs.proofs.page.Page.flush.Goals as goal

pub returns : goal.returns
returns g c =
    let goes : c.args.self.now.failed ≡ false = search rules in
    let held : take c.self.inside.held c.self.inside.room ≡ c.args.self.now.bytes = search rules in
    record {
      adds = adds_written g.O.Output.taken g.O.Output.failures c.write_whole.result c.args.out.now c.write_whole.new.out c.args.self.now _ [] _
          goes c.is_err-self-inside.ensures.value refl (held ∙ sym (append-nil c.args.self.now.bytes))
          c.write_whole.ensures.ok c.write_whole.ensures.quiet c.write_whole.ensures.front c.write_whole.ensures.failed;
      empty = λ went. refl;
    }
