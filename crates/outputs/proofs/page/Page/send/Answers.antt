use Rattle.std.proofs.Common.{◌≡◌, ◌++◌, ap, sym, rules, false}
use Rattle.outputs.proofs.PageLaws.{adds_written}
use Rattle.outputs.proofs.page.Page.send.Goals as goal

pub returns : goal.returns
returns g c =
    let view = c.self.view_is in
    let goes : c.args.self.now.failed ≡ false = search rules in
    let empty = c.requires goes in
    record {
      adds = adds_written g.O.Output.taken g.O.Output.failures c.write_whole.result c.args.out.now c.write_whole.new.out c.args.self.now _ c.args.bytes.now c.args.bytes.now
          goes c.is_err-self-inside.ensures.value (search rules) (sym (ap (λ b. b ++ c.args.bytes.now) empty))
          c.write_whole.ensures.ok c.write_whole.ensures.quiet c.write_whole.ensures.front c.write_whole.ensures.failed;
    }
