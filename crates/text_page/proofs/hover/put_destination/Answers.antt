use Rattle.std.proofs.Common.{codes}
use Rattle.std.proofs.lemmas.Result.{on_ok_weaker}
use Rattle.assembler.proofs.PutLaws.{joined}
use Rattle.asm_text.specs.Hex.{hex}
use Rattle.text_page.proofs.hover.put_destination.Goals as goal

pub returns : goal.returns
returns c = on_ok_weaker c.put_hex.result (joined c.args.out.now.items c.put.new.out.items c.put_hex.new.out.items (codes " ") (hex c.args.at) c.in_ok-put.ensures) c.put_hex.ensures
