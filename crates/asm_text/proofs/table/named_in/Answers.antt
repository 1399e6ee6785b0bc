use Rattle.std.proofs.Common.{◌∙◌, ap, sym}
use Rattle.std.specs.Prelude.{option_map}
use Rattle.asm_text.proofs.NameLaws.{found_by}
use Rattle.asm_text.proofs.table.named_in.Goals as goal

pub returns-in-Some : goal.returns-in-Some
returns-in-Some g c =
    sym (ap (λ r. option_map (λ row. row.1) (option_map (λ row. row.now) r)) c.in-Some.is) ∙ found_by c.first_row.result c.args.table.now c.args.text.now c.first_row.ensures

pub returns-in-None : goal.returns-in-None
returns-in-None g c =
    sym (ap (λ r. option_map (λ row. row.1) (option_map (λ row. row.now) r)) c.in-None.is) ∙ found_by c.first_row.result c.args.table.now c.args.text.now c.first_row.ensures
