use Rattle.std.proofs.Common.{◌∙◌, Bool, ap, ap₂, option_map}
use Rattle.std.specs.List.{list_any}
use Rattle.std.specs.Prelude.{◌&&◌, ◌||◌, not}
use Rattle.command_line.specs.Line.{are_placed, has_at_sign, is_unplaced}
use Rattle.command_line.proofs.RowLaws.{at_signs}
use Rattle.command_line.proofs.requests.are_parts.Goals as goal

pub returns : goal.returns
returns c =
    let request = c.args.request.now in
    let at = option_map (λ s. s.now) request.at in
    ap₂ (λ (p u : Bool). p || u) (c.are_placed.ensures ∙ ap (are_placed at) c.deref-3.ensures.value)
    (ap₂ (λ (u n : Bool). u && not n) (c.is_unplaced.ensures ∙ ap (is_unplaced at) c.deref.ensures.value)
    (c.have_at_sign.ensures ∙ ap (λ names. list_any (λ name. has_at_sign name.now) names) c.deref-2.ensures.value ∙ at_signs request.files.items))
