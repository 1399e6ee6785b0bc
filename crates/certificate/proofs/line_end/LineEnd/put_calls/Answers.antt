use Rattle.std.proofs.Common.{rules, ◌≡◌, ◌∙◌, ◌++◌, ◌∷◌, ℕ, List, flat_map, ap, get_or, sym, append_assoc, arith}
use Rattle.asm_text.specs.Hex.{hex}
use Rattle.certificate.specs.Words.{list_words}
use Rattle.certificate.proofs.NumberLaws.{after_first}
use Rattle.certificate.proofs.WriteLaws.{listed}
use Rattle.certificate.proofs.line_end.LineEnd.put_calls.Goals as goal

pub returns-clause-text : goal.returns-clause-text
returns-clause-text c =
    let slice = c.items.result.now in
    let old = c.args.self.now in
    let first = hex (get_or slice 0 0) in
    let inner = flat_map (λ (c : ℕ). 47 ∷ hex c) (after_first slice) in
    let put : c.put_hex.new.self ≡ first ++ (inner ++ old) = search rules in
    put ∙ sym (append_assoc first inner old)
    ∙ ap (λ (t : List ℕ). t ++ old) (sym (listed slice (omega (arith, c.in-len1-up.len_at_least))) ∙ ap list_words c.items.ensures.value)
