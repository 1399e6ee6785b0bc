use Rattle.std.proofs.Common.{◌≡◌, ◌∙◌, ◌++◌, ℕ, List, Vec, Global, refl, ap, append_assoc}
use Rattle.std.specs.Prelude.{codes}
use Rattle.asm_text.specs.Hex.{hex8}
use Rattle.debugger.proofs.rows.put_row.Goals.{in-Line, in-Word}
use Rattle.debugger.proofs.rows.put_row.Goals as goal

pub returns-clause-row : goal.returns-clause-row
returns-clause-row c =
    let address = hex8 c.args.address in
    let word = hex8 c.args.word in
    let old = c.args.out.now.items in
    let both : c.put_hex8-2.new.out.items ≡ old ++ address ++ codes " " ++ word =
    c.put_hex8-2.ensures.text ∙ ap (λ (t : List ℕ). t ++ word)
    (c.put.ensures.text ∙ ap (λ (t : List ℕ). t ++ codes " ") c.put_hex8.ensures.text) in
    let end : (v : Vec ℕ Global) → c.match-row.out ≡ v → c.put-2.new.out.items ≡ v.items ++ codes "\n" =
    λ v is. c.put-2.ensures.text ∙ ap (λ (v : Vec ℕ Global). v.items ++ codes "\n") is in
    elim c.match-row.branch [
      | in-Word w ↦ (
        address ++ (codes " " ++ (word ++ codes "\n")),
        rw w.in-Word.is refl,
        end _ w.out-is ∙ ap (λ (t : List ℕ). t ++ codes "\n") both ∙ simp append_assoc,
      )
      | in-Line w ↦
          let shown = w.put_shown.ensures.text in (
            address ++ (codes " " ++ (word ++ (codes " " ++ (shown.0 ++ codes "\n")))),
            rw w.in-Line.is (shown.0, shown.1, refl),
            end _ w.out-is ∙ ap (λ (t : List ℕ). t ++ codes "\n")
                (shown.2 ∙ ap (λ (t : List ℕ). t ++ shown.0)
                (w.put-in-Line.ensures.text ∙ ap (λ (t : List ℕ). t ++ codes " ") both))
                ∙ simp append_assoc,
          )
    ]
