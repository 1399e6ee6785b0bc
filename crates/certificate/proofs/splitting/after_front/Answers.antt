use Rattle.std.proofs.Common.{◌≡◌, ◌∙◌, List, ℕ, length, take, ap}
use Rattle.std.specs.Prelude.{nat_eq}
use Rattle.std.specs.Cmp.Lexicographic.{pointwise}
use Rattle.std.proofs.Math.Seq.{take-append_seam}
use Rattle.std.proofs.lemmas.Bool.{false≢true}
use Rattle.std.proofs.lemmas.Cmp.{nat_list_eq_equiv}
use Rattle.certificate.proofs.splitting.after_front.Goals as goal

pub returns-else-eq : goal.returns-else-eq
returns-else-eq c = λ rest is.
    let front = c.args.front.now in
    let same : c.split_at.result.0.now ≡ front = c.split_at.ensures.front ∙ ap (take (length front)) is ∙ take-append_seam front rest in
    false≢true (c.if-eq.ensures ∙ ap (λ (head : List ℕ). pointwise nat_eq head front) same ∙ nat_list_eq_equiv.refl front)
