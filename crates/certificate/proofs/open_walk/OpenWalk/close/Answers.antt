use Rattle.std.proofs.Common.{rules, ◌≡◌, ◌∙◌, ◌∷◌, ◌++◌, [], true, length, List, sym, ap}
use Rattle.std.proofs.lemmas.Bool.{eqb-false}
use Rattle.std.specs.Vec.{vec_len}
use Rattle.certificate.specs.Drafts.{front_lines, is_some_item}
use Rattle.certificate.specs.declared.open_walk.OpenRepeat.{OpenRepeat}
use Rattle.certificate.specs.declared.walk.CertItem.{CertItem}
use Rattle.certificate.specs.declared.walk.CertItem.TheVariants.{Repeat}
use Rattle.certificate.specs.declared.line.WalkLine.TheVariants as w
use Rattle.certificate.proofs.WalkLaws.{front-end, nest-end, some_end, some_from}
use Rattle.certificate.proofs.open_walk.OpenWalk.close.Goals as goal

pub returns : goal.returns
returns c =
    let o = c.in-Some.last in
    let body = c.replace-body.result in
    let pushed : c.push.new.self.items ≡ o.before.items ++ Repeat o.count body ∷ [] = search rules in
    let taken : body.items ≡ c.args.self.now.items.items = search rules in
    let some : is_some_item c.args.self.now.items.items ≡ true = some_from c.args.self.now.items.items (λ e. let long : length c.args.self.now.items.items ≡ 0 = ap length e in let size : vec_len c.args.self.now.items ≡ 0 = search (rules, long, c.args.self.now.items.ok) in eqb-false (vec_len c.args.self.now.items) 0 (sym c.is_empty.ensures ∙ c.if-is_empty.false) size) in (
      nest-end c.args.self.now.opened.items c.pop.new.self.items o _ _ c.in-Some.ensures.items some (ap is_some_item pushed ∙ some_end o.before.items (Repeat o.count body)),
      ap (λ (xs : List CertItem). front_lines c.pop.new.self.items xs) pushed
          ∙ front-end c.pop.new.self.items o body
          ∙ ap (λ (os : List OpenRepeat). front_lines os body.items ++ w.End ∷ []) (sym c.in-Some.ensures.items)
          ∙ ap (λ (xs : List CertItem). front_lines c.args.self.now.opened.items xs ++ w.End ∷ []) taken,
    )
