-- The lines of a walk, as it grows by a line.
use Rattle.std.proofs.Common.{◌≡◌, ◌∙◌, Bool, true, ℕ, suc, List, [], ◌∷◌, ◌++◌, length, Vec, Some, None, refl, sym, ap, arith, append_assoc, length-append, if◌then◌else◌}
use Rattle.std.specs.List.{flat_map}
use Rattle.std.specs.declared.alloc.Global.{Global}
use Rattle.std.proofs.lemmas.List.{flat_map_more}
use Rattle.std.proofs.lemmas.List.Folds.{flat_map-map}
use Rattle.certificate.specs.declared.walk.StepLine.{StepLine}
use Rattle.certificate.specs.declared.walk.CertItem.{CertItem}
use Rattle.certificate.specs.declared.walk.CertItem.TheOpen.{CertItem-F}
use Rattle.certificate.specs.declared.walk.CertItem.TheVariants.{Step, Repeat, rolls-Step, rolls-Repeat}
use Rattle.certificate.specs.declared.walk.CertItem.TheFolds.{fold-CertItem, fold-roll-CertItem}
use Rattle.certificate.specs.declared.open_walk.OpenRepeat.{OpenRepeat}
use Rattle.certificate.specs.declared.line.WalkLine.{WalkLine}
use Rattle.certificate.specs.declared.line.WalkLine.TheVariants as w
use Rattle.certificate.specs.Walk.{cert_item_lines, cert_item_step, cert_walk_lines, closed, repeated_lines}
use Rattle.certificate.specs.Drafts.{front_lines, is_some_item, open_lines}

-- ## One item

pub lines-step : (s : StepLine) → cert_item_lines (Step s) ≡ w.Step s ∷ []
lines-step s = ap (fold-CertItem (List WalkLine) cert_item_step) (sym (rolls-Step s)) ∙ fold-roll-CertItem (List WalkLine) cert_item_step (CertItem-F.Step s)

pub lines-repeat : (k : ℕ) (body : Vec CertItem Global) → cert_item_lines (Repeat k body) ≡ repeated_lines k (cert_walk_lines body.items)
lines-repeat k body =
    ap (fold-CertItem (List WalkLine) cert_item_step) (sym (rolls-Repeat k body)) ∙ fold-roll-CertItem (List WalkLine) cert_item_step (CertItem-F.Repeat k body)
    ∙ ap (repeated_lines k) (flat_map-map (λ x. x) cert_item_lines body.items)

-- ## A front that grows

pub front-end : (os : List OpenRepeat) (o : OpenRepeat) (body : Vec CertItem Global)
    → front_lines os (o.before.items ++ Repeat o.count body ∷ []) ≡ front_lines (os ++ o ∷ []) body.items ++ w.End ∷ []
front-end os o body =
    let inner = cert_walk_lines body.items in
    let before = cert_walk_lines o.before.items in
    let front = flat_map open_lines os in
    ap (λ (ls : List WalkLine). front ++ ls) (sym (flat_map_more cert_item_lines [] o.before.items (Repeat o.count body)) ∙ ap (λ (ls : List WalkLine). before ++ ls) (lines-repeat o.count body))
    ∙ ap (λ (ls : List WalkLine). front ++ ls) (sym (append_assoc before (w.Repeat o.count ∷ []) (inner ++ w.End ∷ [])))
    ∙ sym (append_assoc front (open_lines o) (inner ++ w.End ∷ []))
    ∙ ap (λ (ls : List WalkLine). ls ++ (inner ++ w.End ∷ [])) (flat_map_more open_lines [] os o)
    ∙ sym (append_assoc (flat_map open_lines (os ++ o ∷ [])) inner (w.End ∷ []))

-- ## How it nests

pub some_end : (items : List CertItem) (i : CertItem) → is_some_item (items ++ i ∷ []) ≡ true
some_end [] i = refl
some_end (x ∷ items) i = refl

pub some_from : (items : List CertItem) → (items ≡ [] → ⊥) → is_some_item items ≡ true
some_from [] some = absurd (some refl)
some_from (x ∷ items) some = refl

pub nest-end : (opened os : List OpenRepeat) (o : OpenRepeat) (some last : Bool) → opened ≡ os ++ o ∷ [] → some ≡ true → last ≡ true
    → (if some then closed (length opened) else None) ≡ Some (record { opened = length os; some = last })
nest-end opened os o some last is stands goes =
    let longer : length opened ≡ suc (length os) = omega (arith, ap length is, length-append os (o ∷ [])) in
    rw (stands, longer, goes) refl
