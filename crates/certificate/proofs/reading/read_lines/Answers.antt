use Rattle.std.proofs.Common.{◌≡◌, ◌∙◌, ◌+◌, ◌∷◌, ◌++◌, [], ℕ, List, suc, true, false, length, refl, sym, ap, subst, arith, append-nil, length-append, true≢false}
use Rattle.std.proofs.lemmas.Bool.{eqb-true, eqb-false}
use Rattle.std.proofs.lemmas.List.{nil_from_length}
use Rattle.certificate.specs.declared.line.Line.{Line}
use Rattle.certificate.specs.declared.line.Line.TheVariants.{Walk}
use Rattle.certificate.specs.declared.line.WalkLine.TheVariants.{Step}
use Rattle.certificate.specs.Drafts.{Takes, lines_of, nest_of, reached_of}
use Rattle.certificate.specs.Faults.{Follow}
use Rattle.certificate.specs.Lines.{cert_lines, said_by}
use Rattle.certificate.specs.Words.{line_words, text_of}
use Rattle.certificate.proofs.ReadLaws.{front_grows, no_other, stops_at, walk_goes_on}
use Rattle.certificate.proofs.TextLaws.{line-end}
use Rattle.certificate.proofs.reading.read_lines.Goals as goal

pub returns-then-not-branch-clause-bad_line : goal.returns-then-not-branch-clause-bad_line
returns-then-not-branch-clause-bad_line c = λ n same.
    let inv = c.loop-step.invariant in
    let line = Walk (Step c.in-Some.step) in
    let number : c.loop-step.number ≡ n = cc in
    let refused : Takes c.loop-step.draft c.take_walk.new.self line false = subst (Takes c.loop-step.draft c.take_walk.new.self line) {y = false} c.if-not-branch.true c.in_ok-take_walk.ensures.taken in
    stops_at c.args.text.now n (lines_of c.loop-step.draft) (reached_of c.loop-step.draft) c.loop-step.rest.now
    (line_words line) c.in-Some.after.now (record { fit = inv.fit; reached = inv.reached }) inv.going inv.text_is
    c.in-Some.ensures.1 (line-end line c.in-Some.ensures.0) (sym number ∙ inv.counted)
    (no_other (reached_of c.loop-step.draft) (line_words line) line c.in-Some.ensures.0 refl refused)

pub loop-step-preserved-in-Some : goal.loop-step-preserved-in-Some
loop-step-preserved-in-Some c =
    let inv = c.loop-step.invariant in
    let line = Walk (Step c.in-Some.step) in
    let took : Takes c.loop-step.draft c.take_walk.new.self line true = subst (Takes c.loop-step.draft c.take_walk.new.self line) {y = true} c.if-not-branch.false c.in_ok-take_walk.ensures.taken in
    let front = front_grows c.args.text.now (lines_of c.loop-step.draft) (lines_of c.take_walk.new.self) (reached_of c.loop-step.draft) (reached_of c.take_walk.new.self) c.loop-step.rest.now (line_words line) c.in-Some.after.now line
    inv.text_is (record { fit = inv.fit; reached = inv.reached }) c.in-Some.ensures.1 refl c.in-Some.ensures.0 took.goes_on took.lines in
    let longer : length (lines_of c.take_walk.new.self) ≡ length (lines_of c.loop-step.draft) + 1 = ap length took.lines ∙ length-append (lines_of c.loop-step.draft) (line ∷ []) in
    let shorter : length c.loop-step.rest.now ≡ length (line_words line) + suc (length c.in-Some.after.now) = ap length c.in-Some.ensures.1 ∙ length-append (line_words line) (10 ∷ c.in-Some.after.now) in
    record { draft = took.draft; text_is = front.text_is; fit = front.follow.fit; reached = front.follow.reached; going = walk_goes_on c.loop-step.draft.stage (nest_of c.loop-step.draft.walk) (Step c.in-Some.step) (reached_of c.take_walk.new.self) took.goes_on; counted = omega (arith, inv.counted, longer); few = omega (arith, inv.few, shorter) }

pub returns-in_default-line_of-clause-bad_line : goal.returns-in_default-line_of-clause-bad_line
returns-in_default-line_of-clause-bad_line c = λ n same.
    let inv = c.loop-step.invariant in
    let number : c.loop-step.number ≡ n = cc in
    stops_at c.args.text.now n (lines_of c.loop-step.draft) (reached_of c.loop-step.draft) c.loop-step.rest.now
    c.in-Some-line_first.words.now c.in-Some-line_first.after.now (record { fit = inv.fit; reached = inv.reached }) inv.going inv.text_is
    c.in-Some-line_first.ensures.0 c.in-Some-line_first.ensures.1 (sym number ∙ inv.counted)
    (λ l fits e. absurd (c.in_default-line_of.ensures l fits e))

pub returns-then-not-branch-2-clause-bad_line : goal.returns-then-not-branch-2-clause-bad_line
returns-then-not-branch-2-clause-bad_line c = λ n same.
    let inv = c.loop-step.invariant in
    let number : c.loop-step.number ≡ n = cc in
    let refused : Takes c.loop-step.draft c.take.new.self c.in-Some-line_of.line false = subst (Takes c.loop-step.draft c.take.new.self c.in-Some-line_of.line) {y = false} c.if-not-branch-2.true c.in_ok-take.ensures.taken in
    stops_at c.args.text.now n (lines_of c.loop-step.draft) (reached_of c.loop-step.draft) c.loop-step.rest.now
    c.in-Some-line_first.words.now c.in-Some-line_first.after.now (record { fit = inv.fit; reached = inv.reached }) inv.going inv.text_is
    c.in-Some-line_first.ensures.0 c.in-Some-line_first.ensures.1 (sym number ∙ inv.counted)
    (no_other (reached_of c.loop-step.draft) c.in-Some-line_first.words.now c.in-Some-line_of.line c.in-Some-line_of.ensures.0 c.in-Some-line_of.ensures.1 refused)

pub returns-then-not-is_empty-clause-trailing : goal.returns-then-not-is_empty-clause-trailing
returns-then-not-is_empty-clause-trailing c = λ _.
    let inv = c.loop-step.invariant in
    let took : Takes c.loop-step.draft c.take.new.self c.in-Some-line_of.line true = subst (Takes c.loop-step.draft c.take.new.self c.in-Some-line_of.line) {y = true} c.if-not-branch-2.false c.in_ok-take.ensures.taken in
    let front = front_grows c.args.text.now (lines_of c.loop-step.draft) (lines_of c.take.new.self) (reached_of c.loop-step.draft) (reached_of c.take.new.self) c.loop-step.rest.now c.in-Some-line_first.words.now c.in-Some-line_first.after.now c.in-Some-line_of.line
    inv.text_is (record { fit = inv.fit; reached = inv.reached }) c.in-Some-line_first.ensures.0 c.in-Some-line_of.ensures.1 c.in-Some-line_of.ensures.0 took.goes_on took.lines in
    record {
      lines = lines_of c.take.new.self;
      to = reached_of c.take.new.self;
      follow = front.follow;
      done = c.is_done.ensures.0 c.if-is_done.true;
      rest = c.in-Some-line_first.after.now;
      some = λ none. eqb-false _ _ (sym c.is_empty.ensures ∙ c.if-not-is_empty.true) (ap length none);
      text_is = front.text_is;
    }

pub returns-then-is_done-clause-found : goal.returns-then-is_done-clause-found
returns-then-is_done-clause-found c =
    let inv = c.loop-step.invariant in
    let took : Takes c.loop-step.draft c.take.new.self c.in-Some-line_of.line true = subst (Takes c.loop-step.draft c.take.new.self c.in-Some-line_of.line) {y = true} c.if-not-branch-2.false c.in_ok-take.ensures.taken in
    let front = front_grows c.args.text.now (lines_of c.loop-step.draft) (lines_of c.take.new.self) (reached_of c.loop-step.draft) (reached_of c.take.new.self) c.loop-step.rest.now c.in-Some-line_first.words.now c.in-Some-line_first.after.now c.in-Some-line_of.line
    inv.text_is (record { fit = inv.fit; reached = inv.reached }) c.in-Some-line_first.ensures.0 c.in-Some-line_of.ensures.1 c.in-Some-line_of.ensures.0 took.goes_on took.lines in
    let same : cert_lines (said_by c.finish.result) ≡ lines_of c.take.new.self = c.finish.ensures in
    let none : c.in-Some-line_first.after.now ≡ [] = nil_from_length _ (eqb-true _ _ (sym c.is_empty.ensures ∙ c.if-not-is_empty.false)) in
    record {
      to = reached_of c.take.new.self;
      follow = subst (λ (ls : List Line). Follow ls (reached_of c.take.new.self)) (sym same) front.follow;
      done = c.is_done.ensures.0 c.if-is_done.true;
      text_is = front.text_is ∙ ap (λ (t : List ℕ). text_of (lines_of c.take.new.self) ++ t) none ∙ append-nil (text_of (lines_of c.take.new.self)) ∙ ap text_of (sym same);
    }

pub loop-step-preserved : goal.loop-step-preserved
loop-step-preserved c =
    let inv = c.loop-step.invariant in
    let took : Takes c.loop-step.draft c.take.new.self c.in-Some-line_of.line true = subst (Takes c.loop-step.draft c.take.new.self c.in-Some-line_of.line) {y = true} c.if-not-branch-2.false c.in_ok-take.ensures.taken in
    let front = front_grows c.args.text.now (lines_of c.loop-step.draft) (lines_of c.take.new.self) (reached_of c.loop-step.draft) (reached_of c.take.new.self) c.loop-step.rest.now c.in-Some-line_first.words.now c.in-Some-line_first.after.now c.in-Some-line_of.line
    inv.text_is (record { fit = inv.fit; reached = inv.reached }) c.in-Some-line_first.ensures.0 c.in-Some-line_of.ensures.1 c.in-Some-line_of.ensures.0 took.goes_on took.lines in
    let longer : length (lines_of c.take.new.self) ≡ length (lines_of c.loop-step.draft) + 1 = ap length took.lines ∙ length-append (lines_of c.loop-step.draft) (c.in-Some-line_of.line ∷ []) in
    let shorter : length c.loop-step.rest.now ≡ length c.in-Some-line_first.words.now + suc (length c.in-Some-line_first.after.now) = ap length c.in-Some-line_first.ensures.0 ∙ length-append c.in-Some-line_first.words.now (10 ∷ c.in-Some-line_first.after.now) in
    record { draft = took.draft; text_is = front.text_is; fit = front.follow.fit; reached = front.follow.reached; going = λ d. true≢false (sym (c.is_done.ensures.1 d) ∙ c.if-is_done.false); counted = omega (arith, inv.counted, longer); few = omega (arith, inv.few, shorter) }
