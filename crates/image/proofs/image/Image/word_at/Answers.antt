use Rattle.std.proofs.Common.{◌≡◌, ◌∙◌, ◌++◌, Some, ap, sym, subst}
use Rattle.std.specs.Prelude.{IsSome}
use Rattle.image.specs.Image.{Words, word_of}
use Rattle.image.proofs.GapLemmas.{Ascends-back, Ascends-front, word_back, word_front}
use Rattle.image.proofs.WordLemmas.{held}
use Rattle.image.proofs.image.Image.word_at.Goals as goal

pub word_below-requires : goal.word_below-requires
word_below-requires c = rw c.deref.ensures.value (Ascends-front _ c.self.inside.above.items c.self.invariant.ascends)

pub word_above-requires : goal.word_above-requires
word_above-requires c = Ascends-back c.self.inside.below.items _ c.self.invariant.ascends

found : (c : goal.In-Some) → word_of (c.self.inside.below.items ++ c.self.inside.above.items) c.args.address ≡ Some c.in-Some.word
found c = word_front c.self.inside.below.items _ c.args.address c.in-Some.word (ap (λ (ws : Words). word_of ws c.args.address) (sym c.deref.ensures.value) ∙ sym c.word_below.ensures ∙ c.in-Some.is)

pub returns-in-Some-clause-value : goal.returns-in-Some-clause-value
returns-in-Some-clause-value c = rw (← c.self.view_is) (sym (found c))

pub returns-in-Some-clause-held : goal.returns-in-Some-clause-held
returns-in-Some-clause-held c = λ some. held _ c.args.address c.self.invariant.allowed (subst IsSome (sym (found c)) some)

beyond : (c : goal.After-word_above) → c.word_above.result ≡ word_of (c.self.inside.below.items ++ c.self.inside.above.items) c.args.address
beyond c =
    c.word_above.ensures
    ∙ sym (word_back c.self.inside.below.items c.self.inside.above.items c.args.address (ap (λ (ws : Words). word_of ws c.args.address) (sym c.deref.ensures.value) ∙ sym c.word_below.ensures ∙ c.in-None.is))

pub returns-in-None-clause-value : goal.returns-in-None-clause-value
returns-in-None-clause-value c = rw (← c.self.view_is) (beyond c)

pub returns-in-None-clause-held : goal.returns-in-None-clause-held
returns-in-None-clause-held c = λ some. held _ c.args.address c.self.invariant.allowed (subst IsSome (beyond c) some)
