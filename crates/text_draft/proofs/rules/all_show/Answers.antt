use Rattle.std.proofs.Common.{◌≡◌, ◌∙◌, false, true, refl, sym, rules}
use Rattle.std.proofs.lemmas.Bool.{false≢true}
use Rattle.text_draft.proofs.RuleLaws.{all_shown, one_shown}
use Rattle.text_draft.proofs.rules.all_show.Goals as goal

pub returns-then-not-nth_shows : goal.returns-then-not-nth_shows
returns-then-not-nth_shows c = (
  λ e. absurd (false≢true e),
  λ all. absurd (false≢true ((let no : false ≡ c.nth_shows.result = search rules in no) ∙ c.nth_shows.ensures.1 (λ at is. all at))),
)

pub loop-n-preserved : goal.loop-n-preserved
loop-n-preserved c =
    one_shown c.args.image.now c.args.class c.loop-n.n (c.nth_shows.ensures.0 (let yes : c.nth_shows.result ≡ true = search rules in yes)) c.loop-n.invariant

pub returns : goal.returns
returns c = (
  λ e. all_shown c.args.image.now c.args.class c.loop-n.n (let le = c.loop-n-test.false in search rules) c.loop-n.invariant,
  λ all. refl,
)
