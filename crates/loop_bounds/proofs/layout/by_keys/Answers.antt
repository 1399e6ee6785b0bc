use Rattle.std.proofs.Common.{◌≡◌, ◌++◌, [], ◌∷◌, ◌∙◌, refl, sym, subst}
use Rattle.std.specs.Ordering.{nat_cmp}
use Rattle.std.specs.Cmp.Lexicographic.{slice_cmp}
use Rattle.loop_bounds.specs.Layout.{chain_of, items_of, kept_key}
use Rattle.loop_bounds.proofs.KeyLemmas.{compared_after, same_option}
use Rattle.loop_bounds.proofs.layout.by_keys.Goals as goal

pub returns-then-eq : goal.returns-then-eq
returns-then-eq c =
    let chains = items_of c.args.chains.now in
    let left = c.args.left.now in
    let right = c.args.right.now in
    let inner = same_option left.inner right.inner (sym c.eq.ensures ∙ c.if-eq.true) in
    c.cmp.ensures
    ∙ sym (compared_after (chain_of chains left.inner) left.rank right.rank)
    ∙ subst (λ o. slice_cmp nat_cmp (kept_key chains left) (chain_of chains left.inner ++ right.rank ∷ []) ≡ slice_cmp nat_cmp (kept_key chains left) (chain_of chains o ++ right.rank ∷ [])) inner refl
