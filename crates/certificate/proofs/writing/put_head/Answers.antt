use Rattle.std.proofs.Common.{rules, ◌≡◌, ◌++◌, ◌==◌, codes, refl, sym, true, false}
use Rattle.std.specs.Cmp.Lexicographic.{pointwise}
use Rattle.bus_ticks.specs.Numbers.{numbers_of, profile_one}
use Rattle.outputs.proofs.PageLaws.{adds_both, adds_same}
use Rattle.certificate.specs.Written.{prices_text}
use Rattle.certificate.proofs.WriteLaws.{head_one, head_other}
use Rattle.certificate.proofs.writing.put_head.Goals as goal

pub returns-then-eq : goal.returns-then-eq
returns-then-eq g c =
    let ns = numbers_of c.args.profile.now in
    let same : pointwise ◌==◌ ns profile_one ≡ true = search rules in
    adds_same g.O.Output.taken g.O.Output.failures c.args.out.now c.put.new.out c.args.page.now c.put.new.self _ _
    (head_one ns same) c.put.ensures

pub returns : goal.returns
returns g c =
    let taken = g.O.Output.taken in
    let failures = g.O.Output.failures in
    let ns = numbers_of c.args.profile.now in
    let head = codes "arcwcet certificate 2\nprofile" in
    let other : pointwise ◌==◌ ns profile_one ≡ false = search rules in
    let first = c.put-2 in
    let prices = adds_same taken failures first.new.out c.put_prices.new.out first.new.self c.put_prices.new.page _ (prices_text ns) (search rules) c.put_prices.ensures in
    let rest = adds_both taken failures first.new.out c.put_prices.new.out c.put-3.new.out first.new.self c.put_prices.new.page c.put-3.new.self (prices_text ns) (codes "\n") prices c.put-3.ensures in
    adds_same taken failures c.args.out.now c.put-3.new.out c.args.page.now c.put-3.new.self _ _ (sym (head_other ns refl other))
    (adds_both taken failures c.args.out.now first.new.out c.put-3.new.out c.args.page.now first.new.self c.put-3.new.self head (prices_text ns ++ codes "\n") first.ensures rest)
